-- The commands that the words of a line give.
use Rattle.std.specs.Prelude.{◌≡◌, ℕ, List, [], ◌∷◌, map, length, take, drop, ℤ, pos, Some, None, codes, Option, Result, MatchResult, slice_index_or}
use Rattle.std.specs.Borrow.{Bor}
use Rattle.std.specs.Int.{saturate_to_bits}
use Rattle.std.specs.Str.Parse.{IsNumeral, without_leading_sign}
use Rattle.std.specs.List.{AllByRecursion, find}
use Rattle.std.specs.Option.{option_map}
use Rattle.std.specs.Str.{bytes_eq}
use Rattle.script.specs.declared.command.Command.{Command}
use Rattle.script.specs.declared.command.Command.TheVariants.{Label, Plain, Grid, Image, Labels, Nodes, Ask, Measure, Limit, Edit, Add, Withdraw, Cancel, Keep}
use Rattle.script.specs.declared.command.Query.TheVariants.{Nearest, Mutual, Linked, Links}
use Rattle.script.specs.declared.command.MeasureKind.{MeasureKind}
use Rattle.script.specs.declared.command.MeasureKind.TheVariants.{Straight, Street, Tile}
use Rattle.script.specs.declared.command.WorkList.{WorkList}
use Rattle.script.specs.declared.command.WorkList.TheVariants.{Numbers, Answers, Work}
use Rattle.script.specs.Whole.{whole_of, nearest_u32}

-- each of the words is a whole number
abbrev pub Each : List (Bor (List ℕ)) → Type 0
Each ws = AllByRecursion (λ w. IsNumeral 10 (without_leading_sign w.now)) ws

-- the words are n whole numbers
abbrev pub Wholes : ℕ → List (Bor (List ℕ)) → Type 0
Wholes n ws = (length ws ≡ n) × Each ws

abbrev pub numbers_of : List (Bor (List ℕ)) → List ℤ
numbers_of ws = map (λ w. whole_of w.now) ws

-- the number at a place, as the calls take it
abbrev pub coordinate : List ℤ → ℕ → ℤ
coordinate ns i = saturate_to_bits 31 (slice_index_or ns i (pos 0))

abbrev pub count : List ℤ → ℕ → ℕ
count ns i = nearest_u32 (slice_index_or ns i (pos 0))

-- there are no words, or they are `own` and a whole number
abbrev pub Own : List (Bor (List ℕ)) → Type 0
Own [] = Unit {0}
Own (w ∷ []) = ⊥
Own (w ∷ n ∷ []) = (w.now ≡ codes "own") × IsNumeral 10 (without_leading_sign n.now)
Own (w ∷ n ∷ v ∷ ws) = ⊥

-- the number behind `own`
abbrev pub own_of : List (Bor (List ℕ)) → Option ℕ
own_of [] = None
own_of (w ∷ []) = None
own_of (w ∷ n ∷ ws) = Some (nearest_u32 (whole_of n.now))

-- the words are n whole numbers, and then `own` and a whole number or nothing
abbrev pub Owned : ℕ → List (Bor (List ℕ)) → Type 0
Owned n ws = Wholes n (take n ws) × Own (drop n ws)

-- a value of which P holds, and nothing where there is none
abbrev pub Told : {V : Type 0} → (V → Type 0) → Option V → Type 0
Told {V} P None = (v : V) → P v → ⊥
Told P (Some v) = P v

-- a label's number and its place
abbrev pub placed_of : List ℤ → ℕ × ℤ × ℤ
placed_of ns = (count ns 0, coordinate ns 1, coordinate ns 2)

abbrev pub label_of : List ℤ → Command
label_of ns = Label (count ns 0) (coordinate ns 1) (coordinate ns 2)

abbrev pub add_of : List ℤ → Command
add_of ns = Add (count ns 0) (coordinate ns 1) (coordinate ns 2)

abbrev pub withdraw_of : List ℤ → Command
withdraw_of ns = Withdraw (count ns 0)

abbrev pub plain_of : List ℤ → Command
plain_of ns = Plain (coordinate ns 0) (coordinate ns 1) (count ns 2)

abbrev pub grid_of : List ℤ → Command
grid_of ns = Grid (count ns 0) (count ns 1) (count ns 2) (coordinate ns 3) (coordinate ns 4) (count ns 5)

abbrev pub linked_of : List ℤ → Command
linked_of ns = Ask (Linked (count ns 0) (count ns 1) (count ns 2))

abbrev pub links_of : List ℤ → Command
links_of ns = Ask (Links (count ns 0) (count ns 1))

abbrev pub nearest_of : List (Bor (List ℕ)) → Command
nearest_of ws = Ask (Nearest (coordinate (numbers_of (take 3 ws)) 0) (coordinate (numbers_of (take 3 ws)) 1) (count (numbers_of (take 3 ws)) 2) (own_of (drop 3 ws)))

abbrev pub mutual_of : List (Bor (List ℕ)) → Command
mutual_of ws = Ask (Mutual (coordinate (numbers_of (take 4 ws)) 0) (coordinate (numbers_of (take 4 ws)) 1) (count (numbers_of (take 4 ws)) 2) (count (numbers_of (take 4 ws)) 3) (own_of (drop 4 ws)))

-- the first word
abbrev pub name_of : List (Bor (List ℕ)) → List ℕ
name_of [] = []
name_of (w ∷ ws) = w.now

-- a measure's name
abbrev pub kind_word : MeasureKind → List ℕ
kind_word Straight = codes "straight"
kind_word Street = codes "street"
kind_word Tile = codes "tile"

-- a list's name
abbrev pub list_word : WorkList → List ℕ
list_word Numbers = codes "numbers"
list_word Answers = codes "answers"
list_word Work = codes "work"

-- what a word is the name of, in a list of names
abbrev pub named : {K : Type 0} → List (Bor (List ℕ) × K) → List ℕ → Option K
named ns w = option_map (λ n. n.1) (find (λ n. bytes_eq n.0.now w) ns)

-- the kind of a name, and an error where no kind has it
abbrev pub Named : {K E : Type 0} → (K → List ℕ) → List ℕ → Result K E → Type 0
Named {K} word_of w r = MatchResult r (λ k. w ≡ word_of k) (λ _. (k : K) → w ≡ word_of k → ⊥)

-- the one word is the name of the measure that is set
abbrev pub Measured : List (Bor (List ℕ)) → Command → Type 0
Measured ws c = (k : MeasureKind) × (length ws ≡ 1) × (name_of ws ≡ kind_word k) × (c ≡ Measure k)

-- the words are the name of the list that is limited, and a whole number
abbrev pub Limited : List (Bor (List ℕ)) → Command → Type 0
Limited ws c = (l : WorkList) × (name_of ws ≡ list_word l) × Wholes 1 (drop 1 ws) × (c ≡ Limit l (count (numbers_of (drop 1 ws)) 0))

-- the one word is a path
abbrev pub image_of : List (Bor (List ℕ)) → Option Command
image_of [] = None
image_of (w ∷ []) = Some (Image w)
image_of (w ∷ v ∷ ws) = None

-- a command's name
abbrev pub word_of : Command → List ℕ
word_of (Label n x y) = codes "label"
word_of (Plain x y k) = codes "plain"
word_of (Grid r c s x y n) = codes "lattice"
word_of (Image p) = codes "image"
word_of Labels = codes "labels"
word_of Nodes = codes "nodes"
word_of (Ask (Nearest x y k own)) = codes "nearest"
word_of (Ask (Mutual x y k l own)) = codes "mutual"
word_of (Ask (Linked n k l)) = codes "linked"
word_of (Ask (Links k l)) = codes "links"
word_of (Measure k) = codes "measure"
word_of (Limit l n) = codes "limit"
word_of Edit = codes "edit"
word_of (Add n x y) = codes "add"
word_of (Withdraw n) = codes "withdraw"
word_of Cancel = codes "cancel"
word_of Keep = codes "keep"

-- the words behind its name say the rest of a command
abbrev pub Behind : List (Bor (List ℕ)) → Command → Type 0
Behind ws (Label n x y) = Wholes 3 ws × (Label n x y ≡ label_of (numbers_of ws))
Behind ws (Plain x y k) = Wholes 3 ws × (Plain x y k ≡ plain_of (numbers_of ws))
Behind ws (Grid r c s x y n) = Wholes 6 ws × (Grid r c s x y n ≡ grid_of (numbers_of ws))
Behind ws (Image p) = Some (Image p) ≡ image_of ws
Behind ws Labels = length ws ≡ 0
Behind ws Nodes = length ws ≡ 0
Behind ws (Ask (Nearest x y k own)) = Owned 3 ws × (Ask (Nearest x y k own) ≡ nearest_of ws)
Behind ws (Ask (Mutual x y k l own)) = Owned 4 ws × (Ask (Mutual x y k l own) ≡ mutual_of ws)
Behind ws (Ask (Linked n k l)) = Wholes 3 ws × (Ask (Linked n k l) ≡ linked_of (numbers_of ws))
Behind ws (Ask (Links k l)) = Wholes 2 ws × (Ask (Links k l) ≡ links_of (numbers_of ws))
Behind ws (Measure k) = Measured ws (Measure k)
Behind ws (Limit l n) = Limited ws (Limit l n)
Behind ws Edit = length ws ≡ 0
Behind ws (Add n x y) = Wholes 3 ws × (Add n x y ≡ add_of (numbers_of ws))
Behind ws (Withdraw n) = Wholes 1 ws × (Withdraw n ≡ withdraw_of (numbers_of ws))
Behind ws Cancel = length ws ≡ 0
Behind ws Keep = length ws ≡ 0

-- the words give the command: the first is its name, and the others say the rest
abbrev pub Given : List (Bor (List ℕ)) → Command → Type 0
Given ws c = (name_of ws ≡ word_of c) × Behind (drop 1 ws) c

-- the command that the words give, and an error where they give none
abbrev pub Parsed : {E : Type 0} → List (Bor (List ℕ)) → Result Command E → Type 0
Parsed ws r = MatchResult r (Given ws) (λ _. (c : Command) → Given ws c → ⊥)
