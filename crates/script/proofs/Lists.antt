-- What a slice pattern reads: the first word, and what it leaves behind its first item. What a loop that writes item after
-- item has written.
use Rattle.std.proofs.Common.{◌≡◌, ℕ, ◌+◌, ◌-◌, ◌<◌, List, [], ◌∷◌, ◌++◌, length, get_or, take, drop, sym, refl, ap, ◌∙◌, arith, length-drop, Bor}
use Rattle.std.specs.List.{flat_map}
use Rattle.std.proofs.lemmas.List.{take_all, take_more, flat_map_more}
use Rattle.script.specs.Commands.{name_of}

pub behind : {X : Type 0} (xs ys : List X) → xs ≡ ys → take (length xs - 1) (drop 1 xs) ≡ drop 1 ys
behind xs ys e = take_all (length xs - 1) (drop 1 xs) (simp length-drop (omega arith)) ∙ ap (drop 1) e

-- the first word, as the code reads it
pub named : (ws : List (Bor (List ℕ))) (d : Bor (List ℕ)) → d.now ≡ [] → name_of ws ≡ (get_or ws 0 d).now
named [] d e = sym e
named (w ∷ ws) d e = refl

-- one more item behind what is written
pub one_more : {X : Type 0} (f : X → List ℕ) (front was next : List ℕ) (xs : List X) (i : ℕ) (d x : X) → i < length xs → x ≡ get_or xs i d → was ≡ front ++ flat_map f (take i xs) → next ≡ was ++ f x → next ≡ front ++ flat_map f (take (i + 1) xs)
one_more f front was next xs i d x h e inv put =
    let more = take_more xs i d h in
    let onto = flat_map_more f front (take i xs) x in
    cc
