use Rattle.std.proofs.Common.{◌≡◌, ℕ, cond, List, [], ◌∷◌, drop, Some, None, codes, Option, Result, sym, refl, ◌∙◌, arith, Bor}
use Rattle.std.specs.Option.{ok_or}
use Rattle.std.specs.Str.{bytes_eq}
use Rattle.script.specs.declared.command.Command.{Command}
use Rattle.script.specs.declared.command.Command.TheVariants.{Label, Plain, Grid, Image, Labels, Nodes, Ask, Measure, Limit, Edit, Add, Withdraw, Cancel, Keep}
use Rattle.script.specs.declared.command.Query.TheVariants.{Nearest, Mutual, Linked, Links}
use Rattle.script.specs.Commands.{Told, Measured, Limited, Behind, Parsed, name_of, word_of, image_of}
use Rattle.script.proofs.Lists.{behind, named}
use Rattle.script.proofs.command.parse.Goals as goal

-- what the words behind `image`, `measure` or `limit` say of a command
abbrev Says : List ℕ → List (Bor (List ℕ)) → Command → Type 0
Says w ds c =
    cond (bytes_eq w (codes "image")) (Some c ≡ image_of ds) (
    cond (bytes_eq w (codes "measure")) (Measured ds c) (
    cond (bytes_eq w (codes "limit")) (Limited ds c) (Unit {0})))

says : (ds : List (Bor (List ℕ))) (c : Command) → Behind ds c → Says (word_of c) ds c
says ds (Label n x y) h = tt
says ds (Plain x y k) h = tt
says ds (Grid r c s x y n) h = tt
says ds (Image p) h = h
says ds Labels h = tt
says ds Nodes h = tt
says ds (Ask (Nearest x y k own)) h = tt
says ds (Ask (Mutual x y k l own)) h = tt
says ds (Ask (Linked n k l)) h = tt
says ds (Ask (Links k l)) h = tt
says ds (Measure k) h = h
says ds (Limit l n) h = h
says ds Edit h = tt
says ds (Add n x y) h = tt
says ds (Withdraw n) h = tt
says ds Cancel h = tt
says ds Keep h = tt

-- what the words behind the name give, the line's words give
parsed : {E : Type 0} (w : List ℕ) (ws : List (Bor (List ℕ))) (o : Option Command) (e : E) (r : Result Command E) → r ≡ ok_or o e → name_of ws ≡ w → Told (Says w (drop 1 ws)) o → ((c : Command) → Says w (drop 1 ws) c → (w ≡ word_of c) × Behind (drop 1 ws) c) → Parsed ws r
parsed w ws None e r p n k f = rw p (λ c g. k c (rw (sym n ∙ g.0) (says (drop 1 ws) c g.1)))
parsed w ws (Some c) e r p n k f = rw p (n ∙ (f c k).0, (f c k).1)

-- what a call ensures, at the words behind the name
told : (P : List (Bor (List ℕ)) → Command → Type 0) (ws ds : List (Bor (List ℕ))) (o : Option Command) → ds ≡ drop 1 ws → Told (P ds) o → Told (P (drop 1 ws)) o
told P ws ds o q k = rw q at k

never : {V : Type 0} (v : V) → Some v ≡ None → ⊥
never v h = let z : ◌≡◌ {A = ℕ} 0 1 = cc in omega arith

path : (ws ds : List (Bor (List ℕ))) (o : Option Command) → ds ≡ drop 1 ws → o ≡ image_of ds → Told (λ c. Some c ≡ image_of (drop 1 ws)) o
path ws ds None q e = λ c h. never c (h ∙ sym (rw q at e))
path ws ds (Some c) q e = rw q at e

an-image : (ds : List (Bor (List ℕ))) (c : Command) → Some c ≡ image_of ds → (codes "image" ≡ word_of c) × Behind ds c
an-image [] c h = absurd (never c h)
an-image (w ∷ []) c h = let e : c ≡ Image w = cc in rw e (refl, refl)
an-image (w ∷ v ∷ ds) c h = absurd (never c h)

pub returns-in-image : goal.returns-in-image
returns-in-image c =
    parsed (codes "image") c.args.words.now c.image.result _ _ c.ok_or-in-image.ensures.value (named c.args.words.now _ refl ∙ c.in-image.is) (path c.args.words.now _ c.image.result (behind c.args.words.now _ refl) c.image.ensures) (an-image (drop 1 c.args.words.now))

pub returns-in-measure : goal.returns-in-measure
returns-in-measure c =
    parsed (codes "measure") c.args.words.now c.measure.result _ _ c.ok_or-in-measure.ensures.value (named c.args.words.now _ refl ∙ c.in-measure.is) (told Measured c.args.words.now _ c.measure.result (behind c.args.words.now _ refl) c.measure.ensures) (λ d h. rw h.3 (refl, (h.0, h.1, h.2, refl)))

pub returns-in-limit : goal.returns-in-limit
returns-in-limit c =
    parsed (codes "limit") c.args.words.now c.limit.result _ _ c.ok_or-in-limit.ensures.value (named c.args.words.now _ refl ∙ c.in-limit.is) (told Limited c.args.words.now _ c.limit.result (behind c.args.words.now _ refl) c.limit.ensures) (λ d h. rw h.3 (refl, (h.0, h.1, h.2, refl)))
