use Rattle.std.proofs.Common.{◌≡◌, ℕ, ◌+◌, ◌<◌, List, ◌∷◌, length, get_or, take, drop, set, ℤ, sym, ◌∙◌, arith, length-set, drop-cons, add-one, w64, SFits, Bor, rules}
use Rattle.std.specs.Str.Parse.{IsNumeral, without_leading_sign}
use Rattle.std.proofs.ByRecursion.{All-more}
use Rattle.std.proofs.lemmas.List.{take_more_set, map_more}
use Rattle.std.proofs.lemmas.Int.{to_z-of_z}
use Rattle.script.specs.Whole.{whole_of}
use Rattle.script.specs.Commands.{Each, numbers_of}
use Rattle.script.proofs.command.wholes.Goals as goal

-- the item that stands first behind i items
front : {X : Type 0} (ws next : List X) (w : X) (i : ℕ) → i < length ws → drop i ws ≡ w ∷ next → (get_or ws i w ≡ w) × (next ≡ drop (i + 1) ws)
front ws next w i h e =
    let split = drop-cons ws i w h in
    let up = add-one i in
    (cc, cc)

-- one more word is read, as the number v
one_more : (ws next : List (Bor (List ℕ))) (ns : List ℤ) (i : ℕ) (w : Bor (List ℕ)) (v : ℤ) → i < length ws → length ns ≡ length ws → drop i ws ≡ w ∷ next → IsNumeral 10 (without_leading_sign w.now) × (v ≡ whole_of w.now) → Each (take i ws) → take i ns ≡ numbers_of (take i ws) → Each (take (i + 1) ws) × (take (i + 1) (set ns i v) ≡ numbers_of (take (i + 1) ws)) × (length (set ns i v) ≡ length ws) × (next ≡ drop (i + 1) ws)
one_more ws next ns i w v h l e got each inv =
    let here = (front ws next w i h e).0 in
    let more = map_more (λ x. whole_of x.now) ws i w h in
    let put = take_more_set ns i v (omega arith) in
    (All-more _ ws i w h each (rw here got.0), (let value = got.1 in cc), simp length-set l, (front ws next w i h e).1)

pub loop-number-preserved : goal.loop-number-preserved
loop-number-preserved g c =
    let f : SFits w64 c.in_ok-number.field-0 = search rules in
    let got = c.in_ok-number.ensures in
    let inv = c.loop-number.invariant in
    let less : c.loop-number.number-index < length c.args.words.now = omega (arith, inv.2, c.loop-number-test.true) in
    one_more c.args.words.now _ c.loop-number.number-items c.loop-number.number-index c.in_ok-next.field-0.now _ less inv.2 (sym inv.3 ∙ c.in_ok-next.ensures.steps) (got.0, to_z-of_z w64 c.in_ok-number.field-0 f ∙ got.1) inv.0 inv.1
