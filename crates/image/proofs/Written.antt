-- The numbers of an image, by the bytes that write them.
use Rattle.std.proofs.Common.{◌≡◌, ℕ, ◌+◌, ◌-◌, ◌*◌, ◌<◌, ◌≤◌, true, false, ◌&&◌, ◌⊎◌, List, length, get_or, take, drop, ℤ, is_ok, Ok, Err, sym, refl, ap, ◌∙◌, ⊎_elim, arith, w32, SFits, to_z, of_z}
use Rattle.std.proofs.lemmas.List.{get_or-drop, drop-drop, take_rest}
use Rattle.std.proofs.lemmas.Bool.Decides.{nat_tests}
use Rattle.std.proofs.lemmas.Bool.{cases_Bool, cond-true, cond-false}
use Rattle.std.proofs.lemmas.Int.{to_z-of_z}
use Rattle.geometry.specs.declared.refusal.Reason.TheVariants.{BadBox}
use Rattle.geometry.specs.Refusals.{refusal}
use Rattle.geometry.specs.Plane.{span, rect_from, rect_at}
use Rattle.image.specs.Checks.{node_fine}
use Rattle.image.specs.Layout.{two, four, target_start, image_of}

module _ (bs : List ℕ) where
  pub level-is : (i : ℕ) → get_or bs (4 + 2 * i) 0 ≡ (image_of bs).level i
  unfolding image_of
  level-is i = refl

  pub count-is : (i : ℕ) → get_or bs (5 + 2 * i) 0 ≡ (image_of bs).count i
  unfolding image_of
  count-is i = refl

  pub nodes-is : two bs 0 ≡ (image_of bs).nodes
  unfolding image_of
  nodes-is = refl

  pub entries-is : two bs 2 ≡ (image_of bs).entries
  unfolding image_of
  entries-is = refl

  pub target_is : (n m e : ℕ) → n ≡ (image_of bs).nodes → m ≡ (image_of bs).entries → four bs (target_start n m e) ≡ (image_of bs).target e
  unfolding image_of
  target_is n m e h k = λ i. four bs (target_start (h i) (k i) e)

  -- what is left of the bytes at the level of node i
  module _ (left : List ℕ) (i : ℕ) (here : left ≡ drop (4 + 2 * i) bs) where
    level-left : get_or left 0 0 ≡ (image_of bs).level i
    level-left = ap (λ l. get_or l 0 0) here ∙ get_or-drop (4 + 2 * i) bs 0 0 ∙ ap (λ k. get_or bs k 0) (let w : 4 + 2 * i + 0 ≡ 4 + 2 * i = omega arith in w) ∙ level-is i

    count_left : get_or left 1 0 ≡ (image_of bs).count i
    count_left = ap (λ l. get_or l 1 0) here ∙ get_or-drop (4 + 2 * i) bs 1 0 ∙ ap (λ k. get_or bs k 0) (let w : 4 + 2 * i + 1 ≡ 5 + 2 * i = omega arith in w) ∙ count-is i

    pub node-good : get_or left 0 0 ≤ 7 → get_or left 1 0 ≤ 12 → node_fine (image_of bs) i ≡ true
    node-good h k = let a = level-left in let b = count_left in grind (arith, nat_tests)

    pub node-bad : (7 < get_or left 0 0) ⊎ ((get_or left 0 0 ≤ 7) × (12 < get_or left 1 0)) → node_fine (image_of bs) i ≡ false
    node-bad h = let a = level-left in let b = count_left in grind (arith, nat_tests)

    pub node-past : take (length left - 2) (drop 2 left) ≡ drop (4 + 2 * (i + 1)) bs
    node-past = take_rest left 2 ∙ ap (drop 2) here ∙ drop-drop 2 (4 + 2 * i) bs ∙ ap (λ k. drop k bs) (let w : 4 + 2 * i + 2 ≡ 4 + 2 * (i + 1) = omega arith in w)

-- numbers make a box when both its sides are spans
pub box-made : (w s e n : ℤ) → is_ok (rect_from w s e n) ≡ (span w e && span s n)
box-made w s e n = ⊎_elim
    (λ (t : (span w e && span s n) ≡ true). ap is_ok (cond-true (span w e && span s n) (Ok (rect_at w s e n)) (Err (refusal BadBox 0)) t) ∙ sym t)
    (λ (f : (span w e && span s n) ≡ false). ap is_ok (cond-false (span w e && span s n) (Ok (rect_at w s e n)) (Err (refusal BadBox 0)) f) ∙ sym f)
    (cases_Bool (span w e && span s n))

-- a result as a callee is passed it
pub passed : (r x : ℤ) → SFits w32 r → r ≡ x → to_z w32 (of_z w32 r) ≡ x
passed r x f e = to_z-of_z w32 r f ∙ e
