-- A label at the end of a list.
use Rattle.std.proofs.Common.{◌≡◌, ℕ, Bool, true, false, cond, List, [], ◌∷◌, ◌++◌, ℤ, Ok, Err, Result, sym, ap, ◌∙◌}
use Rattle.std.proofs.lemmas.Bool.{cond-false}
use Rattle.geometry.specs.declared.label.Label.{Label}
use Rattle.geometry.specs.declared.refusal.Refusal.{Refusal}
use Rattle.geometry.specs.declared.refusal.Reason.TheVariants.{NumberPresent}
use Rattle.geometry.specs.Refusals.{refusal}
use Rattle.geometry.specs.Plane.{label_from}
use Rattle.geometry.specs.Numbers.{present, distinct}
use Rattle.listing.specs.Lists.{adding}
use Rattle.geometry.proofs.Present.{distinct_push}

pub adding-fits : (before : List Label) (n : ℕ) (x y : ℤ) (l : Label) → Ok l ≡ label_from n x y → present n before ≡ false → Ok (before ++ l ∷ []) ≡ adding before n x y
adding-fits before n x y l e p =
    let R = Result (List Label) Refusal in
    sym (cond-false {A = R} (present n before) (Err (refusal NumberPresent 0)) (Ok (before ++ l ∷ [])) p)
    ∙ ap (λ (r : Result Label Refusal). elim r as (λ _. R) [ Ok l ↦ cond (present n before) (Err (refusal NumberPresent 0)) (Ok (before ++ l ∷ [])) | Err e ↦ Err e ]) e

-- numbers stay distinct, whether the label was put at the end or found no memory
pub distinct-after : (before after : List Label) (b : Bool) (l : Label) → after ≡ cond b (before ++ l ∷ []) before → present l.number before ≡ false → distinct before ≡ true → distinct after ≡ true
distinct-after before after true l e p d = ap distinct e ∙ distinct_push before l p d
distinct-after before after false l e p d = ap distinct e ∙ d
