-- What a change of an edit does, as a step of a run.
use Rattle.std.proofs.Common.{◌≡◌, ℕ, ◌≤◌, Bool, true, false, cond, not, ◌&&◌, ◌||◌, List, ◌∷◌, filter, ℤ, Ok, Result, None, Option, sym, refl, ap, ◌∙◌, ⊎_elim, arith, ◌==◌}
use Rattle.std.specs.Option.{is_some}
use Rattle.std.proofs.lemmas.Bool.{both_ways, cases_Bool, cond-true, cond-false}
use Rattle.std.proofs.lemmas.List.Folds.{list_any-append}
use Rattle.geometry.specs.declared.place.Place.{Place}
use Rattle.geometry.specs.declared.label.Label.{Label}
use Rattle.geometry.specs.declared.refusal.Refusal.{Refusal}
use Rattle.geometry.specs.Plane.{in_range, numbered, label_from}
use Rattle.geometry.specs.Numbers.{present}
use Rattle.index.specs.Table.{Table, plan}
use Rattle.index.specs.Laws.{Inside}
use Rattle.index.specs.Frames.{Layer, Frame}
use Rattle.runs.specs.Layers.{hides, frame, closed, shown}
use Rattle.runs.specs.Changes.{add_result, add_layer, withdraw_result, withdraw_layer}
use Rattle.runs.specs.Runs.{State, Loose, Step, adding, withdrawing}
use Rattle.runs.specs.Pages.{place_of}
use Rattle.runs.proofs.Places.{present-place, place-kept}
use Rattle.runs.proofs.Layering.{shown-layered, plan-layered}
use Rattle.edit.specs.declared.edit.Edit.{Edit}
use Rattle.edit.specs.Showing.{layer_of, held, opened_at, counted}
use Rattle.edit.specs.Laws.{within, bounded}

-- what is kept of labels by their numbers
present-kept : (f : ℕ → Bool) (n : ℕ) (ls : List Label) → present n (filter (λ l. f l.number) ls) ≡ (f n && present n ls)
present-kept f n ls = present-place n (filter (λ l. f l.number) ls) ∙ ap is_some (place-kept f n ls) ∙ chosen (f n) (place_of n ls) ∙ ap (λ b. f n && b) (sym (present-place n ls))
  where
    chosen : (b : Bool) (o : Option Place) → is_some (cond b o None) ≡ (b && is_some o)
    chosen true o = refl
    chosen false o = refl

-- the plan has a number that is added, or that is below and not hidden
pub present-shown : (l : Layer) (t : Table) (n : ℕ) → closed t ≡ false → present n (plan (shown l t)) ≡ (present n l.added || (not (hides l n) && present n (plan t)))
present-shown l t n c =
    ap (λ u. present n (plan u)) (shown-layered l t c)
    ∙ ap (present n) (plan-layered l t)
    ∙ list_any-append (λ l. l.number == n) l.added (filter (λ p. not (hides l p.number)) (plan t))
    ∙ ap (λ b. present n l.added || b) (present-kept (λ m. not (hides l m)) n (plan t))

-- the same where it is not added, and hidden below or not
pub present-below : (l : Layer) (t : Table) (n : ℕ) → closed t ≡ false → present n l.added ≡ false → hides l n ≡ false → present n (plan (shown l t)) ≡ present n (plan t)
present-below l t n c a h = present-shown l t n c ∙ (λ i. a i || (not (h i) && present n (plan t)))

pub absent-hidden : (l : Layer) (t : Table) (n : ℕ) → closed t ≡ false → present n l.added ≡ false → hides l n ≡ true → present n (plan (shown l t)) ≡ false
absent-hidden l t n c a h = present-shown l t n c ∙ (λ i. a i || (not (h i) && present n (plan t)))

pub not-added : (l : Layer) (t : Table) (n : ℕ) → closed t ≡ false → present n (plan (shown l t)) ≡ false → present n l.added ≡ false
not-added l t n c h = (or_neither (present n l.added) (not (hides l n) && present n (plan t)) (sym (present-shown l t n c) ∙ h)).0
  where
    or_neither : (a b : Bool) → (a || b) ≡ false → (a ≡ false) × (b ≡ false)
    or_neither true b e = absurd (both_ways true e refl)
    or_neither false b e = (refl, e)

-- a label that was made has numbers in range
made : (l : Label) (n : ℕ) (x y : ℤ) → Ok l ≡ label_from n x y → (numbered n ≡ true) × ((in_range x && in_range y) ≡ true)
made l n x y h = ⊎_elim
    (λ (t : numbered n ≡ true). ⊎_elim
    (λ (u : (in_range x && in_range y) ≡ true). (t, u))
    (λ (f : (in_range x && in_range y) ≡ false). let e = h ∙ cond-true (numbered n) _ _ t ∙ cond-false (in_range x && in_range y) _ _ f in let z : ◌≡◌ {A = ℕ} 0 1 = cc in absurd (omega arith))
    (cases_Bool (in_range x && in_range y)))
    (λ (f : numbered n ≡ false). let e = h ∙ cond-false (numbered n) _ _ f in let z : ◌≡◌ {A = ℕ} 0 1 = cc in absurd (omega arith))
    (cases_Bool (numbered n))

-- what an addition tells that comes to the test of twelve
pub add-told : (u : Table) (l : Layer) (m : Label) (n : ℕ) (x y : ℤ) → closed u ≡ false → Ok m ≡ label_from n x y → present n (plan (shown l u)) ≡ false → held l.added ≡ add_result u l n x y
add-told u l m n x y c e a =
    let fits = made m n x y e in
    sym (cond-false (closed u) _ _ c ∙ cond-true (numbered n) _ _ fits.0 ∙ cond-true (in_range x && in_range y) _ _ fits.1 ∙ cond-false (present n (plan (shown l u))) _ _ a)

-- the state of an edit over a store of that meaning
module _ {S : Type 0} (table : S → Table) (frames : S → List Frame) (opened : S → Option ℕ) (metered : S → ℕ) where
  abbrev pub state : Edit S → State
  state e = record {
    table = shown (layer_of e.changes) (table e.below);
    frames = frame (layer_of e.changes) (table e.below) ∷ frames e.below;
    opened = opened_at (closed (table e.below)) e.at (opened e.below);
    meter = counted (closed (table e.below)) (metered e.below) e.own;
  }

  module _ (e : Edit S) (inside : Inside (table e.below) (opened e.below)) (small : metered e.below ≤ 2000000) where
    pub loose : Loose (state e)
    loose = record {
      opened = within (layer_of e.changes) (table e.below) e.at (opened e.below) inside;
      meter = bounded (closed (table e.below)) (metered e.below) e.own small;
    }

    module _ (was : Edit S) (t : table e.below ≡ table was.below) (fs : frames e.below ≡ frames was.below) where
      pub added : (n : ℕ) (x y : ℤ) (r : Result (Unit {0}) Refusal) → r ≡ add_result (table was.below) (layer_of was.changes) n x y → layer_of e.changes ≡ add_layer (layer_of was.changes) n x y r → Step (adding n x y r) (state was) (state e)
      added n x y r told l = (told, record { table = λ i. shown (l i) (t i); frames = λ i. frame (l i) (t i) ∷ fs i; loose = loose })

      pub withdrawn : (n : ℕ) (r : Result (Unit {0}) Refusal) → r ≡ withdraw_result (table was.below) (layer_of was.changes) n → layer_of e.changes ≡ withdraw_layer (layer_of was.changes) n r → Step (withdrawing n r) (state was) (state e)
      withdrawn n r told l = (told, record { table = λ i. shown (l i) (t i); frames = λ i. frame (l i) (t i) ∷ fs i; loose = loose })
