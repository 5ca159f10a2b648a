-- The steps of a rehearsal make a run.
use Rattle.std.proofs.Common.{◌≡◌, ℕ, ◌+◌, ◌≤◌, List, [], ◌∷◌, length, ℤ, Some, Ok, Err, Result, refl, sym, subst, arith}
use Rattle.geometry.specs.declared.refusal.Refusal.{Refusal}
use Rattle.neighbours.specs.declared.told.Told.{Told}
use Rattle.neighbours.specs.Ranking.{Ranking}
use Rattle.runs.specs.Pages.{Page, on_top}
use Rattle.runs.specs.Runs.{State, Call, opening, adding, withdrawing, asking_mutual, cancelling, Step, Run, still, next, fresh, first_pages, entered, recorded}
use Rattle.edit.specs.Rehearsal.{rehearsed}

-- a new edit has the state that runs start from
opened-fresh : (s t : State) → Step opening s t → fresh s ≡ t
opened-fresh s t h = λ i. record { table = sym h.0.table i; frames = sym h.0.frames i; opened = sym h.1 i; meter = sym h.2 i }

-- adding and withdrawing leave as many pages
on-top-many : (f : Page → Page) (ps : List Page) → length (on_top f ps) ≡ length ps
on-top-many f [] = refl
on-top-many f (p ∷ ps) = refl

adding-many : (n : ℕ) (x y : ℤ) (r : Result (Unit {0}) Refusal) (ps : List Page) → length (entered (adding n x y r) ps) ≡ length ps
adding-many n x y (Ok u) ps = on-top-many _ ps
adding-many n x y (Err e) ps = refl

withdrawing-many : (n : ℕ) (r : Result (Unit {0}) Refusal) (ps : List Page) → length (entered (withdrawing n r) ps) ≡ length ps
withdrawing-many n (Ok u) ps = on-top-many _ ps
withdrawing-many n (Err e) ps = refl

-- opening an edit puts a page on top, and cancelling takes it off
opening-many : (ps : List Page) → 1 ≤ length ps → length (entered opening ps) ≡ length ps + 1
opening-many [] h = absurd (omega (arith, h))
opening-many (p ∷ ps) h = omega arith

cancelling-many : (ps : List Page) → 1 ≤ length ps → length ps ≡ length (entered cancelling ps) + 1
cancelling-many [] h = absurd (omega (arith, h))
cancelling-many (p ∷ ps) h = omega arith

module _ (near : Ranking) (n : ℕ) (x y : ℤ) (gone k1 k2 work second : ℕ) (before after : List ℕ) (added withdrawn : Result (Unit {0}) Refusal) (told : Result Told Refusal) where
  abbrev asking : Call
  asking = asking_mutual k1 k2 work second (record { near = near; x = x; y = y; own = Some n; list = before }) (record { told = told; list = after })

  pub runs : (s a b d u v w z : State) → Step opening s a → Step (adding n x y added) a b → Step opening b d → Step (withdrawing gone withdrawn) d u → Step asking u v → Step cancelling v w → Step cancelling w z
      → Run (fresh s) (first_pages s.table) (rehearsed near n x y gone k1 k2 work second before after added withdrawn told) z (recorded (rehearsed near n x y gone k1 k2 work second before after added withdrawn told) (first_pages s.table))
  runs s a b d u v w z one two three four five six seven =
      let ps = first_pages s.table in
      let qs = entered (adding n x y added) ps in
      let rs = entered opening qs in
      let ts = entered (withdrawing gone withdrawn) rs in
      let p : length qs ≡ 2 = adding-many n x y added ps in
      let q : length rs ≡ 3 = omega (arith, p, opening-many qs (omega (arith, p))) in
      let r : length ts ≡ 3 = omega (arith, q, withdrawing-many gone withdrawn rs) in
      let t : length (entered cancelling ts) ≡ 2 = omega (arith, r, cancelling-many ts (omega (arith, r))) in
      next (λ _. omega arith) (subst (λ f. Step (adding n x y added) f b) (sym (opened-fresh s a one)) two)
      (next (λ e. omega (arith, p)) three
      (next (λ _. omega (arith, q)) four
      (next (λ e. omega (arith, r)) five
      (next (λ _. omega (arith, r)) six
      (next (λ _. omega (arith, t)) seven still)))))
