-- What the refusals of a query come to, and that a query makes its step.
use Rattle.std.proofs.Common.{◌≡◌, ℕ, ◌&&◌, List, [], ◌∷◌, length, ℤ, Some, None, Ok, Err, Option, Result, IfOk, sym, refl, ap, arith}
use Rattle.std.proofs.Math.Bool.{and-true}
use Rattle.geometry.specs.declared.place.Place.{Place}
use Rattle.geometry.specs.declared.refusal.Refusal.{Refusal}
use Rattle.geometry.specs.Plane.{place_at}
use Rattle.listing.specs.Lists.{counted}
use Rattle.neighbours.specs.declared.told.Told.{Told}
use Rattle.neighbours.specs.Queries.{outcome, filled}
use Rattle.runs.specs.Runs.{State, Query, End, Loose, Queried}
use Rattle.search.specs.Answers.{all_counted, admitted}

pub refused-told : (o : Option Refusal) (x y : ℤ) (e : Refusal) → Err e ≡ admitted o x y → o ≡ Some e
refused-told (Some d) x y e h = cc
refused-told None x y e h = cc

pub admitted-told : (o : Option Refusal) (x y : ℤ) (p : Place) → Ok p ≡ admitted o x y → (o ≡ None) × (p ≡ place_at x y)
admitted-told (Some d) x y p h = absurd (cc)
admitted-told None x y p h = (refl, cc)

-- the counts of the two queries
pub one-count : (k : ℕ) → all_counted (k ∷ []) ≡ counted k
one-count k = and-true (counted k)

pub two-counts : (k1 k2 : ℕ) → all_counted (k1 ∷ (k2 ∷ [])) ≡ (counted k1 && counted k2)
two-counts k1 k2 = ap (λ b. counted k1 && b) (and-true (counted k2))

-- a query that is refused before it searches tells so and leaves the list
pub refuses : (o : Option Refusal) (e : Refusal) (ns before : List ℕ) (opened places : ℕ) → o ≡ Some e → (Err e ≡ outcome o ns opened places) × (before ≡ filled o ns before)
refuses o e ns before opened places h = (ap (λ r. outcome r ns opened places) (sym h), ap (λ r. filled r ns before) (sym h))

-- where a query tells its openings and the meter counts them, the meter is what it told
tells-openings : (o : Option Refusal) (ns : List ℕ) (opened places : ℕ) (r : Result Told Refusal) (meter : ℕ) → r ≡ outcome o ns opened places → IfOk r (λ t. meter ≡ opened) → IfOk r (λ t. meter ≡ t.opened)
tells-openings o ns opened places (Err e) meter h k = tt
tells-openings (Some d) ns opened places (Ok t) meter h k = absurd (cc)
tells-openings None ns opened places (Ok t) meter h k = grind arith

-- the step of a query that ended so, from what it told, left and opened
pub steps : {s t : State} {o : Option Refusal} {ns : List ℕ} {opened : ℕ} {q : Query} {e : End}
    → e.told ≡ outcome o ns opened (length q.list) → e.list ≡ filled o ns q.list → IfOk e.told (λ told. t.meter ≡ opened)
    → t.table ≡ s.table → t.frames ≡ s.frames → Loose t → Queried s t o ns opened q e
steps {t = t} {o = o} {ns = ns} {opened = opened} {q = q} {e = e} told list metered table frames loose = record {
  told = told;
  list = list;
  table = table;
  frames = frames;
  metered = tells-openings o ns opened (length q.list) e.told t.meter told metered;
  loose = loose;
}
