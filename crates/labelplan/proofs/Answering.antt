-- How an accepted query ends, by its answer list.
use Rattle.std.proofs.Common.{◌≡◌, ℕ, ◌≤◌, true, false, List, ◌==◌, Result, ◌++◌, length, take, drop, Some, None, Ok, Option, sym, ap, ◌∙◌, ⊎_elim, arith}
use Rattle.std.specs.Prelude.{nat_le}
use Rattle.std.proofs.lemmas.Bool.{cases_Bool, cond-true, cond-false}
use Rattle.std.proofs.lemmas.Bool.Decides.{nat_tests}
use Rattle.std.proofs.lemmas.List.{take_all, take-append-le}
use Rattle.std.specs.List.{find}
use Rattle.geometry.specs.declared.label.Label.{Label}
use Rattle.geometry.specs.declared.refusal.Refusal.{Refusal}
use Rattle.listing.specs.declared.failure.Failure.{Failure}
use Rattle.index.specs.Table.{Table, plan}
use Rattle.neighbours.specs.Ranking.{Ranking}
use Rattle.neighbours.specs.declared.told.Told.{Told}
use Rattle.neighbours.specs.Queries.{outcome, filled}
use Rattle.labelplan.specs.declared.query.Lengths.{Lengths}
use Rattle.labelplan.specs.declared.query.Answered.{Answered}
use Rattle.labelplan.specs.Asked.{LinkedEnds, NumberEnds}

-- the answers are at the front of the list, and the query told how many they are and how many nodes it opened
told-all : (e : Option Refusal) (ns before after items : List ℕ) (opened : ℕ) (t : Told) → Ok t ≡ outcome e ns opened (length before) → after ≡ filled e ns before → items ≡ take t.count after
    → (outcome e ns opened (length before) ≡ Ok (record { count = length items; opened = t.opened })) × (items ≡ ns)
told-all (Some e) ns before after items opened t h f a = absurd (cc)
told-all None ns before after items opened t h f a = ⊎_elim
    (λ (fits : nat_le (length ns) (length before) ≡ true).
    let told = h ∙ cond-true (nat_le (length ns) (length before)) _ _ fits in
    let count : t.count ≡ length ns = cc in
    let room : length ns ≤ length before = grind (arith, nat_tests) in
    let front : items ≡ ns = a ∙ (λ i. take (count i) (f i)) ∙ ap (λ l. take (length ns) (l ++ drop (length ns) before)) (take_all (length before) ns room)
    ∙ take-append-le (length ns) ns (drop (length ns) before) (omega arith) ∙ take_all (length ns) ns (omega arith) in
    (sym h ∙ (λ i. Ok (record { count = (count ∙ ap length (sym front)) i; opened = t.opened })), front))
    (λ (full : nat_le (length ns) (length before) ≡ false).
    let told = h ∙ cond-false (nat_le (length ns) (length before)) _ _ full in
    absurd (cc))
    (cases_Bool (nat_le (length ns) (length before)))

-- the same by the lengths that were asked for, of the two work lists and of the answer list
pub ended : (e : ℕ → ℕ → Option Refusal) (ns before after items : List ℕ) (opened v w u places : ℕ) (t : Told) → Ok t ≡ outcome (e v w) ns opened (length before) → after ≡ filled (e v w) ns before → items ≡ take t.count after
    → v ≡ u → w ≡ u → length before ≡ places → (outcome (e u u) ns opened places ≡ Ok (record { count = length items; opened = t.opened })) × (items ≡ ns)
ended e ns before after items opened v w u places t h f a p q r =
    let both = told-all (e v w) ns before after items opened t h f a in
    (sym (λ i. outcome (e (p i) (q i)) ns opened (r i)) ∙ both.0, both.1)

-- a list of that length has all that was written over it
pub written-back : (after before : List ℕ) (n : ℕ) → length after ≡ n → take n (after ++ drop (length after) before) ≡ after
written-back after before n h = take-append-le n after (drop (length after) before) (omega arith) ∙ take_all n after (omega arith)

-- a label that is found among the labels of the plan ends the query for its number
pub number-found : (near : Ranking) (t : Table) (l : Lengths) (k1 k2 n : ℕ) (labels : List Label) (o : Option Label) (q : Label) (r : Result Answered Failure) → o ≡ find (λ q. q.number == n) labels → labels ≡ plan t → o ≡ Some q
    → LinkedEnds near t l k1 k2 q r → NumberEnds near t l k1 k2 n r
number-found near t l k1 k2 n labels o q r a b is h =
    let there : find (λ q. q.number == n) (plan t) ≡ Some q = sym (a ∙ ap (λ labels. find (λ q. q.number == n) labels) b) ∙ is in
    rw (there, NumberEnds) h
