-- Of any two labels of a plan each answers the other or neither does.
use Rattle.std.proofs.Common.{◌≡◌, ℕ, zero, suc, ◌+◌, Bool, true, false, cond, not, ◌&&◌, ◌||◌, eqb, ltb, List, [], ◌∷◌, map, length, Some, filter, sym, refl, ap, ◌∙◌, subst, ⊎_elim, arith}
use mathlib.Core.Bool.{and_comm}
use Rattle.std.specs.List.{ContainsAt as Has, AllByRecursion}
use Rattle.std.proofs.lemmas.Bool.{cases_Bool, both_ways, cond_both, not-false, eq-eqb, or_left}
use Rattle.std.proofs.ByRecursion.{all-has, All-weaker, all_kept_by}
use Rattle.std.proofs.lemmas.Bool.Decides.{nat_tests}
use Rattle.queue.specs.Order.{sorted}
use Rattle.queue.proofs.Keeping.{keeps, leaves}
use Rattle.geometry.specs.declared.place.Place.{Place}
use Rattle.geometry.specs.declared.label.Label.{Label}
use Rattle.geometry.specs.Numbers.{present, distinct}
use Rattle.listing.specs.Neighbours.{candidate}
use Rattle.index.specs.Table.{Table, plan}
use Rattle.neighbours.specs.Ranking.{Seen, spot, Ranking, nearer_to}
use Rattle.neighbours.specs.Neighbours.{others, nearer_than, candidates, confirmed, mutuals, closer, in_order, mutual_answers}
use Rattle.neighbours.specs.Links.{among, answers, ends, Links}
use Rattle.neighbours.proofs.Arranging.{gathered}
use Rattle.neighbours.proofs.Whole.{kept-twice, kept-swap}
use Rattle.neighbours.proofs.Answering.{absent-all, distinct-parts}

eqb_swap : (a b : ℕ) → eqb a b ≡ eqb b a
eqb_swap a b = grind (arith, nat_tests)

-- a test that passes none of what another leaves out
kept_less : {X : Type 0} (f g : X → Bool) (xs : List X) → AllByRecursion (λ x. g x ≡ false → f x ≡ false) xs → filter f (filter g xs) ≡ filter f xs
kept_less f g [] h = refl
kept_less f g (x ∷ xs) h = ⊎_elim
    (λ (t : g x ≡ true). ap (filter f) (keeps g x xs t) ∙ ap (λ l. cond (f x) (x ∷ l) l) (kept_less f g xs h.1))
    (λ (e : g x ≡ false). ap (filter f) (leaves g x xs e) ∙ kept_less f g xs h.1 ∙ sym (leaves f x xs (h.0 e)))
    (cases_Bool (g x))

-- the numbers of labels
abbrev numbers : List Label → List ℕ
numbers ls = map (λ l. l.number) ls

among-in-order : (f : Label → Label → Bool) (n : ℕ) (ls : List Label) → among n (numbers (sorted f ls)) ≡ among n (numbers ls)
among-in-order f n ls = gathered f (λ l b. eqb l.number n || b) (λ ls. among n (numbers ls)) (λ l ls. refl) (λ l m b. swap (eqb l.number n) (eqb m.number n) b) ls
  where
    swap : (a b c : Bool) → (a || (b || c)) ≡ (b || (a || c))
    swap true true c = refl
    swap true false c = refl
    swap false true c = refl
    swap false false c = refl

among_none : (n : ℕ) (ls : List Label) → AllByRecursion (λ l. eqb l.number n ≡ false) ls → among n (numbers ls) ≡ false
among_none n [] h = refl
among_none n (l ∷ ls) h = ap (λ b. b || among n (numbers ls)) h.0 ∙ among_none n ls h.1

-- p is one of distinct labels, so that no other of them has its number
module _ (p : Label) where
  others-differ : (l : Label) (ls : List Label) → present l.number ls ≡ false → Has ls p → eqb l.number p.number ≡ false
  others-differ l ls h m = let e = all-has (λ k. eqb k.number l.number ≡ false) ls p (absent-all l.number ls h) m in grind (arith, nat_tests)

  only : (ls : List Label) → distinct ls ≡ true → Has ls p → AllByRecursion (λ l. eqb l.number p.number ≡ true → l ≡ p) ls
  only [] d h = tt
  only (l ∷ ls) d (zero, in', here) =
      let e = distinct-parts l ls d in (
        λ _. here l,
        All-weaker (λ m. eqb m.number l.number ≡ false) (λ m. eqb m.number p.number ≡ true → m ≡ p)
            (λ m g t. absurd (both_ways (eqb m.number p.number) (ap (λ k. eqb m.number k.number) (sym (here l)) ∙ g) t)) ls (absent-all l.number ls e.0),
      )
  only (l ∷ ls) d (suc k, in', later) =
      let e = distinct-parts l ls d in
      let has : Has ls p = (k, omega arith, later) in
      (λ t. absurd (both_ways _ (others-differ l ls e.0 has) t), only ls e.1 has)

  among-kept : (f : Label → Bool) (ls : List Label) → distinct ls ≡ true → Has ls p → among p.number (numbers (filter f ls)) ≡ f p
  among-kept f [] d h = absurd (omega (arith, h.1))
  among-kept f (l ∷ ls) d (zero, in', here) =
      let e = distinct-parts l ls d in
      let same = here l in
      let rest : among l.number (numbers (filter f ls)) ≡ false = among_none l.number (filter f ls) (all_kept_by f _ ls (absent-all l.number ls e.0)) in
      subst (λ q. among q.number (numbers (filter f (l ∷ ls))) ≡ f q) same (⊎_elim
      (λ (t : f l ≡ true). ap (λ k. among l.number (numbers k)) (keeps f l ls t) ∙ or_left _ _ (eq-eqb l.number l.number refl) ∙ sym t)
      (λ (g : f l ≡ false). ap (λ k. among l.number (numbers k)) (leaves f l ls g) ∙ rest ∙ sym g)
      (cases_Bool (f l)))
  among-kept f (l ∷ ls) d (suc k, in', later) =
      let e = distinct-parts l ls d in
      let has : Has ls p = (k, omega arith, later) in
      let more = among-kept f ls e.1 has in
      cond_both (f l) (l ∷ filter f ls) (filter f ls) (λ j. among p.number (numbers j) ≡ f p)
      (λ t. ap (λ b. b || among p.number (numbers (filter f ls))) (others-differ l ls e.0 has) ∙ more) (λ g. more)

kept-others : (n : ℕ) (f : Label → Bool) (ls : List Label) → filter f (others (Some n) ls) ≡ filter (λ l. not (eqb l.number n) && f l) ls
unfolding others
kept-others n f ls = kept-twice (λ l. not (eqb l.number n)) f ls

module _ (near : Ranking) where
  -- how many of the labels are nearer to q than p is
  abbrev ahead_of : Label → Label → List Label → ℕ
  ahead_of p q ls = nearer_than near q.place (spot p.place) ls

  -- when p answers q: it is another label, and on both sides few enough are nearer
  answers-when : (t : Table) (p q : Label) (k m : ℕ) → distinct (plan t) ≡ true → Has (plan t) p
      → answers near t k m p q ≡ (not (eqb p.number q.number) && (ltb (ahead_of p q (others (Some q.number) (plan t))) k && ltb (ahead_of q p (others (Some p.number) (others (Some q.number) (plan t)))) m))
  unfolding answers mutual_answers in_order mutuals candidates confirmed nearer_than
  answers-when t p q k m d h =
      let rest : List Label = others (Some q.number) (plan t) in
      let few : Label → Bool = candidate (nearer_to near q.place) k rest in
      let sure : Label → Bool = confirmed near q.place m rest in
      among-in-order (closer near q.place) p.number (filter sure (filter few rest))
      ∙ ap (λ l. among p.number (numbers l)) (kept-twice few sure rest ∙ kept-others q.number (λ l. few l && sure l) (plan t))
      ∙ among-kept p (λ l. not (eqb l.number q.number) && (few l && sure l)) (plan t) d h

  module _ (never : (a : Place) (s : Seen) → near a s s ≡ false) where
    -- p is not nearer than itself, so that it can be left out
    ahead-less : (ls : List Label) (p q : Label) → distinct ls ≡ true → Has ls p → ahead_of p q (others (Some q.number) ls) ≡ ahead_of p q (others (Some q.number) (others (Some p.number) ls))
    unfolding others nearer_than
    ahead-less ls p q d h =
        let nearer : Label → Bool = λ l. near q.place (spot l.place) (spot p.place) in
        let not-p : Label → Bool = λ l. not (eqb l.number p.number) in
        let not-q : Label → Bool = λ l. not (eqb l.number q.number) in
        let none : AllByRecursion (λ l. not-p l ≡ false → nearer l ≡ false) ls = All-weaker (λ l. eqb l.number p.number ≡ true → l ≡ p) (λ l. not-p l ≡ false → nearer l ≡ false)
        (λ l same e. ap nearer (same (not-false _ e)) ∙ never q.place (spot p.place)) ls (only p ls d h) in
        ap length (sym (kept_less nearer not-p (filter not-q ls) (all_kept_by not-q _ ls none)) ∙ ap (filter nearer) (kept-swap not-p not-q ls))

    both : (t : Table) → distinct (plan t) ≡ true → (p q : Label) (k m : ℕ) → Has (plan t) p → Has (plan t) q → answers near t k m p q ≡ answers near t m k q p
    both t d p q k m hp hq =
        let one = ahead-less (plan t) p q d hp in
        let other = sym (ahead-less (plan t) q p d hq) in
        answers-when t p q k m d hp
        ∙ (λ i. not (eqb_swap p.number q.number i) && and_comm (ltb (one i) k) (ltb (other i) m) i)
        ∙ sym (answers-when t q p m k d hq)

pub links : (near : Ranking) (t : Table) → ((a : Place) (s : Seen) → near a s s ≡ false) → distinct (plan t) ≡ true → Links near t
unfolding ends
links near t never d = record {
  both = both near never t d;
  never-one = λ p q k m hp hq e. two (answers near t k m p q) (answers near t m k q p) (both near never t d p q k m hp hq) e;
}
  where
    two : (a b : Bool) → a ≡ b → cond a 1 0 + cond b 1 0 ≡ 1 → ⊥
    two true true s e = omega arith
    two true false s e = both_ways true s refl
    two false true s e = both_ways true (sym s) refl
    two false false s e = omega arith
