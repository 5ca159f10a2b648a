-- The reaches in the terms of a search: a box is in reach when fewer than k labels are nearer than its near bound.
use Rattle.std.proofs.Common.{◌≡◌, ℕ, suc, ◌<◌, ◌≤◌, Bool, true, false, cond, not, ◌&&◌, ltb, leb, ◌⊎◌, List, [], ◌∷◌, length, Some, None, filter, sym, refl, ap, ◌∙◌, subst, inl, inr, ⊎_elim, arith}
use Rattle.std.specs.List.{ContainsAt as Has, AllByRecursion}
use Rattle.std.proofs.lemmas.Bool.{cases_Bool, cases_lt, both_ways, cond-true, cond-false, lt-ltb, le-ltb, le-leb, leb-true, not-true, not_from_false}
use Rattle.std.proofs.ByRecursion.{all-has, All-weaker, all_kept_by, kept_by_passes}
use Rattle.std.proofs.lemmas.Bool.Decides.{nat_tests}
use Rattle.queue.specs.Order.{Order}
use Rattle.queue.proofs.Sorting.{one_way, chain-not}
use Rattle.queue.proofs.Keeping.{keeps, leaves, keeps-more}
use Rattle.geometry.specs.declared.place.Place.{Place}
use Rattle.geometry.specs.declared.rect.Rect.{Rect}
use Rattle.geometry.specs.declared.label.Label.{Label}
use Rattle.geometry.specs.Plane.{holds, covering}
use Rattle.neighbours.specs.Ranking.{Seen, spot, area, Ranking, far_off, ranking, Sound}
use Rattle.neighbours.specs.Neighbours.{nearer_than}
use Rattle.neighbours.specs.Reach.{no_farther, least, kth, at_most, in_reach, in_reach_of}

-- a strict order in which several may be level
pub record Ranks {Y : Type 0} (f : Y → Y → Bool) : Type 0 where
  pub one_way : (s t : Y) → f s t ≡ true → f t s ≡ false
  pub chain-not : (s t u : Y) → f s t ≡ false → f t u ≡ false → f s u ≡ false

pub ranks : {D : Type 0} {lt : D → D → Bool} → Order lt → (dist : Place → Place → D) (bound : Place → Rect → D) (a : Place) → Ranks (ranking lt dist bound a)
ranks o dist bound a = record {
  one_way = λ s t. one_way o (far_off dist bound a s) (far_off dist bound a t);
  chain-not = λ s t u. chain-not o (far_off dist bound a s) (far_off dist bound a t) (far_off dist bound a u);
}

-- the ranking of every measure is sound
pub sound : {D : Type 0} {lt : D → D → Bool} → Order lt → (dist : Place → Place → D) (bound : Place → Rect → D)
    → ((a p : Place) (b : Rect) → holds b p ≡ true → lt (dist a p) (bound a b) ≡ false) → ((a : Place) (b c : Rect) → covering b c ≡ true → lt (bound a c) (bound a b) ≡ false)
    → Sound (ranking lt dist bound)
sound o dist bound below inner = record {
  one_way = λ a. (ranks o dist bound a).one_way;
  chain = λ a. (ranks o dist bound a).chain-not;
  below = below;
  inner = inner;
}

pub ranks-never : {Y : Type 0} {f : Y → Y → Bool} → Ranks f → (s : Y) → f s s ≡ false
ranks-never {f = f} r s = ⊎_elim (λ t. r.one_way s s t) (λ e. e) (cases_Bool (f s s))

-- the same by a key, and from the far end
by : {X Y : Type 0} {f : Y → Y → Bool} → Ranks f → (key : X → Y) → Ranks (λ a b. f (key a) (key b))
by r key = record { one_way = λ a b. r.one_way (key a) (key b); chain-not = λ a b c. r.chain-not (key a) (key b) (key c) }

back : {Y : Type 0} {f : Y → Y → Bool} → Ranks f → Ranks (λ a b. f b a)
back r = record { one_way = λ a b. r.one_way b a; chain-not = λ a b c h k. r.chain-not c b a k h }

-- the least is in the list, and none of the list is before it
abbrev Least : {X : Type 0} → (X → X → Bool) → List X → X → Type 0
Least lt xs t = (least lt xs ≡ Some t) × Has xs t × AllByRecursion (λ u. lt u t ≡ false) xs

has-later : {X : Type 0} (x : X) (xs : List X) (t : X) → Has xs t → Has (x ∷ xs) t
has-later x xs t h = (suc h.0, omega (arith, h.1), h.2)

least_more : {X : Type 0} {lt : X → X → Bool} → Ranks lt → (x : X) (xs : List X) → (t : X) × Least lt (x ∷ xs) t
least_more r x [] = (x, (refl, (0, omega arith, λ d. refl), (ranks-never r x, tt)))
least_more {lt = lt} r x (y ∷ ys) =
    let rest = least_more r y ys in
    let t = rest.0 in
    let step : least lt (x ∷ (y ∷ ys)) ≡ cond (lt t x) (Some t) (Some x) = ap (λ o. elim o [ None ↦ Some x | Some z ↦ cond (lt z x) (Some z) (Some x) ]) rest.1.0 in
    ⊎_elim
    (λ (h : lt t x ≡ true). (t, (step ∙ cond-true (lt t x) _ _ h, has-later x (y ∷ ys) t rest.1.1, (r.one_way t x h, rest.1.2))))
    (λ (h : lt t x ≡ false). (x, (step ∙ cond-false (lt t x) _ _ h, (0, omega arith, λ d. refl), (ranks-never r x, All-weaker (λ u. lt u t ≡ false) (λ u. lt u x ≡ false) (λ u e. r.chain-not u t x e h) (y ∷ ys) rest.1.2))))
    (cases_Bool (lt t x))

-- what passes is told of all
all-kept-back : {X : Type 0} (p : X → Bool) (P : X → Type 0) (xs : List X) → AllByRecursion P (filter p xs) → AllByRecursion (λ x. p x ≡ true → P x) xs
all-kept-back p P [] h = tt
all-kept-back p P (x ∷ xs) h = ⊎_elim
    (λ (t : p x ≡ true). let g = subst (AllByRecursion P) (keeps p x xs t) h in ((λ e. g.0), all-kept-back p P xs g.1))
    (λ (f : p x ≡ false). ((λ e. absurd (both_ways (p x) f e)), all-kept-back p P xs (subst (AllByRecursion P) (leaves p x xs f) h)))
    (cases_Bool (p x))

-- if what p keeps passes q, then q keeps as much
keeps-as-much : {X : Type 0} (p q : X → Bool) (xs : List X) → AllByRecursion (λ x. p x ≡ true → q x ≡ true) xs → length (filter p xs) ≤ length (filter q xs)
keeps-as-much p q [] h = omega arith
keeps-as-much p q (x ∷ xs) h =
    let more = keeps-as-much p q xs h.1 in
    ⊎_elim
    (λ (t : p x ≡ true). omega (arith, ap length (keeps p x xs t), ap length (keeps q x xs (h.0 t))))
    (λ (f : p x ≡ false). ⊎_elim
    (λ (t : q x ≡ true). omega (arith, ap length (leaves p x xs f), ap length (keeps q x xs t)))
    (λ (g : q x ≡ false). omega (arith, ap length (leaves p x xs f), ap length (leaves q x xs g)))
    (cases_Bool (q x)))
    (cases_Bool (p x))

module _ {X Y : Type 0} {f : Y → Y → Bool} (r : Ranks f) (key : X → Y) (xs : List X) where
  abbrev nearer : Y → ℕ
  nearer s = length (filter (λ y. f (key y) s) xs)

  abbrev up_to : X → ℕ
  up_to t = length (filter (λ y. not (f (key t) (key y))) xs)

  -- no more are nearer than what is no farther
  no_more : (s u : Y) → f u s ≡ false → nearer s ≤ nearer u
  no_more s u h = keeps-more (λ y. f (key y) s) (λ y. f (key y) u)
      (λ y t. ⊎_elim (λ e. e) (λ e. absurd (both_ways (f (key y) s) (r.chain-not (key y) u s e h) t)) (cases_Bool (f (key y) u))) xs

  -- those up to t are nearer than what is farther than t
  up-to-nearer : (t : X) (s : Y) → f (key t) s ≡ true → up_to t ≤ nearer s
  up-to-nearer t s h = keeps-more (λ y. not (f (key t) (key y))) (λ y. f (key y) s)
      (λ y e. ⊎_elim (λ g. g) (λ g. absurd (both_ways (f (key t) s) (r.chain-not (key t) (key y) s (not-true _ e) g) h)) (cases_Bool (f (key y) s))) xs

  -- of those nearer than s, if there are any, one is the farthest, and all of them are up to it
  farthest : (s : Y) (ns : List X) → ns ≡ filter (λ y. f (key y) s) xs → 1 ≤ length ns → (u : X) × Has ns u × (nearer s ≤ up_to u)
  farthest s [] e h = absurd (omega arith)
  farthest s (n ∷ ns) e h =
      let far = least_more (back (by r key)) n ns in
      let u = far.0 in (
        u,
        far.1.1,
        keeps-as-much (λ y. f (key y) s) (λ y. not (f (key u) (key y))) xs
            (All-weaker _ _ (λ y g t. not_from_false _ (g t)) xs (all-kept-back (λ y. f (key y) s) (λ y. f (key u) (key y) ≡ false) xs (subst (AllByRecursion (λ y. f (key u) (key y) ≡ false)) e far.1.2))),
      )

  module _ (k : ℕ) where
    abbrev passing : List X
    passing = filter (λ t. leb k (up_to t)) xs

    -- if none of those up to which there are k is nearer than s, then fewer than k are
    few : (s : Y) → 1 ≤ k → AllByRecursion (λ t. f (key t) s ≡ false) passing → nearer s < k
    few s one h = ⊎_elim (λ l. l)
        (λ (m : k ≤ nearer s).
        let near : X → Bool = λ y. f (key y) s in
        let far = farthest s (filter near xs) refl (omega arith) in
        let u = far.0 in
        let is-near : f (key u) s ≡ true = all-has (λ y. f (key y) s ≡ true) (filter near xs) u (kept_by_passes near xs) far.1 in
        let told = all-has (λ y. leb k (up_to y) ≡ true → f (key y) s ≡ false) (filter near xs) u (all_kept_by near _ xs (all-kept-back (λ t. leb k (up_to t)) (λ t. f (key t) s ≡ false) xs h)) far.1 in
        absurd (both_ways (f (key u) s) (told (le-leb k (up_to u) (omega (arith, far.2)))) is-near))
        (cases_lt (nearer s) k)

    -- a least of those up to which there are k is nearer than s exactly when k are
    tells-few : (s : Y) (t : X) → 1 ≤ k → Has passing t → AllByRecursion (λ u. f (key u) (key t) ≡ false) passing → not (f (key t) s) ≡ ltb (nearer s) k
    tells-few s t one h a = ⊎_elim
        (λ (e : f (key t) s ≡ true).
        let many = leb-true k (up_to t) (all-has (λ u. leb k (up_to u) ≡ true) passing t (kept_by_passes (λ u. leb k (up_to u)) xs) h) in
        ap not e ∙ sym (le-ltb (nearer s) k (omega (arith, many, up-to-nearer t s e))))
        (λ (e : f (key t) s ≡ false).
        ap not e ∙ sym (lt-ltb (nearer s) k (few s one (All-weaker (λ u. f (key u) (key t) ≡ false) (λ u. f (key u) s ≡ false) (λ u g. r.chain-not (key u) (key t) s g e) passing a))))
        (cases_Bool (f (key t) s))

    -- where k are nearer than u, fewer than k are nearer than s only if s is nearer than u; elsewhere whenever it is
    either-few : (s u : Y) → cond (leb k (nearer u)) (ltb (nearer s) k) (f s u) ≡ (f s u && ltb (nearer s) k)
    either-few s u = ⊎_elim
        (λ (e : f s u ≡ true). let m = no_more s u (r.one_way s u e) in subst (λ c. cond (leb k (nearer u)) (ltb (nearer s) k) c ≡ (c && ltb (nearer s) k)) (sym e) (yes m))
        (λ (e : f s u ≡ false). let m = no_more u s e in subst (λ c. cond (leb k (nearer u)) (ltb (nearer s) k) c ≡ (c && ltb (nearer s) k)) (sym e) (no m))
        (cases_Bool (f s u))
      where
        yes : nearer s ≤ nearer u → cond (leb k (nearer u)) (ltb (nearer s) k) true ≡ ltb (nearer s) k
        yes m = grind (arith, nat_tests)

        no : nearer u ≤ nearer s → cond (leb k (nearer u)) (ltb (nearer s) k) false ≡ false
        no m = grind (arith, nat_tests)

least-tells : {X : Type 0} {lt : X → X → Bool} → Ranks lt → (xs : List X) → ((xs ≡ []) × (least lt xs ≡ None)) ⊎ ((t : X) × Least lt xs t)
least-tells r [] = inl (refl, refl)
least-tells r (x ∷ xs) = inr (least_more r x xs)

-- a label by its place
abbrev placed : Label → Seen
placed l = spot l.place

module _ (near : Ranking) where
  pub in_reach-counts : (a : Place) → Ranks (near a) → (k : ℕ) (ls : List Label) (b : Rect) → 1 ≤ k → in_reach near a k ls b ≡ ltb (nearer_than near a (area b) ls) k
  unfolding in_reach kth no_farther nearer_than
  in_reach-counts a r k ls b one = ⊎_elim
      (λ e. ap (at_most near a (area b)) e.1 ∙ sym (lt-ltb _ k (few r placed ls k (area b) one (subst (AllByRecursion (λ t. near a (placed t) (area b) ≡ false)) (sym e.0) tt))))
      (λ e. ap (at_most near a (area b)) e.1.0 ∙ tells-few r placed ls k (area b) e.0 one e.1.1 e.1.2)
      (least-tells (by r placed) (passing r placed ls k))

  pub in-reach-of : (q : Place) (k : ℕ) (ls : List Label) (c : Label) → Ranks (near c.place) → (b : Rect) → 1 ≤ k
      → in_reach_of near q k ls c b ≡ (near c.place (area b) (spot q) && ltb (nearer_than near c.place (area b) ls) k)
  unfolding in_reach_of nearer_than
  in-reach-of q k ls c r b one = ap (λ t. cond (leb k (nearer_than near c.place (spot q) ls)) t (near c.place (area b) (spot q))) (in_reach-counts c.place r k ls b one)
      ∙ either-few r placed ls k (area b) (spot q)
