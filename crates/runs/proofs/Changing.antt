-- What a layer of changes shows, number by number, and what accepted changes make of it.
use Rattle.std.proofs.Common.{◌≡◌, ℕ, ◌<◌, ◌≤◌, Bool, true, false, cond, not, ◌&&◌, ◌||◌, eqb, [], ◌∷◌, ◌++◌, length, ℤ, Some, None, filter, Option, sym, refl, ap, ◌∙◌, subst, ⊎_elim, arith, length-append}
use Rattle.std.specs.Option.{option_or, is_some}
use Rattle.std.proofs.lemmas.Bool.{cases_Bool, false≢true, cond-true, cond-false, eqb-true, and_parts, or_parts, or_cases}
use Rattle.std.proofs.lemmas.Bool.Decides.{nat_tests}
use Rattle.std.proofs.lemmas.List.Folds.{list_any-append}
use Rattle.std.proofs.lemmas.List.Filters.{length-filter_both}
use Rattle.std.proofs.lemmas.Map.Views.{any-filter_same}
use Rattle.geometry.specs.declared.place.Place.{Place}
use Rattle.geometry.specs.declared.label.Label.{Label}
use Rattle.geometry.specs.Plane.{numbered, place_at, label_at}
use Rattle.geometry.specs.Numbers.{present, distinct}
use Rattle.geometry.proofs.Present.{distinct_push}
use Rattle.index.specs.Table.{Table, plan}
use Rattle.index.specs.Laws.{Lawful}
use Rattle.index.specs.Frames.{Layer}
use Rattle.neighbours.specs.Neighbours.{others}
use Rattle.neighbours.proofs.Answering.{distinct-others}
use Rattle.runs.specs.Layers.{bare, withdrawn, hides, closed, shown}
use Rattle.runs.specs.Changes.{without}
use Rattle.runs.specs.Pages.{Page, place_of, page_of, written}
use Rattle.runs.proofs.Layering.{shown-closed, shown-layered, plan-layered}
use Rattle.runs.proofs.Places.{place-none, place-first, place-append, place-kept, present-place, absent-place, place-absent}

-- a layer over a lawful table: at most twelve labels are added, no two of the same number, and the table has none of those
-- numbers that the layer has not withdrawn
pub record Fine (l : Layer) (u : Table) : Type 0 where
  pub narrow : length l.added ≤ 12
  pub apart : distinct l.added ≡ true
  pub covered : (n : ℕ) → present n l.added ≡ true → withdrawn n l ≡ false → present n (plan u) ≡ false
  pub lawful : Lawful u

-- the table's labels stand where the page has them
abbrev pub Reads : Table → Page → Type 0
Reads t p = (n : ℕ) → page_of t n ≡ p n

-- the place that shows of a number: where it is added, else where it is below, unless it is withdrawn
abbrev showing : Bool → Option Place → Option Place → Option Place
showing gone added below = option_or added (cond gone None below)

or-none : (o : Option Place) → option_or o None ≡ o
or-none (Some a) = refl
or-none None = refl

neither : (a b : Option Place) → option_or a b ≡ None → (a ≡ None) × (b ≡ None)
neither None b h = (refl, h)
neither (Some a) b h = absurd (cc)

-- that a number is added hides nothing that shows
showing-hidden : (w : Bool) (a o : Option Place) → option_or a (cond (not (w || is_some a)) o None) ≡ showing w a o
showing-hidden w (Some a) o = refl
showing-hidden true None o = refl
showing-hidden false None o = refl

-- at the number that an accepted change is about something shows, or nothing, and at the others what showed
showing-more : (e w : Bool) (a o : Option Place) (v : Place) (b : Option Place)
    → (e ≡ true → a ≡ None) → showing w a o ≡ b → showing w (option_or a (cond e (Some v) None)) o ≡ cond e (Some v) b
showing-more true w a o v b h g = ap (λ a. showing w (option_or a (Some v)) o) (h refl)
showing-more false w a o v b h g = ap (λ a. showing w a o) (or-none a) ∙ g

showing-less : (e w : Bool) (a o b : Option Place) → (e ≡ true → w ≡ false → o ≡ None) → showing w a o ≡ b → showing w (cond (not e) a None) o ≡ cond e None b
showing-less true true a o b h g = refl
showing-less true false a o b h g = h refl refl
showing-less false w a o b h g = g

showing-gone : (e w : Bool) (a o b : Option Place) → (e ≡ true → a ≡ None) → showing w a o ≡ b → showing (w || e) a o ≡ cond e None b
showing-gone true true a o b h g = ap (λ a. showing true a o) (h refl)
showing-gone true false a o b h g = ap (λ a. showing true a o) (h refl)
showing-gone false true a o b h g = g
showing-gone false false a o b h g = g

eqb_swap : (a b : ℕ) → eqb a b ≡ eqb b a
eqb_swap a b = grind (arith, nat_tests)

place-shown : (l : Layer) (u : Table) → closed u ≡ false → (n : ℕ) → page_of (shown l u) n ≡ showing (withdrawn n l) (place_of n l.added) (place_of n (plan u))
place-shown l u open' n = ap (place_of n) (ap plan (shown-layered l u open') ∙ plan-layered l u)
    ∙ place-append n l.added (filter (λ p. not (hides l p.number)) (plan u))
    ∙ ap (option_or (place_of n l.added)) (place-kept (λ n. not (hides l n)) n (plan u))
    ∙ ap (λ b. option_or (place_of n l.added) (cond (not (withdrawn n l || b)) (place_of n (plan u)) None)) (present-place n l.added)
    ∙ showing-hidden (withdrawn n l) (place_of n l.added) (place_of n (plan u))

-- through a layer without changes a table shows as it is
pub bare-reads : (u : Table) → Reads (shown bare u) (page_of u)
bare-reads u n = ⊎_elim
    (λ (c : closed u ≡ true). ap (λ t. page_of t n) (shown-closed bare u c))
    (λ (o : closed u ≡ false). place-shown bare u o n ∙ ap (λ a. showing false a (place_of n (plan u))) (place-none n))
    (cases_Bool (closed u))

pub bare-fine : (u : Table) → Lawful u → Fine bare u
bare-fine u lawful = record { narrow = omega arith; apart = refl; covered = λ n e w. absurd (false≢true e); lawful = lawful }

module _ (l : Layer) (u : Table) (fine : Fine l u) (open' : closed u ≡ false) where
  module _ (n : ℕ) (x y : ℤ) (fits : numbered n ≡ true) (absent : present n (plan (shown l u)) ≡ false) (room : length l.added < 12) where
    abbrev new : Label
    new = label_at n x y

    abbrev longer : Layer
    longer = record { added = l.added ++ new ∷ []; withdrawn = l.withdrawn }

    number-new : new.number ≡ n
    unfolding label_at
    number-new = grind (arith, nat_tests)

    place-new : new.place ≡ place_at x y
    unfolding label_at
    place-new = refl

    nowhere : (place_of n l.added ≡ None) × (cond (withdrawn n l) None (place_of n (plan u)) ≡ None)
    nowhere = neither (place_of n l.added) (cond (withdrawn n l) None (place_of n (plan u))) (sym (place-shown l u open' n) ∙ absent-place n (plan (shown l u)) absent)

    pub add-fine : Fine longer u
    add-fine = record {
      narrow = omega (arith, length-append l.added (new ∷ []));
      apart = distinct_push l.added new (ap (λ m. present m l.added) number-new ∙ place-absent n l.added nowhere.0) fine.apart;
      covered = λ m e w. ⊎_elim
          (λ (t : present m l.added ≡ true). fine.covered m t w)
          (λ (t : (eqb new.number m || false) ≡ true). ⊎_elim
          (λ (s : eqb new.number m ≡ true).
          let same : n ≡ m = sym number-new ∙ eqb-true new.number m s in
          subst (λ k. present k (plan u) ≡ false) same (place-absent n (plan u) (sym (cond-false (withdrawn n l) None (place_of n (plan u)) (ap (λ k. withdrawn k l) same ∙ w)) ∙ nowhere.1)))
          (λ (s : false ≡ true). absurd (false≢true s))
          (or_cases (eqb new.number m) false t))
          (or_cases (present m l.added) (eqb new.number m || false) (sym (list_any-append (λ l. eqb l.number m) l.added (new ∷ [])) ∙ e));
      lawful = fine.lawful;
    }

    pub add-reads : (p : Page) → Reads (shown l u) p → Reads (shown longer u) (written n (Some (place_at x y)) p)
    add-reads p r m =
        place-shown longer u open' m
        ∙ ap (λ a. showing (withdrawn m l) a (place_of m (plan u))) (place-append m l.added (new ∷ []) ∙ ap (option_or (place_of m l.added)) one)
        ∙ showing-more (eqb m n) (withdrawn m l) (place_of m l.added) (place_of m (plan u)) (place_at x y) (p m) (λ t. ap (λ k. place_of k l.added) (eqb-true m n t) ∙ nowhere.0) (sym (place-shown l u open' m) ∙ r m)
      where
        one : place_of m (new ∷ []) ≡ cond (eqb m n) (Some (place_at x y)) None
        one = place-first m new [] ∙ (λ i. cond (eqb (number-new i) m) (Some (place-new i)) (place-none m i)) ∙ ap (λ b. cond b (Some (place_at x y)) None) (eqb_swap n m)

  module _ (n : ℕ) where
    abbrev shorter : Layer
    shorter = record { added = others (Some n) l.added; withdrawn = l.withdrawn }

    abbrev deeper : Layer
    deeper = record { added = l.added; withdrawn = l.withdrawn ++ n ∷ [] }

    present-others : (m : ℕ) → present m (others (Some n) l.added) ≡ (not (eqb m n) && present m l.added)
    unfolding others
    present-others m = any-filter_same (λ l. eqb l.number m) (λ l. not (eqb l.number n)) (not (eqb m n)) (λ l t. ap (λ k. not (eqb k n)) (eqb-true l.number m t)) l.added

    place-others : (m : ℕ) → place_of m (others (Some n) l.added) ≡ cond (not (eqb m n)) (place_of m l.added) None
    unfolding others
    place-others m = place-kept (λ m. not (eqb m n)) m l.added

    length-others : length (others (Some n) l.added) ≤ length l.added
    unfolding others
    length-others = omega (arith, length-filter_both (λ (l : Label). not (eqb l.number n)) (λ l. not (not (eqb l.number n))) (λ l. refl) l.added)

    drop-fine : Fine shorter u
    drop-fine = record {
      narrow = omega (arith, length-others, fine.narrow);
      apart = distinct-others (Some n) l.added fine.apart;
      covered = λ m e w. fine.covered m (and_parts (not (eqb m n)) (present m l.added) (sym (present-others m) ∙ e)).1 w;
      lawful = fine.lawful;
    }

    drop-reads : present n l.added ≡ true → (p : Page) → Reads (shown l u) p → Reads (shown shorter u) (written n None p)
    drop-reads there p r m =
        place-shown shorter u open' m
        ∙ ap (λ a. showing (withdrawn m l) a (place_of m (plan u))) (place-others m)
        ∙ showing-less (eqb m n) (withdrawn m l) (place_of m l.added) (place_of m (plan u)) (p m)
        (λ t w. absent-place m (plan u) (fine.covered m (ap (λ k. present k l.added) (eqb-true m n t) ∙ there) w))
        (sym (place-shown l u open' m) ∙ r m)

    withdrawn-more : (m : ℕ) → withdrawn m deeper ≡ (withdrawn m l || eqb m n)
    withdrawn-more m = list_any-append (eqb m) l.withdrawn (n ∷ []) ∙ ap (λ b. withdrawn m l || b) (or-false (eqb m n))
      where
        or-false : (b : Bool) → (b || false) ≡ b
        or-false true = refl
        or-false false = refl

    hide-fine : Fine deeper u
    hide-fine = record {
      narrow = fine.narrow;
      apart = fine.apart;
      covered = λ m e w. fine.covered m e (or_parts (withdrawn m l) (eqb m n) (sym (withdrawn-more m) ∙ w)).0;
      lawful = fine.lawful;
    }

    hide-reads : present n l.added ≡ false → (p : Page) → Reads (shown l u) p → Reads (shown deeper u) (written n None p)
    hide-reads absent p r m =
        place-shown deeper u open' m
        ∙ ap (λ w. showing w (place_of m l.added) (place_of m (plan u))) (withdrawn-more m)
        ∙ showing-gone (eqb m n) (withdrawn m l) (place_of m l.added) (place_of m (plan u)) (p m)
        (λ t. ap (λ k. place_of k l.added) (eqb-true m n t) ∙ absent-place n l.added absent)
        (sym (place-shown l u open' m) ∙ r m)

    pub withdraw-keeps : (p : Page) → Reads (shown l u) p → Fine (without l n) u × Reads (shown (without l n) u) (written n None p)
    withdraw-keeps p r =
        let Keeps : Layer → Type 0 = λ k. Fine k u × Reads (shown k u) (written n None p) in
        ⊎_elim
        (λ (t : present n l.added ≡ true). subst Keeps (sym (cond-true (present n l.added) shorter deeper t)) (drop-fine, drop-reads t p r))
        (λ (f : present n l.added ≡ false). subst Keeps (sym (cond-false (present n l.added) shorter deeper f)) (hide-fine, hide-reads f p r))
        (cases_Bool (present n l.added))
