-- The tree of a lawful table hangs together, and what one turn of a search over it leaves.
use Rattle.std.proofs.Common.{◌≡◌, ℕ, suc, ◌+◌, ◌-◌, ◌<◌, ◌≤◌, Bool, true, false, List, [], ◌∷◌, ◌++◌, length, take, sym, refl, ap, ◌∙◌, subst, arith, length-append}
use Rattle.std.specs.List.{AllByRecursion}
use Rattle.std.proofs.lemmas.List.{append-nil, length-take-le}
use Rattle.std.proofs.ByRecursion.{All-get_or, All-weaker}
use Rattle.std.proofs.lemmas.Bool.{cond-false, cond_both, le-ltb}
use Rattle.geometry.specs.declared.place.Place.{Place}
use Rattle.geometry.specs.declared.rect.Rect.{Rect}
use Rattle.geometry.specs.declared.label.Label.{Label}
use Rattle.geometry.specs.Plane.{holds, covering}
use Rattle.queue.specs.Order.{Order, sorted}
use Rattle.queue.specs.Shape.{Heap}
use Rattle.index.specs.declared.slot.Slot.{Slot}
use Rattle.index.specs.declared.slot.Slot.TheVariants.{Empty, Holds, Leads}
use Rattle.index.specs.Table.{node_count, node_at, branch_in, branches_in, branches}
use Rattle.index.specs.Laws.{lies_in, Lawful}
use Rattle.neighbours.specs.declared.item.Item.{Item}
use Rattle.neighbours.specs.declared.item.Subject.{Subject}
use Rattle.neighbours.specs.declared.item.Subject.TheVariants.{OfNode, OfLabel}
use Rattle.neighbours.specs.Items.{subject_before, ahead}
use Rattle.neighbours.specs.Forest.{Hangs, tree, still}
use Rattle.neighbours.specs.Scene.{Scene, shows, label_item, node_item, item_of, listed, items_in, under, kids, height_of, height, GoodAs, Good, left, Waiting}
use Rattle.neighbours.proofs.Bags.{joined-parts, all-joined, all_both, joined-alike}
use Rattle.neighbours.proofs.Finding.{turn, turn-good, still-long}
use Rattle.neighbours.specs.Ordering.{item-order}

-- what a search asks of its scene: places in a box are no nearer than it, nor boxes in it, and the table is lawful
pub record Fair {D : Type 0} (s : Scene D) : Type 0 where
  pub order : Order s.lt
  pub below : (p : Place) (b : Rect) → holds b p ≡ true → s.lt (s.to p) (s.near b) ≡ false
  pub inner : (b c : Rect) → covering b c ≡ true → s.lt (s.near c) (s.near b) ≡ false
  pub lawful : Lawful s.table

-- x was taken off the queue in the first len of xs, which left that in the first rest of ys
pub record Taken {D : Type 0} (s : Scene D) (xs ys : List (Item D)) (len rest : ℕ) (x : Item D) : Type 0 where
  pub waits : Waiting s xs len
  pub long : length ys ≡ length xs
  pub less : rest + 1 ≡ len
  pub shape : Heap (ahead s.lt) ys rest
  pub split : sorted (ahead s.lt) (take len xs) ≡ x ∷ sorted (ahead s.lt) (take rest ys)

-- an item no nearer, and not before by what it is
later : {D : Type 0} (lt : D → D → Bool) (x y : Item D) → lt y.distance x.distance ≡ false → subject_before y.subject x.subject ≡ false → ahead lt y x ≡ false
later lt x y h k = cond-false (lt y.distance x.distance) _ _ h ∙ cond_both (lt x.distance y.distance) _ _ (λ b. b ≡ false) (λ e. refl) (λ e. k)

module _ {D : Type 0} (s : Scene D) where
  -- a node of the table, whose slots lie in its box
  abbrev Led : ℕ × Rect → Type 0
  Led c = (c.0 < node_count s.table) × AllByRecursion (λ t. lies_in c.1 t ≡ true) (node_at s.table c.0)

  abbrev SlotFits : ℕ → Rect → Slot → Type 0
  SlotFits n b t = (lies_in b t ≡ true) × AllByRecursion (λ c. (n < c.0) × Led c) (branch_in t)

  -- of the item of a slot of node n, with box b
  of-slot : (P : Item D → Type 0) (n : ℕ) (b : Rect) → ((c : ℕ × Rect) → covering b c.1 ≡ true → n < c.0 → Led c → P (node_item s.near c)) → ((l : Label) → holds b l.place ≡ true → P (label_item s.to l))
      → (t : Slot) → SlotFits n b t → AllByRecursion P (listed (item_of s.to s.near s.view t))
  of-slot P n b f g Empty h = tt
  of-slot P n b f g (Holds l) h = cond_both (shows s.view l.number) _ _ (λ o. AllByRecursion P (listed o)) (λ e. (g l h.0, tt)) (λ e. tt)
  of-slot P n b f g (Leads c k) h = (f (k, c) h.0 h.1.0.0 h.1.0.1, tt)

module _ {D : Type 0} (s : Scene D) (fair : Fair s) where
  pub order : Order (ahead s.lt)
  order = item-order fair.order

  -- the slots of a node of the table
  slots-fit : (n : ℕ) (b : Rect) → n < node_count s.table → AllByRecursion (λ t. lies_in b t ≡ true) (node_at s.table n) → AllByRecursion (SlotFits s n b) (node_at s.table n)
  unfolding branches branches_in
  slots-fit n b h lies =
      let t = s.table in
      let Q : ℕ × Rect → Type 0 = λ c. AllByRecursion (λ s. lies_in c.1 s ≡ true) (node_at t c.0) in
      let inside = All-get_or (λ slots. AllByRecursion Q (branches_in slots)) t.nodes n [] h (joined-parts branches_in Q t.nodes fair.lawful.inside.1) in
      let down = all_both _ Q (branches_in (node_at t n)) (fair.lawful.down n h) inside in
      let led = All-weaker _ (λ c. (n < c.0) × Led s c) (λ c f. (f.0.0, (f.0.1, f.1))) (branches_in (node_at t n)) down in
      all_both (λ t. lies_in b t ≡ true) _ (node_at t n) lies (joined-parts branch_in _ (node_at t n) led)

  -- of the items right below a good one
  of-kids : (P : Item D → Type 0) (d : D) (n : ℕ) → (g : GoodAs s d (OfNode n)) → ((c : ℕ × Rect) → covering g.0 c.1 ≡ true → n < c.0 → Led s c → P (node_item s.near c)) → ((l : Label) → holds g.0 l.place ≡ true → P (label_item s.to l))
      → AllByRecursion P (under s (OfNode n))
  unfolding items_in
  of-kids P d n g f h = all-joined _ P (node_at s.table n) (SlotFits s n g.0) (of-slot s P n g.0 f h) (slots-fit n g.0 g.2 g.3)

  lower-under : (d : D) (u : Subject) → GoodAs s d u → AllByRecursion (λ y. height s y < height_of (node_count s.table) u) (under s u)
  unfolding height
  lower-under d (OfNode n) g = of-kids (λ y. height s y < suc (node_count s.table - n)) d n g (λ c e m led. omega (arith, led.0)) (λ l e. omega arith)
  lower-under d (OfLabel l) g = tt

  after-under : (x : Item D) (u : Subject) → x.subject ≡ u → GoodAs s x.distance u → AllByRecursion (λ y. ahead s.lt y x ≡ false) (under s u)
  after-under x (OfNode n) e g = of-kids (λ y. ahead s.lt y x ≡ false) x.distance n g
      (λ c i m led. later s.lt x (node_item s.near c) (subst (λ d. s.lt (s.near c.1) d ≡ false) (sym g.1) (fair.inner g.0 c.1 i)) (subst (λ u. subject_before (OfNode c.0) u ≡ false) (sym e) (le-ltb c.0 n (omega arith))))
      (λ l i. later s.lt x (label_item s.to l) (subst (λ d. s.lt (s.to l.place) d ≡ false) (sym g.1) (fair.below l.place g.0 i)) (subst (λ u. subject_before (OfLabel l) u ≡ false) (sym e) refl))
  after-under x (OfLabel l) e g = tt

  good-under : (d : D) (u : Subject) → GoodAs s d u → AllByRecursion (Good s) (under s u)
  unfolding Good
  good-under d (OfNode n) g = of-kids (Good s) d n g (λ c i m led. (c.1, refl, led.0, led.1)) (λ l i. tt)
  good-under d (OfLabel l) g = tt

  pub hangs : Hangs (ahead s.lt) (kids s) (height s) (Good s)
  unfolding kids height Good
  hangs = record {
    lower = λ x g. lower-under x.distance x.subject g;
    after = λ x g. after-under x x.subject refl g;
    good = λ x g. good-under x.distance x.subject g;
  }

  pub left-alike : (xs ys : List (Item D)) → sorted (ahead s.lt) xs ≡ sorted (ahead s.lt) ys → left s xs ≡ left s ys
  unfolding left still
  left-alike xs ys e = joined-alike order order (tree (kids s) (height s)) xs ys e

  pub left-long : (xs : List (Item D)) → length xs ≤ length (left s xs)
  unfolding left
  left-long xs = still-long order hangs xs

  pub left-none : left s [] ≡ []
  unfolding left still sorted
  left-none = refl

  pub node-kids : (x : Item D) (n : ℕ) → x.subject ≡ OfNode n → kids s x ≡ items_in s.to s.near s.view (node_at s.table n)
  unfolding kids
  node-kids x n e = ap (under s) e

  pub label-kids : (x : Item D) (l : Label) → x.subject ≡ OfLabel l → kids s x ≡ []
  unfolding kids
  label-kids x l e = ap (under s) e

  pub node-within : (x : Item D) (n : ℕ) → x.subject ≡ OfNode n → Good s x → n < node_count s.table
  unfolding Good
  node-within x n e g = (subst (GoodAs s x.distance) e g).2

  module _ {xs ys : List (Item D)} {len rest : ℕ} {x : Item D} (t : Taken s xs ys len rest x) where
    pub x-good : Good s x
    x-good = (subst (AllByRecursion (Good s)) t.split t.waits.good).0

    pub opened : left s (take len xs) ≡ x ∷ left s (take rest ys ++ kids s x)
    unfolding left
    opened = turn order hangs (take len xs) (take rest ys) x t.split t.waits.good

    pub kids-fit : rest + length (kids s x) < length (left s (take len xs))
    kids-fit = omega (arith, ap length opened, left-long (take rest ys ++ kids s x), length-append (take rest ys) (kids s x), length-take-le rest ys (omega (arith, t.long, t.less, t.waits.within)))

    pub kids-room : rest + length (kids s x) < length ys
    kids-room = omega (arith, kids-fit, t.long, t.waits.room)

    -- the items right below x were pushed
    module _ (zs : List (Item D)) (r : ℕ) (long' : length zs ≡ length xs) (shape' : Heap (ahead s.lt) zs r) (many : r ≡ rest + length (kids s x))
        (pushed : sorted (ahead s.lt) (take r zs) ≡ sorted (ahead s.lt) (take rest ys ++ kids s x)) where
      pub left-turn : left s (take len xs) ≡ x ∷ left s (take r zs)
      left-turn = opened ∙ ap (λ l. x ∷ l) (sym (left-alike (take r zs) (take rest ys ++ kids s x) pushed))

      pub waits-on : Waiting s zs r
      waits-on = record {
        shape = shape';
        within = omega (arith, kids-room, t.long);
        good = subst (AllByRecursion (Good s)) (sym pushed) (turn-good order hangs (take len xs) (take rest ys) x t.split t.waits.good);
        room = omega (arith, ap length left-turn, t.waits.room);
      }

    -- a label has nothing below it
    module _ (l : Label) (is : x.subject ≡ OfLabel l) where
      as_before : sorted (ahead s.lt) (take rest ys) ≡ sorted (ahead s.lt) (take rest ys ++ kids s x)
      as_before = ap (sorted (ahead s.lt)) (sym (ap (λ k. take rest ys ++ k) (label-kids x l is) ∙ append-nil (take rest ys)))

      none_more : rest ≡ rest + length (kids s x)
      none_more = omega (arith, ap length (label-kids x l is))

      pub label-turn : left s (take len xs) ≡ x ∷ left s (take rest ys)
      label-turn = left-turn ys rest t.long t.shape none_more as_before

      pub label-waits : Waiting s ys rest
      label-waits = waits-on ys rest t.long t.shape none_more as_before
