-- The items of a node enter the queue one by one.
use Rattle.std.proofs.Common.{◌≡◌, ℕ, zero, suc, ◌+◌, ◌<◌, ◌≤◌, Bool, List, [], ◌∷◌, ◌++◌, length, get_or, take, Some, None, Option, sym, refl, ap, ◌∙◌, add-one, arith, length-append}
use Rattle.std.specs.List.{flat_map}
use Rattle.std.proofs.lemmas.List.{append_assoc, append-nil}
use Rattle.geometry.specs.declared.place.Place.{Place}
use Rattle.geometry.specs.declared.rect.Rect.{Rect}
use Rattle.queue.specs.Order.{Order, insert, sorted}
use Rattle.queue.specs.Shape.{Heap}
use Rattle.queue.specs.Calls.{Pushed}
use Rattle.queue.proofs.Sorting.{sorted-push}
use Rattle.index.specs.declared.slot.Slot.{Slot}
use Rattle.index.specs.declared.slot.Slot.TheVariants.{Empty}
use Rattle.index.specs.Table.{Table, slot_at}
use Rattle.neighbours.specs.declared.item.Item.{Item}
use Rattle.neighbours.specs.declared.view.View.{View}
use Rattle.neighbours.specs.Scene.{item_of, items_in, listed}
use Rattle.search.specs.Entering.{open_slots, Entered}

module _ {X : Type 0} {lt : X → X → Bool} where
  pub entered-none : (items : List X) (len : ℕ) → Heap lt items len → Entered lt items items len len []
  entered-none items len h = record { many = omega arith; shape = h; contents = ap (sorted lt) (sym (append-nil (take len items))) }

  pub entered-one : Order lt → (before after : List X) (len : ℕ) (x : X) → len < length before → Heap lt before len → Pushed lt before after len x → Entered lt before after len (len + 1) (x ∷ [])
  entered-one o before after len x room h p = record { many = refl; shape = p.shape room h; contents = p.contents room ∙ sym (sorted-push o (take len before) x) }

  -- what came before, and then at most one item more
  pub entered-more : Order lt → (before mid after : List X) (len count r : ℕ) (new : List X) (item : Option X)
      → Entered lt before mid len count new → Entered lt mid after count r (listed item) → Entered lt before after len r (new ++ listed item)
  entered-more o before mid after len count r new (Some x) e f = record {
    many = omega (arith, e.many, f.many, length-append new (x ∷ []));
    shape = f.shape;
    contents = f.contents ∙ sorted-push o (take count mid) x ∙ ap (insert lt x) e.contents ∙ sym (sorted-push o (take len before ++ new) x) ∙ ap (sorted lt) (append_assoc (take len before) new (x ∷ []));
  }
  entered-more o before mid after len count r new None e f = record {
    many = omega (arith, e.many, f.many, ap length (append-nil new));
    shape = f.shape;
    contents = f.contents ∙ ap (sorted lt) (append-nil (take count mid)) ∙ e.contents ∙ ap (λ l. sorted lt (take len before ++ l)) (sym (append-nil new));
  }

module _ {D : Type 0} (to : Place → D) (near : Rect → D) (v : View) where
  abbrev gives : Slot → List (Item D)
  gives s = listed (item_of to near v s)

  pub items_more : (slots : List Slot) (j : ℕ) → items_in to near v (take (j + 1) slots) ≡ items_in to near v (take j slots) ++ gives (get_or slots j Empty)
  unfolding items_in
  items_more slots j = rw add-one (more slots j)
    where
      more : (slots : List Slot) (j : ℕ) → flat_map gives (take (suc j) slots) ≡ flat_map gives (take j slots) ++ gives (get_or slots j Empty)
      more [] zero = refl
      more [] (suc j) = refl
      more (s ∷ slots) zero = append-nil (gives s)
      more (s ∷ slots) (suc j) = ap (λ l. gives s ++ l) (more slots j) ∙ sym (append_assoc (gives s) (flat_map gives (take j slots)) (gives (get_or slots j Empty)))

  pub items-front : (slots : List Slot) (j : ℕ) → length (items_in to near v (take j slots)) ≤ length (items_in to near v slots)
  unfolding items_in
  items-front slots zero = omega arith
  items-front [] (suc j) = omega arith
  items-front (s ∷ slots) (suc j) = omega (arith, items-front slots j, length-append (gives s) (items_in to near v (take j slots)), length-append (gives s) (items_in to near v slots))

  -- there is room for what a slot gives
  pub items-room : (slots : List Slot) (j : ℕ) → length (items_in to near v (take j slots)) + length (gives (get_or slots j Empty)) ≤ length (items_in to near v slots)
  items-room slots j = omega (arith, items-front slots (j + 1), ap length (items_more slots j), length-append (items_in to near v (take j slots)) (gives (get_or slots j Empty)))

pub slot-open : (t : Table) (o : Option ℕ) (j : ℕ) → slot_at t o j ≡ get_or (open_slots t o) j Empty
slot-open t (Some n) j = refl
slot-open t None zero = refl
slot-open t None (suc j) = refl
