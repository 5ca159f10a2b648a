-- The items of a search, and their order: by distance, nodes before labels, then by number.
use Rattle.std.specs.Prelude.{Bool, true, false, ltb, int_lt, nat_lt}
use Rattle.queue.specs.Order.{then_by}
use Rattle.geometry.specs.declared.label.Label.{Label}
use Rattle.neighbours.specs.declared.item.Item.{Item}
use Rattle.neighbours.specs.declared.item.Subject.{Subject}
use Rattle.neighbours.specs.declared.item.Subject.TheVariants.{OfNode, OfLabel}

-- labels by number; the place comes last, so that labels that are level are the same
abbrev pub label_before : Label → Label → Bool
label_before = then_by (λ a b. ltb a.number b.number) (then_by (λ a b. int_lt a.place.x b.place.x) (λ a b. int_lt a.place.y b.place.y))

-- nodes before labels, then by number
abbrev pub subject_before : Subject → Subject → Bool
subject_before (OfNode a) (OfNode b) = nat_lt a b
subject_before (OfNode a) (OfLabel m) = true
subject_before (OfLabel l) (OfNode b) = false
subject_before (OfLabel l) (OfLabel m) = label_before l m

-- by distance, then by what the items are
abbrev pub ahead : {D : Type 0} → (D → D → Bool) → Item D → Item D → Bool
ahead lt = then_by (λ a b. lt a.distance b.distance) (λ a b. subject_before a.subject b.subject)
