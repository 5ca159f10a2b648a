-- What is seen by a measure in a view.
use Rattle.std.specs.Prelude.{Bool, List, Option}
use Rattle.geometry.specs.declared.place.Place.{Place}
use Rattle.geometry.specs.declared.rect.Rect.{Rect}
use Rattle.index.specs.declared.slot.Slot.{Slot}
use Rattle.index.specs.Table.{Table}
use Rattle.neighbours.specs.declared.item.Item.{Item}
use Rattle.neighbours.specs.Scene.{Scene, scene, item_of, items_in}
use Rattle.search.specs.declared.sight.Sight.{Sight}

-- the scene of a table, as it is seen
abbrev pub seen : {D M : Type 0} → (D → D → Bool) → (M → Place → Place → D) → (M → Place → Rect → D) → Sight M → Table → Scene D
seen lt dist bound s t = scene lt t (dist s.measure.now) (bound s.measure.now) s.view

-- the item of a slot, if it has one that is seen
abbrev pub item_seen : {D M : Type 0} → (M → Place → Place → D) → (M → Place → Rect → D) → Sight M → Slot → Option (Item D)
item_seen dist bound s = item_of (dist s.measure.now s.view.from) (bound s.measure.now s.view.from) s.view

-- the items of a node's slots that are seen
abbrev pub items_seen : {D M : Type 0} → (M → Place → Place → D) → (M → Place → Rect → D) → Sight M → List Slot → List (Item D)
items_seen dist bound s = items_in (dist s.measure.now s.view.from) (bound s.measure.now s.view.from) s.view
