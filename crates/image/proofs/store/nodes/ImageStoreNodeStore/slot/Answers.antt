use Rattle.std.proofs.Common.{Some, get_or, vec_items, sym, ap, ◌∙◌}
use Rattle.index.specs.declared.slot.Slot.TheVariants.{Empty}
use Rattle.index.specs.Table.{slot_at}
use Rattle.image.specs.Layout.{image_of}
use Rattle.image.specs.Nodes.{node_of, table_of}
use Rattle.image.specs.Opened.{noted, opens_at}
use Rattle.image.specs.Lawfulness.{node_at-table_of}
use Rattle.image.specs.Held.{opens-told}
use Rattle.image.proofs.store.nodes.ImageStoreNodeStore.slot.Goals as goal

pub returns-in-Some : goal.returns-in-Some
returns-in-Some c =
    let s = c.args.self.now in
    let d = image_of (vec_items s.bytes) in
    let i = c.in-Some.i in
    let there = (opens-told d i (noted s.starts (Some i)) (ap (λ o. opens_at d o (noted s.starts o)) c.in-Some.ensures ∙ s.within)).0 in
    c.slot.ensures ∙ ap (λ l. get_or (node_of (image_of l) i) c.args.j Empty) c.reader.ensures.bytes
    ∙ ap (λ slots. get_or slots c.args.j Empty) (sym (node_at-table_of d i there)) ∙ ap (λ o. slot_at (table_of d) o c.args.j) c.in-Some.ensures
