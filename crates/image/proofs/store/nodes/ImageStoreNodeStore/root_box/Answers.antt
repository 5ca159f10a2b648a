use Rattle.std.proofs.Common.{◌≡◌, is_ok, Ok, vec_items, sym, ap, ◌∙◌}
use Rattle.image.specs.Layout.{image_of}
use Rattle.image.specs.Nodes.{table_of}
use Rattle.image.proofs.Slotting.{root-read}
use Rattle.image.proofs.store.nodes.ImageStoreNodeStore.root_box.Goals as goal

pub unwrap-requires : goal.unwrap-requires
unwrap-requires c =
    let s = c.args.self.now in
    ap is_ok (c.rect.ensures ∙ root-read (vec_items s.bytes) c.reader.result.bytes.now c.reader.ensures.bytes s.fine)

pub returns : goal.returns
returns c =
    let s = c.args.self.now in
    let made : Ok c.unwrap.result ≡ Ok (table_of (image_of (vec_items s.bytes))).box = sym c.unwrap.ensures ∙ c.rect.ensures ∙ root-read (vec_items s.bytes) c.reader.result.bytes.now c.reader.ensures.bytes s.fine in
    cc
