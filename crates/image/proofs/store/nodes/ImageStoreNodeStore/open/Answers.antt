use Rattle.std.proofs.Common.{◌≡◌, ◌<◌, true, false, vec_items, slice_index, nat_lt, sym, ap, ◌∙◌, subst, ⊎_elim, arith}
use Rattle.std.proofs.lemmas.Bool.{cases_Bool, cond-true, cond-false}
use Rattle.std.proofs.lemmas.Bool.Decides.{nat_tests}
use Rattle.geometry.proofs.Boxes.{and_both}
use Rattle.index.specs.Opening.{opens_among, result_among, node_among, meter_among}
use Rattle.image.specs.Layout.{image_of}
use Rattle.image.specs.Opened.{noted, opens_at}
use Rattle.image.specs.Held.{opens-made}
use Rattle.image.proofs.Showing.{nodes-stored}
use Rattle.image.proofs.store.nodes.ImageStoreNodeStore.open.Goals as goal

pub invariant_of-self-clause-within : goal.invariant_of-self-clause-within
invariant_of-self-clause-within c =
    let s = c.args.self.now in
    let i = c.args.i in
    let m = s.openings.meter in
    let d = image_of (vec_items s.bytes) in
    ⊎_elim
    (λ (t : opens_among s.nodes i m ≡ true).
    let few : i < s.nodes = (let w = (and_both (nat_lt i s.nodes) (nat_lt m 2000000) t).0 in grind (arith, nat_tests)) in
    subst (λ o. opens_at d o (noted s.starts o) ≡ true) (sym (c.open.ensures.node ∙ cond-true (opens_among s.nodes i m) _ _ t))
    (opens-made d i (slice_index s.starts i) (omega (arith, few, s.sized.0)) (s.placed i few)))
    (λ (f : opens_among s.nodes i m ≡ false).
    subst (λ o. opens_at d o (noted s.starts o) ≡ true) (sym (c.open.ensures.node ∙ cond-false (opens_among s.nodes i m) _ _ f)) s.within)
    (cases_Bool (opens_among s.nodes i m))

pub returns-clause-told : goal.returns-clause-told
returns-clause-told c =
    let s = c.args.self.now in
    c.open.ensures.told ∙ ap (λ n. result_among n c.args.i s.openings.meter) (nodes-stored s)

pub returns-clause-opened : goal.returns-clause-opened
returns-clause-opened c =
    let s = c.args.self.now in
    c.open.ensures.node ∙ ap (λ n. node_among n c.args.i s.openings.meter s.openings.node) (nodes-stored s)

pub returns-clause-metered : goal.returns-clause-metered
returns-clause-metered c =
    let s = c.args.self.now in
    c.open.ensures.meter ∙ ap (λ n. meter_among n c.args.i s.openings.meter) (nodes-stored s)
