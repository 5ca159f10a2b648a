use Rattle.std.proofs.Common.{◌≡◌, ◌<◌, false, sym, ap, ◌∙◌, arith}
use Rattle.geometry.specs.Numbers.{present}
use Rattle.index.specs.Table.{node_count, node_at, labels_in}
use Rattle.index.proofs.Opened.{opens-node, slots-read}
use Rattle.edit.proofs.Sought.{present-in, absent-more, absent-all, present-found}
use Rattle.edit.proofs.seeking.has_number.Goals as goal

pub returns-then-is_here-clause-value : goal.returns-then-is_here-clause-value
returns-then-is_here-clause-value g c =
    let store = g.S.NodeStore in
    let t = store.table c.args.store.now in
    let inv = c.loop-i.invariant in
    let i : c.loop-i.i < node_count t = omega (arith, c.loop-i-test.true, c.node_count-i-end.ensures) in
    let room : store.metered c.loop-i.store < 2000000 = omega (arith, c.requires, inv.2, i) in
    let read = slots-read t (store.table c.open.new.self) c.loop-i.i (store.metered c.loop-i.store) (store.opened c.loop-i.store) (store.opened c.open.new.self) c.open_slots.result (g.met.S.NodeStore.lawful c.args.store.now) i room (c.open.ensures.table ∙ inv.0) (rw inv.0 at c.open.ensures.opened) c.open_slots.ensures in
    sym (present-found c.args.number c.loop-i.i t i (ap (λ s. present c.args.number (labels_in s)) (sym read) ∙ sym (present-in c.args.number c.open_slots.result) ∙ sym c.if-is_here.ensures))

pub loop-i-preserved : goal.loop-i-preserved
loop-i-preserved g c =
    let store = g.S.NodeStore in
    let t = store.table c.args.store.now in
    let inv = c.loop-i.invariant in
    let i : c.loop-i.i < node_count t = omega (arith, c.loop-i-test.true, c.node_count-i-end.ensures) in
    let room : store.metered c.loop-i.store < 2000000 = omega (arith, c.requires, inv.2, i) in
    let read = slots-read t (store.table c.open.new.self) c.loop-i.i (store.metered c.loop-i.store) (store.opened c.loop-i.store) (store.opened c.open.new.self) c.open_slots.result (g.met.S.NodeStore.lawful c.args.store.now) i room (c.open.ensures.table ∙ inv.0) (rw inv.0 at c.open.ensures.opened) c.open_slots.ensures in
    let none : present c.args.number (labels_in (node_at t c.loop-i.i)) ≡ false = ap (λ s. present c.args.number (labels_in s)) (sym read) ∙ sym (present-in c.args.number c.open_slots.result) ∙ sym c.if-is_here.ensures in
    let more = rw inv.0 at c.open.ensures.metered in (
      c.open.ensures.table ∙ inv.0,
      c.open.ensures.frames ∙ inv.1,
      omega (arith, more, (opens-node t c.loop-i.i (store.metered c.loop-i.store) (store.opened c.loop-i.store) i room).2, inv.2),
      absent-more c.args.number c.loop-i.i t i inv.3 none,
    )

pub returns-clause-value : goal.returns-clause-value
returns-clause-value g c =
    let t = g.S.NodeStore.table c.args.store.now in
    sym (absent-all c.args.number c.loop-i.i t (omega (arith, c.loop-i-test.false, c.node_count-i-end.ensures, c.loop-i.auto.i-end)) c.loop-i.invariant.3)
