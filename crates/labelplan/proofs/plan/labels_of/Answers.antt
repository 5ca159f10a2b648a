use Rattle.std.proofs.Common.{◌≡◌, ℕ, ◌+◌, ◌<◌, List, [], ◌++◌, map, take, Option, sym, refl, ap, ◌∙◌, arith}
use Rattle.std.specs.List.{flat_map, range_with_len}
use Rattle.std.proofs.lemmas.List.{take_all, take_more, flat_map_more}
use Rattle.geometry.specs.declared.label.Label.{Label}
use Rattle.index.specs.declared.slot.Slot.{Slot}
use Rattle.index.specs.Table.{Table, node_count, node_at, slot_at, labels_in, plan}
use Rattle.index.specs.Laws.{Lawful}
use Rattle.index.specs.Opening.{open_node, open_meter}
use Rattle.index.proofs.Opened.{opens-node, slots-read}
use Rattle.labelplan.proofs.plan.labels_of.Goals as goal

-- one more node is opened, and its labels are added
one_more : (t u : Table) (i m n : ℕ) (o p : Option ℕ) (slots : List Slot) (was next : List Label) → Lawful t → i < node_count t → m ≡ i → u ≡ t → p ≡ open_node t i m o → n ≡ open_meter t i m → slots ≡ map (slot_at u p) (range_with_len 0 12) → was ≡ flat_map labels_in (take i t.nodes) → next ≡ was ++ labels_in slots → (u ≡ t) × (n ≡ i + 1) × (next ≡ flat_map labels_in (take (i + 1) t.nodes))
one_more t u i m n o p slots was next lawful h a b c d e inv put =
    let few = lawful.few in
    let opens = opens-node t i m o h (omega (arith, h, few, a)) in
    let read = slots-read t u i m o p slots lawful h (omega (arith, h, few, a)) b c e in
    let more = take_more t.nodes i [] h in
    let onto = flat_map_more labels_in [] (take i t.nodes) (node_at t i) in
    (b, d ∙ sym opens.2 ∙ ap (λ k. k + 1) a, cc)

pub loop-i-preserved : goal.loop-i-preserved
loop-i-preserved g c =
    let inv = c.loop-i.invariant in
    let nodes : c.node_count-i-end.result ≡ node_count (g.S.NodeStore.table c.args.store.now) = c.node_count-i-end.ensures ∙ ap node_count c.zero.ensures.table in
    let same : g.S.NodeStore.table c.open.new.self ≡ g.S.NodeStore.table c.args.store.now = c.open.ensures.table ∙ inv.0 in
    one_more (g.S.NodeStore.table c.args.store.now) _ c.loop-i.i _ _ _ _ _ _ _ (g.met.S.NodeStore.lawful c.args.store.now) (omega (arith, nodes, c.loop-i-test.true)) inv.1 same (rw inv.0 at c.open.ensures.opened) (rw inv.0 at c.open.ensures.metered) refl inv.2 c.in_ok-add_labels.ensures

all : (t : Table) → flat_map labels_in t.nodes ≡ plan t
unfolding plan
all t = refl

pub returns-clause-labels : goal.returns-clause-labels
returns-clause-labels g c =
    let nodes : c.node_count-i-end.result ≡ node_count (g.S.NodeStore.table c.args.store.now) = c.node_count-i-end.ensures ∙ ap node_count c.zero.ensures.table in
    c.loop-i.invariant.2 ∙ ap (λ nodes. flat_map labels_in nodes) (take_all c.loop-i.i (g.S.NodeStore.table c.args.store.now).nodes (omega (arith, nodes, c.loop-i-test.false))) ∙ all (g.S.NodeStore.table c.args.store.now)
