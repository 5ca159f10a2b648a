use Rattle.std.proofs.Common.{◌≡◌, ℕ, ◌+◌, ◌<◌, List, ◌++◌, length, get_or, take, string_bytes, ap, ◌∙◌, arith}
use Rattle.std.specs.List.{flat_map, enumerate_from}
use Rattle.std.proofs.lemmas.List.{take_all, take_more, flat_map_more}
use Rattle.std.proofs.lemmas.List.FromFn.{length-enumerate_from, get_or-enumerate_from}
use Rattle.index.specs.declared.slot.Slot.{Slot}
use Rattle.script.specs.Report.{node_line, slot_entry}
use Rattle.labelplan.proofs.plan.node_of.Goals as goal

abbrev entry : ℕ × Slot → List ℕ
entry e = slot_entry e.0 e.1

-- one more slot is shown
one_more : (ss : List Slot) (j : ℕ) (s : Slot) (front was next : List ℕ) → j < length ss → s ≡ get_or ss j s → was ≡ front ++ flat_map entry (take j (enumerate_from 0 ss)) → next ≡ was ++ slot_entry j s → next ≡ front ++ flat_map entry (take (j + 1) (enumerate_from 0 ss))
one_more ss j s front was next h e inv put =
    let long = length-enumerate_from 0 ss in
    let more = take_more (enumerate_from 0 ss) j (0, s) (omega (arith, long, h)) in
    let here = get_or-enumerate_from 0 ss j (0, s) h in
    let at : 0 + j ≡ j = omega arith in
    let same : ◌≡◌ {A = ℕ × Slot} (0 + j, get_or ss j s) (j, s) = cc in
    let onto = flat_map_more entry front (take j (enumerate_from 0 ss)) (j, s) in
    cc

pub loop-j-preserved : goal.loop-j-preserved
loop-j-preserved c =
    let text = c.as_str.ensures.value in
    let made = c.in_ok-slot_entry.ensures in
    let put = c.in_ok-push_str.ensures.bytes in
    one_more c.args.slots.now c.loop-j.j c.index-slots-j.result (string_bytes c.in_ok-line.line) _ _ c.loop-j-test.true c.index-slots-j.is c.loop-j.invariant (cc)

pub returns : goal.returns
returns c =
    let all = take_all c.loop-j.j (enumerate_from 0 c.args.slots.now) (rw (length-enumerate_from 0 c.args.slots.now) c.loop-j-test.false) in
    let line : string_bytes c.in_ok-line.line ≡ node_line c.args.number c.is_inner.result c.args.around = c.in_ok-line.ensures in
    let kind = ap (λ b. node_line c.args.number b c.args.around) c.is_inner.ensures in
    c.loop-j.invariant ∙ ap (λ es. string_bytes c.in_ok-line.line ++ flat_map entry es) all ∙ ap (λ front. front ++ flat_map entry (enumerate_from 0 c.args.slots.now)) (line ∙ kind)
