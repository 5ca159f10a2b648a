use Rattle.std.proofs.Common.{◌≡◌, ℕ, ◌+◌, ◌≤◌, List, length, unwrap_or, sym, refl, ap, ◌∙◌, subst, arith}
use Rattle.image.specs.Layout.{image_of}
use Rattle.image.specs.Nodes.{label_numbers}
use Rattle.image.specs.Results.{numbers_below, Queued}
use Rattle.image.proofs.Scanning.{numbers-all}
use Rattle.image.proofs.Queueing.{queued-none, pushed-told, queued-other, queued-room, queued-leaf}
use Rattle.image.proofs.nodes.Entries.push_numbers.Goals as goal
use Rattle.image.proofs.nodes.Entries.push_numbers.Goals.{then-is_leaf_entry, else-is_leaf_entry}

pub loop-e-init : goal.loop-e-init
loop-e-init c = (refl, queued-none (image_of c.args.self.reader.bytes.now) c.args.numbers.now)

pub loop-e-preserved : goal.loop-e-preserved
loop-e-preserved c =
    let r = c.args.self.reader in
    let d = image_of r.bytes.now in
    let l = c.loop-e in
    let after = c.if-is_leaf_entry in
    let P : List ℕ → ℕ → Type 0 = λ ns k. (length ns ≡ length c.args.numbers.now) × Queued (numbers_below d (l.e + 1)) ns k in
    elim after.branch [
      | then-is_leaf_entry w ↦
          let leaf = sym w.if-is_leaf_entry.ensures in
          let enough : length (label_numbers d) ≤ length l.numbers = omega (arith, l.invariant.0, c.requires) in
          let room = queued-room d l.numbers l.len l.e l.invariant.1 r.entries r.sized.entries c.loop-e-test.true leaf enough in
          let more = w.unwrap_or-len.ensures ∙ ap (λ o. unwrap_or o l.len) (w.push.ensures.told ∙ pushed-told l.numbers l.len room) in
          let pushed : P w.push.new.items w.unwrap_or-len.result =
          (w.push.auto.items ∙ l.invariant.0, queued-leaf d l.numbers l.len l.e l.invariant.1 w.push.new.items w.target.result w.unwrap_or-len.result leaf w.target.ensures room w.push.auto.items more w.push.ensures.queue) in
          subst (λ ns. P ns after.len) (sym w.numbers-is) (subst (λ k. P w.push.new.items k) (sym w.len-is) pushed)
      | else-is_leaf_entry w ↦
          let same : P l.numbers l.len = (l.invariant.0, queued-other d l.numbers l.len l.e l.invariant.1 (sym w.if-is_leaf_entry.ensures)) in
          subst (λ ns. P ns after.len) (sym w.numbers-is) (subst (λ k. P l.numbers k) (sym w.len-is) same)
    ]

pub returns : goal.returns
returns c =
    let d = image_of c.args.self.reader.bytes.now in
    let l = c.loop-e in
    let end : l.e ≡ d.entries = omega arith in
    subst (λ ns. Queued ns l.numbers l.len) (ap (numbers_below d) end ∙ numbers-all d) l.invariant.1
