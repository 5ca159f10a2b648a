use Rattle.std.proofs.Common.{◌≡◌, ◌+◌, ◌<◌, ltb, length, Some, None, unwrap_or, sym, ap, ◌∙◌, arith}
use Rattle.std.proofs.lemmas.Bool.{cond-true, lt-ltb}
use Rattle.neighbours.specs.Items.{ahead}
use Rattle.neighbours.specs.Scene.{item_of, listed}
use Rattle.neighbours.specs.Ordering.{item-order}
use Rattle.search.specs.Entering.{Entered}
use Rattle.search.proofs.Queueing.{entered-one}
use Rattle.search.proofs.sight.Sight.push_slot.Goals as goal

pub returns-in-Some : goal.returns-in-Some
returns-in-Some g c =
    let a = c.args in
    let m = g.M.Measure in
    let lt = ahead g.M.Distance.Ranked.precedes in
    let x = c.in-Some.item in
    let item = item_of (m.dist a.self.now.measure.now a.self.now.view.from) (m.bound a.self.now.measure.now a.self.now.view.from) a.self.now.view a.slot in
    let is : item ≡ Some x = sym c.item_of.ensures ∙ c.in-Some.is in
    let room : a.len < length a.items.now = omega (arith, c.requires.room, ap (λ o. length (listed o)) is) in
    let more : c.unwrap_or.result ≡ a.len + 1 = c.unwrap_or.ensures ∙ ap (λ o. unwrap_or o a.len) (c.push.ensures.told ∙ cond-true (ltb a.len (length a.items.now)) (Some (a.len + 1)) None (lt-ltb a.len (length a.items.now) room)) in
    coe 1 0 (i. Entered lt a.items.now c.push.new.items a.len (more i) (listed (is i))) (entered-one (item-order g.met.M.Distance.Ranked.ordered) a.items.now c.push.new.items a.len x room c.requires.shape c.push.ensures.queue)
