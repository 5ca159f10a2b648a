-- The items of a search are in a strict total order.
use Rattle.std.specs.Prelude.{◌≡◌, Bool, true, false, int_lt, refl}
use Rattle.std.proofs.Common.{ap, arith}
use Rattle.std.proofs.lemmas.Int.{ints}
use Rattle.std.proofs.lemmas.Bool.{true≢false, false≢true}
use Rattle.queue.specs.Order.{Order}
use Rattle.queue.specs.Numbers.{number-order}
use Rattle.queue.specs.Keys.{by_key, then-weak, tells-level, decided}
use Rattle.geometry.specs.declared.label.Label.{Label}
use Rattle.geometry.proofs.Same.{same_place, same-label}
use Rattle.neighbours.specs.declared.item.Item.{Item}
use Rattle.neighbours.specs.declared.item.Subject.{Subject}
use Rattle.neighbours.specs.declared.item.Subject.TheVariants.{OfNode, OfLabel}
use Rattle.neighbours.specs.Items.{label_before, subject_before, ahead}

signed-order : Order int_lt
signed-order = record {
  never = λ x. grind (arith, ints);
  chain = λ x y z h k. grind (arith, ints);
  decides = λ x y h k. omega (arith, ints);
}

pub label-order : Order label_before
label-order =
    let n = by_key number-order (λ (a : Label). a.number) in
    let x = by_key signed-order (λ (a : Label). a.place.x) in
    let y = by_key signed-order (λ (a : Label). a.place.y) in
    let xy = then-weak x y in
    decided (then-weak n xy) (λ a b h g.
    let e = tells-level n xy a b h g in
    let f = tells-level x y a b e.2 e.3 in
    same-label a b (number-order.decides a.number b.number e.0 e.1)
    (same_place a.place b.place (signed-order.decides _ _ f.0 f.1) (signed-order.decides _ _ f.2 f.3)))

subject-never : (a : Subject) → subject_before a a ≡ false
subject-never (OfNode n) = number-order.never n
subject-never (OfLabel l) = label-order.never l

subject-chain : (a b c : Subject) → subject_before a b ≡ true → subject_before b c ≡ true → subject_before a c ≡ true
subject-chain (OfNode m) (OfNode n) (OfNode o) h k = number-order.chain m n o h k
subject-chain (OfNode m) (OfNode n) (OfLabel o) h k = refl
subject-chain (OfNode m) (OfLabel l) (OfNode o) h k = absurd (false≢true k)
subject-chain (OfNode m) (OfLabel l) (OfLabel o) h k = refl
subject-chain (OfLabel l) (OfNode n) c h k = absurd (false≢true h)
subject-chain (OfLabel l) (OfLabel m) (OfNode o) h k = absurd (false≢true k)
subject-chain (OfLabel l) (OfLabel m) (OfLabel o) h k = label-order.chain l m o h k

subject-decides : (a b : Subject) → subject_before a b ≡ false → subject_before b a ≡ false → a ≡ b
subject-decides (OfNode m) (OfNode n) h k = ap (λ i. OfNode i) (number-order.decides m n h k)
subject-decides (OfNode m) (OfLabel l) h k = absurd (true≢false h)
subject-decides (OfLabel l) (OfNode n) h k = absurd (true≢false k)
subject-decides (OfLabel l) (OfLabel m) h k = ap (λ i. OfLabel i) (label-order.decides l m h k)

pub subject-order : Order subject_before
subject-order = record { never = subject-never; chain = subject-chain; decides = subject-decides }

pub item-order : {D : Type 0} {lt : D → D → Bool} → Order lt → Order (ahead lt)
item-order {D} {lt} o =
    let d = by_key o (λ (a : Item D). a.distance) in
    let s = by_key subject-order (λ (a : Item D). a.subject) in
    decided (then-weak d s) (λ a b h g.
    let e = tells-level d s a b h g in
    let ed = o.decides a.distance b.distance e.0 e.1 in
    let es = subject-order.decides a.subject b.subject e.2 e.3 in
    λ t. record { distance = ed t; subject = es t })
