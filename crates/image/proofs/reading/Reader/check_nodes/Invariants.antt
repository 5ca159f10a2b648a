use Rattle.std.proofs.Common.{◌≡◌, ◌+◌, ◌*◌, drop, None}
use Rattle.image.specs.Layout.{image_of}
use Rattle.image.specs.Checks.{first_bad, node_fine}
use Rattle.image.proofs.reading.Reader.check_nodes.Given as goal

abbrev pub invariant-loop-i : goal.invariant-loop-i
invariant-loop-i l = (l.left ≡ drop (4 + 2 * l.i) l.self.bytes.now) × (first_bad (node_fine (image_of l.self.bytes.now)) l.i ≡ None)
