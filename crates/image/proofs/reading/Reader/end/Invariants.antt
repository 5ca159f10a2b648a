use Rattle.std.proofs.Common.{◌≡◌, ◌+◌, ◌*◌, ◌≤◌}
use Rattle.image.specs.Layout.{image_of}
use Rattle.image.specs.Nodes.{start}
use Rattle.image.proofs.reading.Reader.end.Given as goal

abbrev pub invariant-loop-i : goal.invariant-loop-i
invariant-loop-i l = (l.end ≡ start (image_of l.self.bytes.now) l.i) × (l.end ≤ 1 + 255 * l.i)
