use Rattle.std.proofs.Common.{◌≡◌, ℕ, ◌<◌, ◌≤◌, get_or}
use Rattle.image.specs.Layout.{image_of}
use Rattle.image.specs.Nodes.{start, owner}
use Rattle.image.proofs.reading.Reader.find_owners.Given as goal

abbrev pub invariant-loop-i : goal.invariant-loop-i
invariant-loop-i l = (e : ℕ) → 1 ≤ e → e < start (image_of l.self.bytes.now) l.i → get_or l.owners e 0 ≡ owner (image_of l.self.bytes.now) e
