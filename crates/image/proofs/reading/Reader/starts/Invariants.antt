use Rattle.std.proofs.Common.{◌≡◌, ℕ, ◌+◌, ◌*◌, ◌≤◌, length, get_or}
use Rattle.image.specs.Layout.{image_of}
use Rattle.image.specs.Nodes.{start}
use Rattle.image.proofs.reading.Reader.starts.Given as goal

abbrev pub invariant-loop-i : goal.invariant-loop-i
invariant-loop-i l = (length l.starts ≡ 129) × (get_or l.starts l.i 0 ≤ 1 + 255 * l.i) × ((k : ℕ) → k ≤ l.i → get_or l.starts k 0 ≡ start (image_of l.self.bytes.now) k)
