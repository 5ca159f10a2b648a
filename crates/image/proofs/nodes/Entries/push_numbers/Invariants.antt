use Rattle.std.proofs.Common.{◌≡◌, length}
use Rattle.image.specs.Layout.{image_of}
use Rattle.image.specs.Results.{numbers_below, Queued}
use Rattle.image.proofs.nodes.Entries.push_numbers.Given as goal

abbrev pub invariant-loop-e : goal.invariant-loop-e
invariant-loop-e l = (length l.numbers ≡ length l.initial.numbers) × Queued (numbers_below (image_of l.self.reader.bytes.now) l.e) l.numbers l.len
