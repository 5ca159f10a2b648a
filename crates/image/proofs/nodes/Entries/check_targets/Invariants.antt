use Rattle.std.proofs.Common.{◌≡◌, None}
use Rattle.image.specs.Layout.{image_of}
use Rattle.image.specs.Checks.{first_bad, target_fine}
use Rattle.image.specs.Results.{Led}
use Rattle.image.proofs.nodes.Entries.check_targets.Given as goal

abbrev pub invariant-loop-e : goal.invariant-loop-e
invariant-loop-e l = (first_bad (target_fine (image_of l.self.reader.bytes.now)) l.e ≡ None) × Led l.self.reader.bytes.now l.leaders l.e
