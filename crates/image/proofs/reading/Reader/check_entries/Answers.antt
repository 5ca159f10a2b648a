use Rattle.std.proofs.Common.{length, ap, ◌∙◌}
use Rattle.image.specs.Layout.{image_of}
use Rattle.image.specs.Checks.{first_of}
use Rattle.image.specs.Results.{as_result, entry_checks}
use Rattle.image.proofs.reading.Reader.check_entries.Goals as goal

pub returns : goal.returns
returns c = c.check.ensures ∙ ap (λ r. as_result (first_of (entry_checks (image_of r.bytes.now) r.nodes r.entries (length c.args.numbers.now)))) c.find_owners.ensures
