use Rattle.runs.proofs.Running.{law}
use Rattle.edit.proofs.edit.Edit.over.Goals as goal

pub returns-clause-law : goal.returns-clause-law
returns-clause-law g c = law _ (g.met.S.NodeStore.lawful c.args.below)
