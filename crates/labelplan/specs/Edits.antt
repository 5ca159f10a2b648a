-- The laws of a store, of an edit over a store that obeys them, and so of an edit that is kept.
use Rattle.std.specs.Prelude.{ℕ, ◌≤◌, Option}
use Rattle.index.specs.Table.{Table}
use Rattle.index.specs.Laws.{Lawful, Inside}
use Rattle.runs.specs.Layers.{closed, shown}
use Rattle.runs.proofs.Layering.{shown-lawful}
use Rattle.edit.specs.declared.edit.Edit.{Edit}
use Rattle.edit.specs.Showing.{layer_of, opened_at, counted}
use Rattle.edit.specs.Laws.{within, bounded}

pub edit-lawful : {S : Type 0} (table : S → Table) → ((s : S) → Lawful (table s)) → (e : Edit S) → Lawful (shown (layer_of e.changes) (table e.below))
edit-lawful table lawful e = shown-lawful (layer_of e.changes) (table e.below) (lawful e.below) e.changes.few e.changes.apart

pub edit-within : {S : Type 0} (table : S → Table) (opened : S → Option ℕ) → ((s : S) → Inside (table s) (opened s)) → (e : Edit S) → Inside (shown (layer_of e.changes) (table e.below)) (opened_at (closed (table e.below)) e.at (opened e.below))
edit-within table opened inside e = within (layer_of e.changes) (table e.below) e.at (opened e.below) (inside e.below)

pub edit-bounded : {S : Type 0} (table : S → Table) (metered : S → ℕ) → ((s : S) → metered s ≤ 2000000) → (e : Edit S) → counted (closed (table e.below)) (metered e.below) e.own ≤ 2000000
edit-bounded table metered small e = bounded (closed (table e.below)) (metered e.below) e.own (small e.below)
