-- What a lattice shows as a store.
use Rattle.std.specs.Prelude.{◌≡◌, ◌+◌}
use Rattle.index.specs.Table.{node_count}
use Rattle.index.specs.Laws.{Lawful, Inside}
use Rattle.lattice.specs.declared.lattice.Lattice.{Lattice}
use Rattle.lattice.specs.Shown.{table_of}
use Rattle.lattice.specs.Grid.{Exact}
use Rattle.lattice.specs.Fitting.{exact}
use Rattle.lattice.specs.Tree.{count, lawful, node-inside}

pub shows-count : (l : Lattice) → node_count (table_of l) ≡ l.rows + 1
shows-count l = count l.rows l.columns l.step l.x l.y l.first l.lined

pub shows-lawful : (l : Lattice) → Lawful (table_of l)
shows-lawful l = lawful l.rows l.columns l.step l.x l.y l.first l.lined l.numbered

pub shows-inside : (l : Lattice) → Inside (table_of l) l.openings.node
shows-inside l = node-inside l.rows l.columns l.step l.x l.y l.first l.lined l.openings.node l.within

pub shows-exact : (l : Lattice) → Exact l.rows l.columns l.step l.x l.y l.first
shows-exact l = exact l.rows l.columns l.step l.x l.y l.first l.lined l.across l.upward l.numbered
