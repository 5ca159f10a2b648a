-- What a lattice shows as a store.
use Rattle.std.specs.Prelude.{◌≡◌, None}
use Rattle.index.specs.Table.{Table}
use Rattle.lattice.specs.declared.lattice.Lattice.{Lattice}
use Rattle.lattice.specs.Grid.{grid_table}

-- the table of a lattice
abbrev pub table_of : Lattice → Table
table_of l = grid_table l.rows l.columns l.step l.x l.y l.first

-- a lattice with this table, no node open, and meter 0
pub record Fresh (t : Table) (l : Lattice) : Type 0 where
  pub table : table_of l ≡ t
  pub opened : l.openings.node ≡ None
  pub meter : l.openings.meter ≡ 0
