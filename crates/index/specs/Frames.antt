-- Layers of changes over a table.
use Rattle.std.specs.Prelude.{ℕ, List}
use Rattle.geometry.specs.declared.label.Label.{Label}
use Rattle.index.specs.Table.{Table}

-- the labels added, in order, and the numbers withdrawn below
pub record Layer : Type 0 where
  pub added : List Label
  pub withdrawn : List ℕ

-- a layer, and the table that it lies on
pub record Frame : Type 0 where
  pub layer : Layer
  pub under : Table
