-- The model that a table is.
use Rattle.model.specs.Model.{Model}
use Rattle.model.specs.Rows.{rows_model}
use Rattle.model.specs.declared.table.Table.{Table}

abbrev pub model_of : Table → Model
model_of t = rows_model t.states t.agents t.rows
