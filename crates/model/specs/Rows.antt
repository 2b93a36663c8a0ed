-- The rows of a table: a state, and beside it how many joint moves it has.
use Rattle.std.specs.Prelude.{◌≡◌, ℕ, ◌<◌, List, slice_index_or}
use Rattle.model.specs.Model.{Model, Ranged, joint}
use Rattle.model.specs.Kinds.{nowhere, written}
use Rattle.model.specs.declared.table.row.Row.{Row}

-- what stands past the rows
abbrev pub no_row : Row
no_row = record { state = nowhere; joint = 0 }

abbrev pub row_at : List Row → ℕ → Row
row_at rows s = slice_index_or rows s no_row

-- the model that n rows are, for k agents
abbrev pub rows_model : ℕ → ℕ → List Row → Model
rows_model n k rows = written n k (λ s. (row_at rows s).state)

-- what a table keeps: the ranges, and that each row's number is that of its joint moves
pub record Tabled (n k : ℕ) (rows : List Row) : Type 0 where
  pub ranged : Ranged (rows_model n k rows)
  pub counted : (s : ℕ) → s < n → (row_at rows s).joint ≡ joint (rows_model n k rows) s
