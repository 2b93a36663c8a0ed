-- What a table keeps, where only a truncated proof of it is at hand.
use Rattle.std.proofs.Common.{ℕ, List}
use Rattle.std.proofs.Props.{props}
use Rattle.std.proofs.Math.Logic.{∥∥₁_elim}
use Rattle.model.specs.Rows.{Tabled}
use Rattle.model.specs.declared.table.row.Row.{Row}

pub tabled_out : {n k : ℕ} {rows : List Row} → ∥ Tabled n k rows ∥₁ → Tabled n k rows
tabled_out h = ∥∥₁_elim h (hlevel props) (λ t. t)
