use Rattle.std.proofs.Common.{◌≡◌, ℕ, ◌<◌, length, get_or}
use Rattle.model.specs.Kinds.{nowhere, StateRanged}
use Rattle.model.specs.Rows.{row_at}
use Rattle.model.proofs.Tabling.{row_of}
use Rattle.model.proofs.table.Table.from_states.Given as goal

abbrev pub invariant-loop-s : goal.invariant-loop-s
invariant-loop-s l =
    (length l.rows ≡ 64) ×
    ((t : ℕ) → t < l.s → (row_at l.rows t ≡ row_of l.agents (get_or l.fn.states t nowhere)) × StateRanged l.n l.agents (get_or l.fn.states t nowhere))
