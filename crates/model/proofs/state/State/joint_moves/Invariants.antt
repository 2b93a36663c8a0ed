use Rattle.std.proofs.Common.{◌≡◌, ℕ, ◌<◌, ◌≤◌, take}
use Rattle.model.specs.Model.{everyone, moves, most}
use Rattle.model.specs.Kinds.{counts_at}
use Rattle.model.proofs.state.State.joint_moves.Given as goal

abbrev pub invariant-loop-d : goal.invariant-loop-d
invariant-loop-d l =
    let d = counts_at l.fn.self in
    (l.joint ≡ moves everyone d l.d-index) × (1 ≤ l.joint) × (l.joint ≤ most) × ((i : ℕ) → i < l.d-index → (1 ≤ d i) × (d i ≤ most)) ×
    (l.d-items ≡ take l.fn.agents l.fn.self.counts)
