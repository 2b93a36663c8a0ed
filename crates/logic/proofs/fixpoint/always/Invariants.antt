use Rattle.std.proofs.Common.{ℕ, T}
use Rattle.sets.specs.Sets.{Set}
use Rattle.logic.specs.Logic.{Stays}
use Rattle.sets.specs.Sets.{member, who}
use Rattle.logic.proofs.Shrinking.{rank}
use Rattle.logic.proofs.fixpoint.always.Given as goal

-- x lies inside `inner`, and holds each set in which A can stay
abbrev pub invariant-rounds : goal.invariant-rounds
invariant-rounds g l =
    let M = g.G.Game.model l.g in
    ((s : ℕ) → T (member l.x s) → T (member l.initial.x s)) ×
    ((X : Set) → Stays M (who l.a) (λ t. T (member l.initial.x t)) X → (s : ℕ) → T (X s) → T (member l.x s))

abbrev pub decreases-rounds : goal.decreases-rounds
decreases-rounds g l = rank l.x
