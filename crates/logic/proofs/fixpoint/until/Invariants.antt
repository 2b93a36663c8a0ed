use Rattle.std.proofs.Common.{ℕ, T, ◌⊎◌}
use Rattle.sets.specs.Sets.{Set}
use Rattle.logic.specs.Logic.{Closed}
use Rattle.sets.specs.Sets.{member, who}
use Rattle.logic.proofs.Shrinking.{rank}
use Rattle.logic.proofs.fixpoint.until.Given as goal

-- x holds `goal`, `inner` but for `rest`, and nothing that a closed set lacks
abbrev pub invariant-rounds : goal.invariant-rounds
invariant-rounds g l =
    let M = g.G.Game.model l.g in
    ((s : ℕ) → T (member l.initial.x s) → T (member l.x s)) ×
    ((s : ℕ) → T (member l.rest s) → T (member l.initial.rest s)) ×
    ((s : ℕ) → T (member l.initial.rest s) → T (member l.x s) ⊎ T (member l.rest s)) ×
    ((X : Set) → Closed M (who l.a) (λ t. T (member l.initial.rest t)) (λ t. T (member l.initial.x t)) X → (s : ℕ) → T (member l.x s) → T (X s))

abbrev pub decreases-rounds : goal.decreases-rounds
decreases-rounds g l = rank l.rest
