use Rattle.std.proofs.Common.{ℕ, ◌<◌, T, ◌↔◌}
use Rattle.model.specs.Model.{Can}
use Rattle.sets.specs.Sets.{member, who}
use Rattle.ability.proofs.enforce.able.Given as goal

abbrev pub invariant-loop-s : goal.invariant-loop-s
invariant-loop-s g l =
    let M = g.G.Game.model l.g in
    (t : ℕ) → T (member l.found t) ↔ ((t < l.s) × (T (member l.among t) × Can M (who l.a) t (λ u. T (member l.x u))))
