use Rattle.std.proofs.Common.{ℕ, ◌-◌, ◌≤◌, T, ◌↔◌}
use Rattle.sets.specs.Sets.{member}
use Rattle.model.specs.Model.{joint}
use Rattle.ability.specs.Ability.{Leads}
use Rattle.ability.proofs.enforce.leading.Given as goal

abbrev pub invariant-loop-t : goal.invariant-loop-t
invariant-loop-t g l =
    let M = g.G.Game.model l.at.game.now in
    let s = l.at.state in
    (l.j ≤ joint M s) × ((c : ℕ) → T (member l.free c) ↔ Leads M s (member l.x) l.parts l.j c)

abbrev pub decreases-loop-t : goal.decreases-loop-t
decreases-loop-t g l = 64 - l.j
