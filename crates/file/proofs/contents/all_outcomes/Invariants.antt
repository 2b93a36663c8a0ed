use Rattle.std.proofs.Common.{◌≡◌, ◌*◌, ◌≤◌}
use Rattle.file.specs.File.{outcomes}
use Rattle.file.proofs.contents.all_outcomes.Given as goal

abbrev pub invariant-loop-s : goal.invariant-loop-s
invariant-loop-s g l = (l.total ≡ outcomes (g.G.Game.model l.game) l.s) × (l.total ≤ l.s * 64)
