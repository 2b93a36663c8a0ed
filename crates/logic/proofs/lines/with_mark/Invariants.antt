use Rattle.std.proofs.Common.{ℕ, ◌<◌, T, ◌↔◌}
use Rattle.sets.specs.Sets.{bit}
use Rattle.sets.specs.Sets.{member}
use Rattle.logic.proofs.lines.with_mark.Given as goal

abbrev pub invariant-loop-s : goal.invariant-loop-s
invariant-loop-s g l =
    let m = g.G.Marked.marked l.g in
    (t : ℕ) → T (member l.found t) ↔ ((t < l.s) × ((t < m.n) × T (bit (m.marks t) l.m)))
