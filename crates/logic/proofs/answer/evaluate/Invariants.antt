use Rattle.std.proofs.Common.{◌≡◌, ℕ, T, ◌↔◌, length, take, drop}
use Rattle.sets.specs.Sets.{member}
use Rattle.logic.specs.Logic.{Answer, said}
use Rattle.logic.specs.Questions.{question, TellAll}
use Rattle.logic.proofs.answer.evaluate.Given as goal

-- the first lines are answered, and the other places are as before
abbrev pub invariant-loop-i : goal.invariant-loop-i
invariant-loop-i g l =
    let M = g.G.Game.model l.g in
    let q = question (take l.i l.lines) in
    (length l.sets ≡ length l.initial.sets) × (drop l.i l.sets ≡ drop l.i l.initial.sets) × TellAll M l.sets l.i (said q) ×
    ((s : ℕ) → T (member l.answer s) ↔ Answer M q s)
