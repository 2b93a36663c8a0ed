use Rattle.std.proofs.Common.{◌≡◌, ◌+◌, ◌-◌, ◌<◌, ◌≤◌, length, get_or, take, drop, sym, refl, ap, ◌∙◌, subst, arith, length-set, length-take-le, drop-drop, drop-set-lt}
use native.Mathlib.Nat.{sub-zero}
use Rattle.logic.specs.Logic.{Rule, said}
use Rattle.logic.specs.Questions.{question, line_of}
use Rattle.logic.specs.declared.line.Line.TheVariants.{True}
use Rattle.logic.proofs.Asking.{rule_at, tell_more, tell_front, answer_more}
use Rattle.logic.proofs.answer.evaluate.Goals as goal

pub loop-i-init : goal.loop-i-init
unfolding question
loop-i-init g c = (refl, refl, λ p l. absurd (omega arith), λ s. (λ t. c.empty-answer.ensures s t, λ z. absurd z))

pub line_set-answer-requires : goal.line_set-answer-requires
line_set-answer-requires g c =
    let accepted = c.in_ok-judge.ensures in
    let i = c.loop-i.i in
    let l = line_of (get_or c.args.lines.now i True) in
    let fits : i - 0 ≤ length c.loop-i.sets = omega (arith, c.loop-i.invariant.0, accepted.sized.places, c.loop-i-test.true) in
    let here : Rule c.agents.result i l = rule_at c.args.lines.now i c.loop-i-test.true c.agents.result accepted.ruled in
    let many : i ≡ length (take (i - 0) c.loop-i.sets) = omega (arith, length-take-le (i - 0) c.loop-i.sets fits) in
    subst (λ n. Rule (g.G.Game.model c.args.g.now).k n l) many (subst (λ k. Rule k i l) c.agents.ensures here)

pub loop-i-preserved : goal.loop-i-preserved
loop-i-preserved g c =
    let M = g.G.Game.model c.args.g.now in
    let i = c.loop-i.i in
    let lines = c.args.lines.now in
    let inv = c.loop-i.invariant in
    let q = question (take i lines) in
    let within : i < length c.loop-i.sets = omega (arith, inv.0, c.in_ok-judge.ensures.sized.places, c.loop-i-test.true) in
    let past : i < i + 1 = omega arith in
    let here = c.line_set-answer.ensures (said q) (rw sub-zero (tell_front M c.loop-i.sets i (said q) inv.2)) in (
      length-set _ _ _ ∙ inv.0,
      drop-set-lt _ _ _ _ past ∙ sym (drop-drop 1 i c.loop-i.sets) ∙ ap (drop 1) inv.1 ∙ drop-drop 1 i c.args.sets.now,
      tell_more lines i c.loop-i-test.true M c.loop-i.sets c.line_set-answer.result within inv.2 here,
      answer_more lines i c.loop-i-test.true M c.line_set-answer.result here,
    )
