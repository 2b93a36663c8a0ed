use Rattle.std.proofs.Common.{◌≡◌, ◌+◌, ◌-◌, ◌*◌, ◌/◌, ◌%◌, get_or, ◌∙◌, arith, length-set}
use Rattle.model.proofs.Filling.{fill_more}
use Rattle.ability.proofs.Repeating.{repeat_first, repeat_more}
use Rattle.ability.proofs.parts.extend.repeat.Goals as goal

pub loop-j-init : goal.loop-j-init
loop-j-init c = (omega arith, λ i h. repeat_first c.args.own.now c.args.width c.args.step i h)

value : (c : goal.After-own-1) →
    get_or c.loop-j.own (c.loop-j.j - c.args.width) 0 + c.args.step ≡ get_or c.args.own.now (c.loop-j.j % c.args.width) 0 + c.loop-j.j / c.args.width * c.args.step
value c =
    let before = c.loop-j.invariant.1 (c.loop-j.j - c.args.width) (omega (arith, c.loop-j.auto.j, c.requires.some)) in
    omega (arith, before, repeat_more c.args.own.now c.args.width c.args.step c.loop-j.j c.requires.some c.loop-j.auto.j)

pub overflow_add-own : goal.overflow_add-own
overflow_add-own c = omega (arith, value c, c.requires.fits c.loop-j.j c.loop-j-test.true)

pub loop-j-preserved : goal.loop-j-preserved
loop-j-preserved c = (
  length-set _ _ _ ∙ c.loop-j.invariant.0,
  fill_more 0 c.loop-j.own c.loop-j.j _ (λ i x. x ≡ get_or c.args.own.now (i % c.args.width) 0 + i / c.args.width * c.args.step)
      (omega (arith, c.loop-j.invariant.0, c.loop-j-test.true, c.requires.room)) c.loop-j.invariant.1 (value c),
)
