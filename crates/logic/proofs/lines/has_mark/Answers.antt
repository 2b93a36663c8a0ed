use Rattle.std.proofs.Common.{arith, ltb→lt}
use Rattle.sets.proofs.Bitwise.{below_holds}
use Rattle.logic.proofs.lines.has_mark.Goals as goal

pub returns-else-m-lt16 : goal.returns-else-m-lt16
returns-else-m-lt16 g c =
    let high = c.if-m-lt16.false in (
      λ t. absurd (omega (arith, ltb→lt c.args.m 16 t)),
      λ p. absurd (omega (arith, below_holds _ 16 c.args.m ((g.met.G.Marked.in_range c.args.g.now).sixteen c.args.s p.0) p.1)),
    )
