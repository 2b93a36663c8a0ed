use Rattle.std.proofs.Common.{arith}
use Rattle.sets.proofs.Bitwise.{below_holds}
use Rattle.sets.proofs.Members.{held}
use Rattle.sets.proofs.state_set.U64FromStateSet.from.Goals as goal

pub returns : goal.returns
returns c s =
    let x = c.args.set in
    (λ t. (held x s).1 (below_holds x.bits 64 s (omega arith) t, t), λ m. ((held x s).0 m).1)
