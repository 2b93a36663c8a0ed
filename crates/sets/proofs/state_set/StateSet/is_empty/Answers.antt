use Rattle.std.proofs.Common.{arith, eqb→eq}
use Rattle.sets.proofs.Bitwise.{none_hold, below_holds}
use Rattle.sets.proofs.Members.{held}
use Rattle.sets.proofs.state_set.StateSet.is_empty.Goals as goal

pub returns : goal.returns
returns c =
    let x = c.args.self in (
      λ t s m. (none_hold x.bits).0 (eqb→eq _ 0 t) s ((held x s).0 m).1,
      λ f. rw ((none_hold x.bits).1 (λ i t. f i ((held x i).1 (below_holds x.bits 64 i (omega arith) t, t)))) tt,
    )
