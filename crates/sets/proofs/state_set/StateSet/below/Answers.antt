use Rattle.std.proofs.Common.{arith}
use Rattle.sets.proofs.Bitwise.{ones_holds}
use Rattle.sets.proofs.Members.{held}
use Rattle.std.proofs.lemmas.Nat.{one_shl}
use Rattle.sets.proofs.state_set.StateSet.below.Goals as goal

pub returns-then-n-lt64 : goal.returns-then-n-lt64
returns-then-n-lt64 c t =
    rw (one_shl c.args.n 64 c.if-n-lt64.true)
    (λ m. let p = (held _ t).0 m in ((ones_holds c.args.n t).0 p.1, p.0), λ p. (held _ t).1 (p.1, (ones_holds c.args.n t).1 p.0))

pub returns-else-n-lt64 : goal.returns-else-n-lt64
returns-else-n-lt64 c t = (λ m. let p = (held _ t).0 m in (omega arith, p.0), λ p. (held _ t).1 (p.1, (ones_holds 64 t).1 p.1))
