use Rattle.sets.proofs.Bitwise.{power_holds}
use Rattle.sets.proofs.Members.{held}
use Rattle.std.proofs.lemmas.Nat.{one_shl}
use Rattle.sets.proofs.state_set.StateSet.single.Goals as goal

pub returns-then-s-lt64 : goal.returns-then-s-lt64
returns-then-s-lt64 c t =
    rw (one_shl c.args.s 64 c.if-s-lt64.true)
    (λ m. let p = (held _ t).0 m in ((power_holds c.args.s t).0 p.1, p.0), λ p. (held _ t).1 (p.1, (power_holds c.args.s t).1 p.0))
