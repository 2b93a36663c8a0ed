use Rattle.std.proofs.Common.{◌-◌, ◌^◌, arith}
use Rattle.sets.proofs.Bitwise.{and_holds, not_holds}
use Rattle.sets.proofs.Members.{held}
use Rattle.sets.proofs.state_set.StateSet.difference.Goals as goal

pub returns : goal.returns
returns c s =
    let a = held c.args.self s in
    let b = held c.args.other s in
    let both = and_holds c.args.self.bits (2 ^ 64 - 1 - c.args.other.bits) s in
    let other = not_holds 64 c.args.other.bits s (omega arith) in (
      λ t. let p = (held _ s).0 t in (a.1 (p.0, (both.0 p.1).0), λ m. (other.0 (both.0 p.1).1).1 (b.0 m).1),
      λ p. let h = a.0 p.0 in (held _ s).1 (h.0, both.1 (h.1, other.1 (h.0, λ t. p.1 (b.1 (h.0, t))))),
    )
