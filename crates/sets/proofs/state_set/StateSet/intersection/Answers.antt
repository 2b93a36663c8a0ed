use Rattle.sets.proofs.Bitwise.{and_holds}
use Rattle.sets.proofs.Members.{held}
use Rattle.sets.proofs.state_set.StateSet.intersection.Goals as goal

pub returns : goal.returns
returns c s =
    let a = held c.args.self s in
    let b = held c.args.other s in
    let both = and_holds c.args.self.bits c.args.other.bits s in (
      λ t. let p = (held _ s).0 t in (a.1 (p.0, (both.0 p.1).0), b.1 (p.0, (both.0 p.1).1)),
      λ p. (held _ s).1 ((a.0 p.0).0, both.1 ((a.0 p.0).1, (b.0 p.1).1)),
    )
