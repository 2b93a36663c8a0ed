use Rattle.sets.proofs.Bitwise.{or_holds}
use Rattle.sets.proofs.Members.{held}
use Rattle.std.proofs.Common.{inl, inr}
use Rattle.sets.proofs.state_set.StateSet.union.Goals as goal

pub returns : goal.returns
returns c s =
    let a = held c.args.self s in
    let b = held c.args.other s in
    let both = or_holds c.args.self.bits c.args.other.bits s in (
      λ t. let p = (held _ s).0 t in elim (both.0 p.1) [ inl h ↦ inl (a.1 (p.0, h)) | inr h ↦ inr (b.1 (p.0, h)) ],
      λ t. (held _ s).1 (elim t [ inl h ↦ ((a.0 h).0, both.1 (inl (a.0 h).1)) | inr h ↦ ((b.0 h).0, both.1 (inr (b.0 h).1)) ]),
    )
