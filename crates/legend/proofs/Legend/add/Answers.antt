use Rattle.std.proofs.Common.{◌<◌, length, sym, subst, arith, length-take-le}
use mathlib.Core.Logic.{∥∥₁_map}
use Rattle.std.proofs.lemmas.List.{take_more_set}
use Rattle.legend.specs.Names.{Lawful}
use Rattle.legend.specs.Legends.{names_of}
use Rattle.legend.proofs.Holding.{lawful_next}
use Rattle.legend.proofs.Legend.add.Goals as goal

pub invariant_of-self : goal.invariant_of-self
invariant_of-self c =
    let l = c.args.self.now in
    let within : l.count < length l.names = omega arith in
    record {
      few = omega arith;
      lawful = ∥∥₁_map l.lawful (λ old.
          subst Lawful (sym (take_more_set l.names l.count c.args.name within))
          (lawful_next (names_of l) c.args.name c.position.result (cc) c.position.ensures (omega (arith, length-take-le l.count l.names (omega arith))) (c.if-not-is_name.ensures.0 tt) old));
    }

pub returns : goal.returns
returns c =
    let l = c.args.self.now in
    let within : l.count < length l.names = omega arith in
    let long = length-take-le l.count l.names (omega arith) in (
      omega (arith, long),
      take_more_set l.names l.count c.args.name within,
      lawful_next (names_of l) c.args.name c.position.result (cc) c.position.ensures (omega (arith, long)) (c.if-not-is_name.ensures.0 tt),
    )
