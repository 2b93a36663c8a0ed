use Rattle.std.proofs.Common.{arith}
use Rattle.legend.proofs.Holding.{none_lawful}
use Rattle.legend.proofs.Legend.empty.Goals as goal

pub invariant_of-result : goal.invariant_of-result
invariant_of-result c = record { few = omega arith; lawful = ∣ none_lawful ∣₁ }
