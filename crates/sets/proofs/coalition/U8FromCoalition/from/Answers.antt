use Rattle.std.proofs.Common.{refl}
use Rattle.sets.specs.Sets.{who}
use Rattle.sets.proofs.coalition.U8FromCoalition.from.Goals as goal

pub returns : goal.returns
unfolding who
returns c = refl
