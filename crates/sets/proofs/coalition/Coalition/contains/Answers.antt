use Rattle.std.proofs.Common.{rules}
use Rattle.sets.specs.Sets.{who}
use Rattle.sets.proofs.coalition.Coalition.contains.Goals as goal

pub returns : goal.returns
unfolding who
returns c = search rules
