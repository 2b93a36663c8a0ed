use Rattle.sets.proofs.Members.{held}
use Rattle.sets.proofs.state_set.StateSetFromU64.from.Goals as goal

pub returns : goal.returns
returns c s = held _ s
