use Rattle.std.proofs.Common.{◌∙◌, arith}
use Rattle.sets.proofs.Members.{member_is}
use Rattle.sets.proofs.state_set.StateSet.contains.Goals as goal

pub returns : goal.returns
returns c = c.is_set.ensures ∙ member_is c.args.self c.args.s (omega arith)
