use Rattle.grammar.specs.declared.Joint.TheVariants as joint
use Rattle.text.proofs.Sights.{seen}
use Rattle.text.proofs.parts.joint.Goals as goal

pub returns-in_default : goal.returns-in_default
returns-in_default c joint.And e = c.in_default.not-And (seen _ e)
returns-in_default c joint.Or e = c.in_default.not-Or (seen _ e)
