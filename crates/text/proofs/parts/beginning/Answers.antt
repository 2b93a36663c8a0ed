use Rattle.std.proofs.Common.{None, Some}
use Rattle.grammar.specs.declared.Ahead.TheVariants as ahead
use Rattle.text.proofs.Sights.{seen}
use Rattle.text.proofs.parts.beginning.Goals as goal

pub returns-in_default : goal.returns-in_default
returns-in_default c (Some ahead.Next) e = c.in_default.not-Next (seen _ e)
returns-in_default c (Some ahead.Always) e = c.in_default.not-Always (seen _ e)
returns-in_default c None e = c.in_default.not-Open (seen _ e)
