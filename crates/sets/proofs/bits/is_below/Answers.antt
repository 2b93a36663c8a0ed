use Rattle.std.proofs.Common.{arith, le→leb, pow_mono}
use Rattle.sets.proofs.Bitwise.{shifted_out}
use Rattle.sets.proofs.bits.is_below.Goals as goal

pub returns-then-n-ge64 : goal.returns-then-n-ge64
returns-then-n-ge64 c = (λ t. omega (arith, pow_mono c.if-n-ge64.true), λ h. le→leb 64 c.args.n c.if-n-ge64.true)

pub returns-else-n-ge64 : goal.returns-else-n-ge64
returns-else-n-ge64 c = shifted_out c.args.word c.args.n
