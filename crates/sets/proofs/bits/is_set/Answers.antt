use Rattle.std.proofs.Common.{sym, ◌∙◌, arith}
use Rattle.std.proofs.lemmas.Bool.{le-ltb}
use Rattle.sets.proofs.Bitwise.{bit_high}
use Rattle.sets.proofs.bits.is_set.Goals as goal

pub returns-else-i-lt64 : goal.returns-else-i-lt64
returns-else-i-lt64 c = le-ltb _ 64 c.if-i-lt64.false ∙ sym (bit_high c.args.word 64 c.args.i (omega arith) c.if-i-lt64.false)
