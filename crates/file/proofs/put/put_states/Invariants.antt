use Rattle.file.specs.File.{state_bytes, upto}
use Rattle.list.specs.Lists.{Puts}
use Rattle.file.proofs.put.put_states.Given as goal

abbrev pub invariant-loop-s : goal.invariant-loop-s
invariant-loop-s g l = Puts l.initial.bytes l.bytes (upto (state_bytes (g.G.Game.model l.g)) l.s)
