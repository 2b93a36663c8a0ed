use Rattle.list.specs.Lists.{Puts}
use Rattle.legend.specs.Legends.{names_of}
use Rattle.file.specs.File.{name_bytes, upto}
use Rattle.file.proofs.put.put_names.Given as goal

abbrev pub invariant-loop-i : goal.invariant-loop-i
invariant-loop-i l = Puts l.initial.bytes l.bytes (upto (name_bytes (names_of l.legend)) l.i)
