use Rattle.std.proofs.Common.{◌≡◌, ℕ, ◌<◌, List, ◌++◌, length, get_or}
use Rattle.file.specs.File.{Command, upto}
use Rattle.file.specs.Reading.{Seen}
use Rattle.reader.specs.Heads.{Naming, out_command, outs_seen}
use Rattle.reader.specs.Sofar.{Reached}
use Rattle.reader.proofs.outs.read_outs.Given as goal

abbrev pub invariant-loop-outcome : goal.invariant-loop-outcome
invariant-loop-outcome l =
    ((j : ℕ) → j < l.outcome-index → get_or l.outcomes j 0 < l.states) ×
    ((input : List ℕ) (cs : List Command) (s : Seen) → Reached input l.initial.cursor cs s → Naming s → s.left ≡ length l.initial.outcomes → s.n ≡ l.states →
    Reached input l.cursor (cs ++ upto (out_command l.outcomes) l.outcome-index) (outs_seen s l.outcome-index))
