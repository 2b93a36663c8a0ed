use Rattle.std.proofs.Common.{◌≡◌, ℕ, ◌*◌, ◌<◌, ◌≤◌, List, ◌++◌, length, get_or}
use Rattle.model.specs.Kinds.{nowhere}
use Rattle.file.specs.File.{Command, upto}
use Rattle.reader.specs.Bodies.{row_commands}
use Rattle.reader.specs.Heads.{Kept, body_seen}
use Rattle.reader.specs.Sofar.{Reached}
use Rattle.reader.proofs.body.Body.read_states.Given as goal

abbrev pub invariant-loop-state : goal.invariant-loop-state
invariant-loop-state l =
    let h = l.initial.self.header in
    (l.self.header ≡ h) ×
    (l.total ≤ l.state-index * 64) ×
    ((t : ℕ) → t < l.state-index → Kept h (get_or l.states t nowhere)) ×
    ((input : List ℕ) (cs : List Command) (names : List (List ℕ)) → length names ≡ h.marks → Reached input l.initial.self.cursor cs (body_seen h names 0 0) →
    Reached input l.self.cursor (cs ++ upto (row_commands h.agents l.states) l.state-index) (body_seen h names l.state-index l.total))
