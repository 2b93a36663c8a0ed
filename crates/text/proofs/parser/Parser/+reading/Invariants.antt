use Rattle.std.proofs.Common.{◌+◌, ◌*◌}
use Rattle.text.proofs.parser.Parser.+reading.Given as goal

abbrev pub decreases-line : goal.decreases-line
decreases-line l = 5 * l.allow + 4

abbrev pub decreases-pair : goal.decreases-pair
decreases-pair l = 5 * l.allow + 1

abbrev pub decreases-path : goal.decreases-path
decreases-path l = 5 * l.allow + 2

abbrev pub decreases-state : goal.decreases-state
decreases-state l = 5 * l.allow

abbrev pub decreases-strategy : goal.decreases-strategy
decreases-strategy l = 5 * l.allow + 3

abbrev pub decreases-until : goal.decreases-until
decreases-until l = 5 * l.allow + 1
