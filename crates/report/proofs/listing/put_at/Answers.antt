use Rattle.std.proofs.Common.{arith}
use Rattle.sets.specs.Sets.{limit, member}
use Rattle.list.proofs.Joins.{puts_room, puts_more}
use Rattle.report.proofs.Lengths.{states-length}
use Rattle.report.proofs.listing.put_at.Goals as goal

pub put-requires-2 : goal.put-requires-2
put-requires-2 c = omega (arith, c.requires, puts_room c.put.ensures, puts_room c.put_states.ensures, states-length (member c.args.set) limit (omega arith))

pub returns : goal.returns
returns c = puts_more c.put.ensures (puts_more c.put_states.ensures c.put-2.ensures)
