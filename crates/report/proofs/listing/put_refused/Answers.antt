use Rattle.std.proofs.Common.{arith}
use Rattle.list.proofs.Joins.{puts_room, puts_more}
use Rattle.report.proofs.Lengths.{three}
use Rattle.report.proofs.listing.put_refused.Goals as goal

pub put-requires-2 : goal.put-requires-2
put-requires-2 c = omega (arith, c.requires, puts_room c.put.ensures, puts_room c.put_number.ensures, three c.args.number c.ranges.number.fits)

pub returns : goal.returns
returns c = puts_more c.put.ensures (puts_more c.put_number.ensures c.put-2.ensures)
