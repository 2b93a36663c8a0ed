use Rattle.std.proofs.Common.{◌≡◌, sym, ap, arith}
use Rattle.sets.specs.Sets.{limit, member}
use Rattle.list.proofs.Joins.{puts_room, puts_more, puts_same}
use Rattle.file.specs.File.{upto}
use Rattle.file.proofs.Spanning.{upto_more}
use Rattle.report.specs.Listings.{spaced}
use Rattle.report.proofs.Lengths.{states-length}
use Rattle.report.proofs.listing.put_states.Goals as goal

pub put_state-requires : goal.put_state-requires
put_state-requires c = omega (arith, c.requires, puts_room c.loop-s.invariant, states-length (member c.args.set) c.loop-s.s (omega arith), c.loop-s-test.true)

pub loop-s-preserved : goal.loop-s-preserved
loop-s-preserved c = puts_same (sym (upto_more (spaced (member c.args.set)) c.loop-s.s)) (puts_more c.loop-s.invariant c.put_state.ensures)

pub returns : goal.returns
returns c =
    let done : c.loop-s.s ≡ limit = omega (arith, c.loop-s-test.false, c.loop-s.auto.s-end) in
    puts_same (ap (upto (spaced (member c.args.set))) done) c.loop-s.invariant
