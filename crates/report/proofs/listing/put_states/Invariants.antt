use Rattle.sets.specs.Sets.{member}
use Rattle.file.specs.File.{upto}
use Rattle.list.specs.Lists.{Puts}
use Rattle.report.specs.Listings.{spaced}
use Rattle.report.proofs.listing.put_states.Given as goal

abbrev pub invariant-loop-s : goal.invariant-loop-s
invariant-loop-s l = Puts l.initial.listing l.listing (upto (spaced (member l.set)) l.s)
