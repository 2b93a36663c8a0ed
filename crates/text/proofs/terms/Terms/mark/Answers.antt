use Rattle.text.proofs.Naming.{mark_or_fault}
use Rattle.text.proofs.terms.Terms.mark.Goals as goal

pub returns : goal.returns
returns c = rw c.ok_or.ensures.value (mark_or_fault c.args.self.now.legend c.args.word.now c.requires c.at.result c.args.place c.at.ensures _ c.find.ensures)
