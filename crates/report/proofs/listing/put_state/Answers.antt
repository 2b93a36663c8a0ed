use Rattle.std.proofs.Common.{Bool, cond, [], ◌∷◌, decimal, ap}
use Rattle.list.proofs.Joins.{puts_more, puts_same}
use Rattle.report.proofs.listing.put_state.Goals as goal

pub returns-then-contains : goal.returns-then-contains
returns-then-contains c = puts_same (ap (λ (b : Bool). cond b (32 ∷ decimal c.args.s) []) c.if-contains.ensures) (puts_more c.put.ensures c.put_number.ensures)
