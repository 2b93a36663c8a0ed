use Rattle.std.proofs.Common.{◌≤◌, length, rules, refl, arith}
use Rattle.std.proofs.lemmas.Slice.{overwrites}
use Rattle.list.specs.Lists.{room}
use Rattle.list.proofs.List.extend.Goals as goal

pub returns : goal.returns
returns g c =
    let fits : length c.args.xs.now ≤ room c.args.self.now = omega (arith, c.if-size-self.false, c.size.ensures) in
    let written = c.copy_from_slice.ensures.after in
    (fits, record { named = refl; extends = record { items = rw written (search (rules, overwrites)); count = refl; size = rw written (search (rules, overwrites)); rest = rw written (search (rules, overwrites)) } })
