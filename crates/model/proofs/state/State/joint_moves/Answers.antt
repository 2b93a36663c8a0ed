use Rattle.std.proofs.Common.{◌≡◌, ◌<◌, length, get_or, ap, ◌∙◌, arith, length-take-le, get_or-take}
use Rattle.model.specs.Kinds.{counts_at}
use Rattle.model.proofs.Ranging.{product_past}
use Rattle.model.proofs.state.State.joint_moves.Goals as goal
use Rattle.model.proofs.state.State.joint_moves.Goals.{then-d-lt1-via-then-d-lt1, then-d-lt1-via-else-d-lt1+then-d-joint}

pub returns-then-d-lt1 : goal.returns-then-d-lt1
returns-then-d-lt1 c r =
    let d = counts_at c.args.self in
    let a = c.loop-d.d-index in
    let inv = c.loop-d.invariant in
    let below : a < c.args.agents = omega (arith, c.loop-d-test.true, ap length inv.4, length-take-le c.args.agents c.args.self.counts c.in_ok-d-items.ensures.lookup.0.1) in
    let is : get_or c.in_ok-d-items.d-items.now a 0 ≡ d a = ap (λ xs. get_or xs a 0) inv.4 ∙ get_or-take _ _ _ _ below in
    elim c.then-d-lt1.branch [
      | then-d-lt1-via-then-d-lt1 w ↦ omega (arith, (r.choices a below).0, is, w.if-d-lt1.true)
      | then-d-lt1-via-else-d-lt1+then-d-joint w ↦ product_past d a c.loop-d.joint inv.0 inv.1 c.args.agents below (rw is at w.if-d-joint.true) r
    ]
