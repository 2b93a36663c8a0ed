use Rattle.std.proofs.Common.{◌/◌, ◌%◌, ◌≤◌, le_refl, arith}
use Rattle.std.proofs.lemmas.Nat.{div-add-mod', mod_below, mul-le}
use Rattle.ability.proofs.parts.Parts.extend.Goals as goal
use Rattle.ability.proofs.parts.Parts.extend.Goals.{then-member, else-member}

pub repeat-requires-clause-fits : goal.repeat-requires-clause-fits
repeat-requires-clause-fits c j h =
    let p = c.args.self.now in
    let step : c.if-member.step ≤ p.width = elim c.if-member.branch [
      | then-member w ↦ omega (arith, w.step-is, p.few)
      | else-member w ↦ omega (arith, w.step-is)
    ] in
    let own = c.requires.own (j % p.width) (mod_below j p.width p.some) in
    let turns = mul-le (j / p.width) c.if-member.step (j / p.width) p.width (le_refl (j / p.width)) step in
    let all = mul-le p.width 1 p.width c.args.d (le_refl p.width) c.requires.some in
    omega (arith, all, own, p.few, turns, div-add-mod' j p.width, h, c.requires.few)
