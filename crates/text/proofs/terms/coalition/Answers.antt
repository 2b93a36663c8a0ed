use Rattle.std.proofs.Common.{◌≤◌, get_or, arith}
use Rattle.text.proofs.Digits.{shifted, sum_below, rising_at, rising_from, number_at}
use Rattle.text.proofs.terms.coalition.Goals as goal

pub loop-d-preserved : goal.loop-d-preserved
loop-d-preserved c =
    let ds = c.args.digits.now in
    let i = c.loop-d.d-index in
    let d = get_or ds i 0 in
    let low = c.loop-d.low in
    let inv = c.loop-d.invariant in
    let above : low ≤ d = omega arith in
    let five : d ≤ 53 = omega arith in (
      omega arith,
      omega arith,
      sum_below low d inv.0 above five c.loop-d.bits inv.2,
      (
        λ h. (rising_at ds i c.loop-d-test.true low (inv.3.0 h)).2,
        λ h. inv.3.1 (rising_from ds i c.loop-d-test.true low above five h),
      ),
      omega (arith, inv.4, number_at ds i c.loop-d-test.true, shifted low d inv.0 above five),
    )
