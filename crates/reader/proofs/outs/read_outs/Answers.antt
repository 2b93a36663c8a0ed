use Rattle.std.proofs.Common.{◌≡◌, ℕ, ◌<◌, ◌++◌, subst, length, get_or, arith}
use Rattle.std.proofs.lemmas.Result.{err_from_is_err_and}
use Rattle.model.proofs.Filling.{fill_more}
use Rattle.file.specs.File.{upto}
use Rattle.reader.specs.Heads.{out_command, outs_seen}
use Rattle.reader.specs.Sofar.{Sofar}
use Rattle.reader.proofs.Outing.{outs_next, outs_refused, outs_wrong}
use Rattle.reader.proofs.outs.read_outs.Goals as goal

pub returns-in_err-state-clause-reads : goal.returns-in_err-state-clause-reads
returns-in_err-state-clause-reads c input cs s so n left states =
    let j = c.loop-outcome.outcome-index in
    let l : j < s.left = omega (arith, c.loop-outcome-test.true, left) in
    let so1 = c.loop-outcome.invariant.1 input cs s so n left states in
    let p = err_from_is_err_and c.from_residual.result c.from_residual.ensures.1 in
    rw (p.1, p.2) (outs_refused _ _ s n j so1 l c.in_err-state.ensures.0 (c.in_err-state.ensures.1))

pub returns-clause-reads : goal.returns-clause-reads
returns-clause-reads c input cs s so n left states =
    let xs = c.loop-outcome.outcomes in
    let done : c.loop-outcome.outcome-index ≡ length xs = omega (arith, c.loop-outcome-test.false, c.loop-outcome.auto.outcome-index-end, c.loop-outcome.auto.outcomes) in
    subst (λ (j : ℕ). Sofar input c.loop-outcome.cursor.rest.now c.loop-outcome.cursor.place (cs ++ upto (out_command xs) j) (outs_seen s j)) done (c.loop-outcome.invariant.1 input cs s so n left states)

pub returns-then-state-states-clause-reads : goal.returns-then-state-states-clause-reads
returns-then-state-states-clause-reads c input cs s so n left states =
    let j = c.loop-outcome.outcome-index in
    let l : j < s.left = omega (arith, c.loop-outcome-test.true) in
    let so1 = c.loop-outcome.invariant.1 input cs s so n left states in
    let took = c.in_ok-state.ensures in
    rw c.at.ensures.0 (outs_wrong _ _ s n j so1 l _ _ took.0 took.1 (omega (arith, c.if-state-states.true)) c.at.ensures.1)

pub loop-outcome-preserved : goal.loop-outcome-preserved
loop-outcome-preserved c =
    let xs = c.loop-outcome.outcomes in
    let j = c.loop-outcome.outcome-index in
    let t = get_or c.in_ok-state.field-0 0 0 in
    let within : j < length xs = omega (arith, c.loop-outcome-test.true, c.loop-outcome.auto.outcomes) in
    let took = c.in_ok-state.ensures in (
      fill_more 0 xs j t (λ _ x. x < c.args.states) within c.loop-outcome.invariant.0 c.if-state-states.false,
      λ input cs s so n left states.
          let l : j < s.left = omega (arith, c.loop-outcome-test.true) in
          outs_next cs xs s n j (c.loop-outcome.invariant.1 input cs s so n left states) l _ _ took.0 took.1 (omega (arith, c.if-state-states.false)) within took.2,
    )
