use Rattle.std.proofs.Common.{◌<◌, rules, tests, length, arith}
use Rattle.std.proofs.lemmas.Iterator.{IsFirst-from_position, YieldsList-from_slice}
use Rattle.std.proofs.lemmas.Iterator.Consumers.{YieldsList-from_enumerate}
use Rattle.std.proofs.lemmas.List.FromFn.{length-enumerate_from}
use Rattle.std.proofs.lemmas.Option.{MatchOption-at_none, MatchOption-at_some}
use Rattle.logic.proofs.Asking.{Keeps, ruled_all, ruled_lines, unruled}
use Rattle.logic.proofs.rule.judge.Goals as goal

pub returns-in-None : goal.returns-in-None
returns-in-None c =
    let k = c.args.agents in
    let lines = c.args.lines.now in
    let first = IsFirst-from_position _ _ c.position-broken.result (λ p. Keeps k p → ⊥) (Keeps k) c.position-broken.ensures.ran (YieldsList-from_enumerate (YieldsList-from_slice lines (cc)) (cc)) (λ x q k. search (rules, tests)) (λ x q k. search (rules, tests)) in record {
      sized = record { some = search rules; few = c.if-lines-gt4096.false; places = c.if-room-lines.false };
      ruled = ruled_all k lines (MatchOption-at_none _ _ c.in-None.is first);
    }

pub returns-in-Some : goal.returns-in-Some
returns-in-Some c =
    let k = c.args.agents in
    let lines = c.args.lines.now in
    let i = c.in-Some.i in
    let first = MatchOption-at_some _ _ i c.in-Some.is (IsFirst-from_position _ _ c.position-broken.result (λ p. Keeps k p → ⊥) (Keeps k) c.position-broken.ensures.ran (YieldsList-from_enumerate (YieldsList-from_slice lines (cc)) (cc)) (λ x q k. search (rules, tests)) (λ x q k. search (rules, tests))) in
    let within : i < length lines = omega (arith, length-enumerate_from 0 lines, first.0) in (
      record { some = search rules; few = c.if-lines-gt4096.false; places = c.if-room-lines.false },
      within,
      ruled_lines k lines i (omega arith) first.2,
      unruled k lines i within first.1,
    )
