use Rattle.std.proofs.Common.{◌≡◌, ◌+◌, ◌-◌, ◌^◌, ◌<◌, ◌≤◌, ◌↔◌, drop}
use Rattle.grammar.specs.Tokens.{Rising, number}
use Rattle.text.proofs.terms.coalition.Given as goal

abbrev pub invariant-loop-d : goal.invariant-loop-d
invariant-loop-d l =
    (48 ≤ l.low) × (l.low ≤ 54) × (l.bits < 2 ^ (l.low - 48)) × (Rising 48 l.digits ↔ Rising l.low (drop l.d-index l.digits)) ×
    (number l.digits ≡ l.bits + number (drop l.d-index l.digits))
