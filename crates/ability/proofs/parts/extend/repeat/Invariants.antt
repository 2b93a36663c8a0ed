use Rattle.std.proofs.Common.{◌≡◌, ℕ, ◌+◌, ◌*◌, ◌/◌, ◌%◌, ◌<◌, length, get_or}
use Rattle.ability.proofs.parts.extend.repeat.Given as goal

-- the places below j are filled
abbrev pub invariant-loop-j : goal.invariant-loop-j
invariant-loop-j l =
    (length l.own ≡ 64) ×
    ((i : ℕ) → i < l.j → get_or l.own i 0 ≡ get_or l.initial.own (i % l.width) 0 + i / l.width * l.step)
