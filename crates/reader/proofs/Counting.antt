-- The counts past the agents.
use Rattle.std.proofs.Common.{◌≡◌, ℕ, ◌+◌, ◌-◌, ◌<◌, ◌≤◌, ◌≢◌, Bool, true, false, MatchBool, List, length, get_or, take, drop, ◌∙◌, arith, length-drop, length-take-le, get_or-take}
use Rattle.std.specs.Bool.{then_some}
use Rattle.std.specs.List.{AllWithin, HoldsAt}
use Rattle.std.specs.Option.{SomeIff}
use Rattle.std.proofs.lemmas.List.{get_or-drop}
use Rattle.model.specs.Kinds.{CountsRanged}
use Rattle.file.specs.Reading.{Counts}

module _ (k : ℕ) (xs : List ℕ) (six : length xs ≡ 6) (ranged : CountsRanged k (λ a. get_or xs a 0)) where
  abbrev past : List ℕ
  past = take (length xs - k) (drop k xs)

  long : length past ≡ 6 - k
  long = omega (arith, six, length-drop k xs, length-take-le (length xs - k) (drop k xs) (omega (arith, length-drop k xs)))

  at_past : (i : ℕ) → i < length past → get_or past i 0 ≡ get_or xs (k + i) 0
  at_past i l = get_or-take (length xs - k) (drop k xs) i 0 (omega (arith, long)) ∙ get_or-drop k xs i 0

  others_none : AllWithin (λ d. d ≡ 0) past 0 (length past) → (a : ℕ) → k ≤ a → a < 6 → get_or xs a 0 ≡ 0
  others_none all a h l =
      let e : k + (a - k) ≡ a = omega (arith, h) in
      let within : a - k < length past = omega (arith, long) in
      let same = at_past (a - k) within in
      let none = all (a - k) 0 (omega arith) within in
      cc

  -- they are all 0, or one is not
  pub counted : (b : Bool) (joint moves : ℕ) → joint ≡ moves → MatchBool b (AllWithin (λ d. d ≡ 0) past 0 (length past)) ((i : ℕ) × (i < length past) × HoldsAt (λ d. d ≢ 0) past i) →
      SomeIff (then_some b joint) (Counts k xs) moves
  counted true joint moves e all = (record { ranged = ranged; others = others_none all }, e)
  counted false joint moves e (i, l, not) = λ counts. not 0 (at_past i l ∙ counts.others (k + i) (omega arith) (omega (arith, long, ranged.agents)))
