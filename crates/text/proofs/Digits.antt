-- Digits, one after another.
use Rattle.std.proofs.Common.{◌≡◌, ℕ, suc, ◌+◌, ◌-◌, ◌*◌, ◌%◌, ◌^◌, ◌<◌, ◌≤◌, List, [], ◌∷◌, length, get_or, drop, ap, ◌∙◌, mod-eq_of_lt, one-mul, pow-suc, arith, pow_pos, pow_mono}
use Rattle.std.proofs.lemmas.List.{drop_more}
use Rattle.grammar.specs.Tokens.{Rising, number}

-- what a digit adds
module _ (low d : ℕ) (some : 48 ≤ low) (above : low ≤ d) (five : d ≤ 53) where
  small : 2 ^ (d - 48) ≤ 32
  small = pow_mono {i = d - 48} {j = 5} (omega arith)

  pub shifted : (1 * 2 ^ (d - 48)) % 256 ≡ 2 ^ (d - 48)
  shifted = ap (λ n. n % 256) (one-mul (2 ^ (d - 48))) ∙ mod-eq_of_lt (omega (arith, small))

  pub sum_below : (bits : ℕ) → bits < 2 ^ (low - 48) → bits + (1 * 2 ^ (d - 48)) % 256 < 2 ^ ((d + 1) - 48)
  sum_below bits h =
      let next : (d + 1) - 48 ≡ suc (d - 48) = omega arith in
      let twice : 2 ^ ((d + 1) - 48) ≡ 2 ^ (d - 48) * 2 = ap (λ n. 2 ^ n) next ∙ pow-suc 2 (d - 48) in
      omega (arith, shifted, twice, pow_mono {i = low - 48} {j = d - 48} (omega arith))

-- the digits from a place on begin with the one there
module _ (ds : List ℕ) (i : ℕ) (within : i < length ds) where
  pub rising_at : (low : ℕ) → Rising low (drop i ds) → (low ≤ get_or ds i 0) × (get_or ds i 0 ≤ 53) × Rising (get_or ds i 0 + 1) (drop (i + 1) ds)
  rising_at low h = rw (drop_more ds i 0 within) at h

  pub rising_from : (low : ℕ) → low ≤ get_or ds i 0 → get_or ds i 0 ≤ 53 → Rising (get_or ds i 0 + 1) (drop (i + 1) ds) → Rising low (drop i ds)
  rising_from low a b h = rw (drop_more ds i 0 within) (a, b, h)

  pub number_at : number (drop i ds) ≡ 2 ^ (get_or ds i 0 - 48) + number (drop (i + 1) ds)
  number_at = ap number (drop_more ds i 0 within)

-- some digits name somebody
pub number_some : (ds : List ℕ) → 1 ≤ length ds → 1 ≤ number ds
number_some [] h = absurd (omega arith)
number_some (d ∷ ds) h = omega (arith, pow_pos (d - 48))
