-- A test of every number below a bound.
use Rattle.std.proofs.Common.{ℕ, ◌<◌, Bool, true, false, T, ◌↔◌, length, sym, ◌∙◌, subst, zero-add, arith}
use Rattle.std.specs.Bool.{MatchBool}
use Rattle.std.specs.List.{AllWithin, HoldsAt, range_with_len}
use Rattle.std.proofs.lemmas.List.FromFn.{length-range_with_len, get_or-range_with_len}

pub all_below : (P : ℕ → Type 0) (n : ℕ) (b : Bool) →
    MatchBool b (AllWithin P (range_with_len 0 n) 0 (length (range_with_len 0 n))) ((k : ℕ) × (k < length (range_with_len 0 n)) × HoldsAt (λ s. P s → ⊥) (range_with_len 0 n) k) →
    T b ↔ ((s : ℕ) → s < n → P s)
all_below P n true h =
    (λ _ s l. subst P (get_or-range_with_len 0 n s 0 l ∙ zero-add s) (h s 0 (omega arith) (omega (arith, length-range_with_len 0 n))), λ _. tt)
all_below P n false (k, l, h) =
    let in_range : k < n = omega (arith, length-range_with_len 0 n) in
    (λ z. absurd z, λ all. h 0 (subst P (sym (get_or-range_with_len 0 n k 0 in_range ∙ zero-add k)) (all k in_range)))
