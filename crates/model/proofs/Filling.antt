-- A pass that writes places in order: one place more.
use Rattle.std.proofs.Common.{ℕ, ◌+◌, ◌<◌, List, length, get_or, set, sym, subst, inl, inr, arith, get_or-set_other, get_or-set_same}
use Rattle.std.proofs.lemmas.Bool.{cases_eq}

pub fill_more : {X : Type 0} (d : X) (xs : List X) (i : ℕ) (v : X) (P : ℕ → X → Type 0) → i < length xs →
    ((k : ℕ) → k < i → P k (get_or xs k d)) → P i v → (k : ℕ) → k < i + 1 → P k (get_or (set xs i v) k d)
fill_more d xs i v P l before here k h =
    elim (cases_eq k i) [
      | inl e ↦ subst (λ (j : ℕ). P j (get_or (set xs i v) j d)) (sym e) (subst (P i) (sym (get_or-set_same xs i v d l)) here)
      | inr n ↦ subst (P k) (sym (get_or-set_other xs i k v d n)) (before k (omega arith))
    ]
