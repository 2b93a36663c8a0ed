-- The product of an agent's count with those of the lower agents, within the range or past it.
use Rattle.std.proofs.Common.{◌≡◌, ℕ, ◌+◌, ◌-◌, ◌*◌, ◌/◌, ◌<◌, ◌≤◌, refl, div-lt_iff_lt-mul, arith}
use Rattle.model.specs.Model.{everyone, moves, most}
use Rattle.model.specs.Kinds.{CountsRanged}
use Rattle.model.proofs.Moving.{moves_with, moves_grow}

module _ (d : ℕ → ℕ) (a joint : ℕ) (is : joint ≡ moves everyone d a) (pos : 1 ≤ joint) where
  pub product_more : joint * d a ≡ moves everyone d (a + 1)
  product_more = let e = moves_with everyone d a refl in cc

  pub product_past : (k : ℕ) → a < k → most / joint < d a → CountsRanged k d → ⊥
  product_past k l h r =
      let e : a + 1 + (k - (a + 1)) ≡ k = omega arith in
      let grown = moves_grow d k (λ b q. (r.choices b q).0) (a + 1) (k - (a + 1)) (omega arith) in
      omega (arith, product_more, rw e at grown, r.product, (div-lt_iff_lt-mul {k = joint} {x = most} {y = d a} pos).0 h)
