-- The counts and numbers of joint moves and own choices.
use Rattle.std.proofs.Common.{◌≡◌, ℕ, zero, suc, ◌+◌, ◌-◌, ◌*◌, ◌<◌, ◌≤◌, Bool, true, false, cond, add-zero, add-suc, add-one, arith}
use Rattle.std.proofs.lemmas.Nat.{mul-le, mul-add-lt, mod_below}
use Rattle.sets.specs.Sets.{Set}
use Rattle.model.specs.Model.{Model, Ranged, moves, everyone, choice, number, own, most}

-- one agent more, who is in A or isn't
module _ (A : Set) (d : ℕ → ℕ) (a : ℕ) where
  pub moves_with : A a ≡ true → moves A d (a + 1) ≡ moves A d a * d a
  moves_with h = rw (add-one, h)

-- a factor that is kept or left out
kept_le : (b : Bool) (m n d : ℕ) → m ≤ n → 1 ≤ d → m * cond b d 1 ≤ n * d
kept_le true m n d h p = mul-le m d n d h (omega arith)
kept_le false m n d h p = mul-le m 1 n d h p

kept_pos : (b : Bool) (m d : ℕ) → 1 ≤ m → 1 ≤ d → 1 ≤ m * cond b d 1
kept_pos true m d h p = mul-le 1 1 m d h p
kept_pos false m d h p = omega arith

kept_lt : (b : Bool) (o x m d : ℕ) → o < m → x < d → o + cond b (x * m) 0 < m * cond b d 1
kept_lt true o x m d h p = omega (arith, mul-add-lt x m o d p h)
kept_lt false o x m d h p = omega arith

-- the number of a joint move is below their count, if each choice is below its agent's
pub number_lt : (A : Set) (d f : ℕ → ℕ) (a : ℕ) → ((i : ℕ) → i < a → f i < d i) → number A d f a < moves A d a
number_lt A d f zero h = omega arith
number_lt A d f (suc a) h =
    kept_lt (A a) (number A d f a) (f a) (moves A d a) (d a) (number_lt A d f a (λ i l. h i (omega arith))) (h a (omega arith))

module _ (d : ℕ → ℕ) (k : ℕ) (pos : (a : ℕ) → a < k → 1 ≤ d a) where
  pub moves_pos : (A : Set) (a : ℕ) → a ≤ k → 1 ≤ moves A d a
  moves_pos A zero h = omega arith
  moves_pos A (suc a) h = kept_pos (A a) (moves A d a) (d a) (moves_pos A a (omega arith)) (pos a (omega arith))

  pub moves_le : (A : Set) (a : ℕ) → a ≤ k → moves A d a ≤ moves everyone d a
  moves_le A zero h = omega arith
  moves_le A (suc a) h = kept_le (A a) (moves A d a) (moves everyone d a) (d a) (moves_le A a (omega arith)) (pos a (omega arith))

  pub moves_grow : (a i : ℕ) → a + i ≤ k → moves everyone d a ≤ moves everyone d (a + i)
  moves_grow a zero h = rw add-zero (omega arith)
  moves_grow a (suc i) h =
      rw add-suc (let r = moves_grow a i (omega arith) in let p = mul-le (moves everyone d a) 1 (moves everyone d (a + i)) (d (a + i)) r (pos (a + i) (omega arith)) in omega arith)

  pub own_lt : (A : Set) (j a : ℕ) → a ≤ k → own A d a j < moves A d a
  own_lt A j a h = number_lt A d (λ i. choice everyone d i j) a (λ i l. mod_below _ (d i) (pos i (omega arith)))

-- in a model, all of them are small
module _ (M : Model) (r : Ranged M) (s : ℕ) (h : s < M.n) where
  pub moves_fit : (A : Set) (a : ℕ) → a ≤ M.k → moves A (M.d s) a ≤ most
  moves_fit A a l =
      let p : (b : ℕ) → b < M.k → 1 ≤ M.d s b = λ b q. (r.choices s b h q).0 in
      let e : a + (M.k - a) ≡ M.k = omega arith in
      let x = moves_le (M.d s) M.k p A a l in
      let y = moves_grow (M.d s) M.k p a (M.k - a) (omega arith) in
      omega (arith, rw e at y, r.product s h)
