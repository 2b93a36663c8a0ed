-- The same model keeps the same ranges.
use Rattle.std.proofs.Common.{◌≡◌, ℕ, zero, suc, ◌^◌, ◌<◌, ◌≤◌, sym, refl, ap, ◌∙◌, subst, le_refl, arith}
use Rattle.sets.specs.Sets.{Set, limit}
use Rattle.model.specs.Model.{Model, Same, Ranged, moves, everyone, joint, most}

-- equal counts give equally many joint moves
pub moves_same : (A : Set) (d e : ℕ → ℕ) (k : ℕ) → ((a : ℕ) → a < k → d a ≡ e a) → moves A d k ≡ moves A e k
moves_same A d e zero h = refl
moves_same A d e (suc k) h =
    let before = moves_same A d e k (λ a l. h a (omega arith)) in
    let here = h k (le_refl (suc k)) in
    cc

module _ {M N : Model} (same : Same M N) where
  pub moves_at : (A : Set) (s : ℕ) → s < M.n → moves A (M.d s) M.k ≡ moves A (N.d s) N.k
  moves_at A s l = moves_same A (M.d s) (N.d s) M.k (λ a h. same.counted s a l h) ∙ ap (moves A (N.d s)) same.agents

  pub state_in : (s : ℕ) → s < N.n → s < M.n
  state_in s l = subst (λ n. s < n) (sym same.states) l

  pub joint_in : (s j : ℕ) → s < M.n → j < joint N s → j < joint M s
  joint_in s j l h = subst (λ n. j < n) (sym (moves_at everyone s l)) h

  pub same_ranged : Ranged M → Ranged N
  same_ranged ranged = record {
    states = subst (λ n. (1 ≤ n) × (n ≤ limit)) same.states ranged.states;
    agents = subst (λ k. (1 ≤ k) × (k ≤ 6)) same.agents ranged.agents;
    sixteen = λ s l. let h = state_in s l in subst (λ x. x < 2 ^ 16) (same.marked s h) (ranged.sixteen s h);
    choices = λ s a l i.
        let h = state_in s l in
        let b : a < M.k = subst (λ k. a < k) (sym same.agents) i in
        subst (λ x. (1 ≤ x) × (x ≤ most)) (same.counted s a h b) (ranged.choices s a h b);
    product = λ s l. let h = state_in s l in subst (λ x. x ≤ most) (moves_at everyone s h) (ranged.product s h);
    inside = λ s j l i.
        let h = state_in s l in
        let b = joint_in s j h i in
        subst (λ x. x < N.n) (same.leads s j h b) (subst (λ n. M.out s j < n) same.states (ranged.inside s j h b));
  }
