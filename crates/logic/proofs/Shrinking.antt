-- What makes the loops to a fixpoint end, and what they keep.
use Rattle.std.proofs.Common.{◌≡◌, ℕ, zero, suc, ◌+◌, ◌<◌, Bool, true, false, T, ◌⊎◌, sym, refl, subst, inl, inr, arith}
use Rattle.std.proofs.lemmas.Bool.{cases_eq}
use Rattle.sets.specs.Sets.{Set}
use Rattle.model.specs.Model.{Model, Can}
use Rattle.sets.specs.Sets.{member, limit}
use Rattle.sets.specs.declared.state_set.StateSet.{StateSet}
use Rattle.sets.proofs.Members.{member_below}

abbrev digit : Bool → ℕ
digit true = 1
digit false = 0

-- how many of the first n numbers a set holds
abbrev count : Set → ℕ → ℕ
count X zero = 0
count X (suc n) = count X n + digit (X n)

-- of a set and a part of it, the part has fewer, or they are the same
one_less : (x y : Bool) → (T y → T x) → (digit y < digit x) ⊎ ((digit y ≡ digit x) × (T x → T y))
one_less true true h = inr (refl, λ t. t)
one_less true false h = inl (omega arith)
one_less false true h = absurd (h tt)
one_less false false h = inr (refl, λ t. t)

count_less : (X Y : Set) → ((s : ℕ) → T (Y s) → T (X s)) → (n : ℕ) →
    (count Y n < count X n) ⊎ ((count Y n ≡ count X n) × ((s : ℕ) → s < n → T (X s) → T (Y s)))
count_less X Y h zero = inr (refl, λ s l. absurd (omega arith))
count_less X Y h (suc n) =
    elim (count_less X Y h n) [
      | inl l ↦ elim (one_less (X n) (Y n) (h n)) [ inl k ↦ inl (omega arith) | inr k ↦ inl (omega arith) ]
      | inr e ↦ elim (one_less (X n) (Y n) (h n)) [
        | inl k ↦ inl (omega arith)
        | inr k ↦ inr (omega arith, λ s l. elim (cases_eq s n) [ inl q ↦ subst (λ (i : ℕ). T (X i) → T (Y i)) (sym q) k.1 | inr q ↦ e.1 s (omega arith) ])
      ]
    ]

-- how far a set can still shrink
unfoldable pub rank : StateSet → ℕ
rank x = count (member x) limit

pub shrinks : (x y : StateSet) → ((s : ℕ) → T (member y s) → T (member x s)) → (((s : ℕ) → T (member x s) → T (member y s)) → ⊥) → rank y < rank x
unfolding rank
shrinks x y h n =
    elim (count_less (member x) (member y) h limit) [ inl l ↦ l | inr e ↦ absurd (n (λ s t. e.1 s (member_below x s t) t)) ]

-- who can enter a set can enter a larger one
pub can_more : (M : Model) (A s : ℕ) (P Q : ℕ → Type 0) → ((t : ℕ) → P t → Q t) → Can M A s P → Can M A s Q
can_more M A s P Q h p = record {
  coalition = p.coalition;
  state = p.state;
  with = p.with;
  below = p.below;
  leads = λ j l e. h (M.out s j) (p.leads j l e);
}

pub tested : (b : Bool) → T b ⊎ (T b → ⊥)
tested true = inl tt
tested false = inr (λ z. z)
