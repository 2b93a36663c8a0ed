-- Membership in a set of one word: below the limit, which bits hold.
use Rattle.std.proofs.Common.{◌≡◌, ℕ, zero, suc, ◌^◌, ◌<◌, ◌≤◌, Option, None, Some, MatchOption, Bool, true, false, T, ltb, ◌⊎◌, ◌↔◌, sym, refl, subst, inl, inr, arith, ltb→lt, lt→ltb}
use Rattle.std.proofs.lemmas.Bool.{cases_eq, cases_lt, lt-ltb, le-ltb}
use Rattle.sets.specs.Sets.{Set, bit, member, limit, Lowest}
use Rattle.sets.specs.declared.state_set.StateSet.{StateSet}
use Rattle.sets.proofs.Bitwise.{T_and, bit_high}

pub held : (x : StateSet) (s : ℕ) → T (member x s) ↔ ((s < limit) × T (bit x.bits s))
unfolding member
held x s = (
  λ t. let p = (T_and (ltb s limit) (bit x.bits s)).0 t in (ltb→lt s limit p.0, p.1),
  λ p. (T_and (ltb s limit) (bit x.bits s)).1 (lt→ltb s limit p.0, p.1),
)

-- a word has no bits past the limit
pub member_is : (x : StateSet) (s : ℕ) → x.bits < 2 ^ 64 → bit x.bits s ≡ member x s
unfolding member
member_is x s h = elim (cases_lt s limit) [ inl k ↦ rw (lt-ltb s limit k) refl | inr k ↦ rw (le-ltb s limit k) (bit_high x.bits limit s h k) ]

-- no set holds more
pub member_below : (x : StateSet) (s : ℕ) → T (member x s) → s < limit
member_below x s t = ((held x s).0 t).0

-- the first number of a set is its lowest
pub lowest_of : (x : StateSet) (r : Option ℕ) → MatchOption r ((k : ℕ) → 0 ≤ k → k < limit → T (member x k) → ⊥) (λ l. (0 ≤ l) × (l < limit) × T (member x l) × ((k : ℕ) → 0 ≤ k → k < l → T (member x k) → ⊥)) → MatchOption r ((s : ℕ) → T (member x s) → ⊥) (λ l. Lowest (member x) l)
lowest_of x None h = λ s m. h s (omega arith) (member_below x s m) m
lowest_of x (Some l) h = record { has = h.2; least = λ t m. elim (cases_lt t l) [ inl k ↦ absurd (h.3 t (omega arith) k m) | inr k ↦ k ] }

-- a set holds some number below n, or none
search_below : (X : Set) (n : ℕ) → ((s : ℕ) × T (X s)) ⊎ ((s : ℕ) → s < n → T (X s) → ⊥)
search_below X zero = inr (λ s l. absurd (omega arith))
search_below X (suc n) = go (search_below X n) (X n) refl
  where
    go : ((s : ℕ) × T (X s)) ⊎ ((s : ℕ) → s < n → T (X s) → ⊥) → (b : Bool) → X n ≡ b → ((s : ℕ) × T (X s)) ⊎ ((s : ℕ) → s < suc n → T (X s) → ⊥)
    go (inl f) b e = inl f
    go (inr none) true e = inl (n, subst T (sym e) tt)
    go (inr none) false e = inr (λ s l t. elim (cases_eq s n) [ inl q ↦ subst T e (subst (λ (i : ℕ). T (X i)) q t) | inr q ↦ none s (omega arith) t ])

-- a set that isn't empty holds something
pub some_member : (x : StateSet) → (((s : ℕ) → T (member x s) → ⊥) → ⊥) → (s : ℕ) × T (member x s)
some_member x n = elim (search_below (member x) limit) [ inl f ↦ f | inr none ↦ absurd (n (λ s t. none s (member_below x s t) t)) ]
