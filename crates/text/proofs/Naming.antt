-- The words of a legend's names.
use Rattle.std.proofs.Common.{◌≡◌, ℕ, zero, suc, ◌-◌, ◌<◌, eqb, List, [], ◌∷◌, ◌++◌, length, get_or, replicate, Option, None, Some, MatchOption, MatchResult, sym, refl, ap, ◌∙◌, inl, inr, arith}
use mathlib.Core.Logic.{∥∥₁_elim}
use native.Mathlib.Nat.{ℕ_set}
use Rattle.std.proofs.lemmas.Bool.{cases_lt, cond-false, ne_eqb}
use Rattle.std.specs.Option.{ok_or}
use Rattle.legend.specs.Names.{LetterOrDigit, padded, Lawful}
use Rattle.legend.specs.Legends.{names_of}
use Rattle.legend.specs.declared.Legend.{Legend}
use Rattle.grammar.specs.Grammar.{word_of, vocabulary}
use Rattle.text.specs.Faults.{TextFault}
use Rattle.text.specs.declared.fault.TextRule.TheVariants as rule
use Rattle.grammar.proofs.Single.{Apart}

-- letters and digits
abbrev Each : List ℕ → Type 0
Each w = (i : ℕ) → i < length w → LetterOrDigit (get_or w i 0)

spaces : (n : ℕ) → word_of (replicate n 32) ≡ []
spaces zero = refl
spaces (suc n) = refl

inner_other : (b : ℕ) → LetterOrDigit b → b ≡ 32 → ⊥
inner_other b (inl h) e = omega arith
inner_other b (inr h) e = omega arith

-- the padding goes, and nothing else
word_padded : (w : List ℕ) (n : ℕ) → Each w → word_of (w ++ replicate n 32) ≡ w
word_padded [] n h = spaces n
word_padded (b ∷ w) n h =
    cond-false (eqb b 32) [] (b ∷ word_of (w ++ replicate n 32)) (ne_eqb b 32 (inner_other b (h 0 (omega arith))))
    ∙ ap (λ (l : List ℕ). b ∷ l) (word_padded w n (λ i l. h (suc i) (omega arith)))

module _ (names : List (List ℕ)) where
  pub word_known : (i : ℕ) (w : List ℕ) → Each w → get_or names i [] ≡ padded w → word_of (get_or names i []) ≡ w
  word_known i w h e = ap word_of e ∙ word_padded w (8 - length w) h

  -- a lawful name is its word, padded
  name_padded : Lawful names → (i : ℕ) → i < length names → get_or names i [] ≡ padded (word_of (get_or names i []))
  name_padded law i h =
      let n = law.each i h in
      n.spelled ∙ ap padded (sym (word_known i n.word n.is.each n.spelled))

  apart : Lawful names → (i j : ℕ) → i < length names → j < length names → word_of (get_or names i []) ≡ word_of (get_or names j []) → i ≡ j
  apart law i j h k e =
      let same : get_or names i [] ≡ get_or names j [] = name_padded law i h ∙ ap padded e ∙ sym (name_padded law j k) in
      elim (cases_lt i j) [ inl l ↦ absurd (law.differ i j l k same) | inr l ↦ elim (cases_lt j i) [ inl m ↦ absurd (law.differ j i m h (sym same)) | inr m ↦ omega arith ] ]

module _ (l : Legend) where
  pub word_unknown : (w : List ℕ) → ((i : ℕ) → i < length (names_of l) → get_or (names_of l) i [] ≡ padded w → ⊥) → (i : ℕ) → i < length (names_of l) → word_of (get_or (names_of l) i []) ≡ w → ⊥
  word_unknown w none i h e = ∥∥₁_elim l.lawful (λ a b. absurd a) (λ law. none i h (name_padded (names_of l) law i h ∙ ap padded e))

  pub words_apart : (k : ℕ) → Apart (vocabulary (names_of l) k)
  words_apart k i j h m e = ∥∥₁_elim l.lawful (ℕ_set i j) (λ law. apart (names_of l) law i j h m e)

  -- what a look-up of a word answers, as a mark or a fault
  pub mark_or_fault : (w : List ℕ) → Each w → (fault : TextFault) (place : ℕ) → (fault.rule ≡ rule.Name) × (fault.place ≡ place) → (o : Option ℕ) →
      MatchOption o ((i : ℕ) → i < length (names_of l) → get_or (names_of l) i [] ≡ padded w → ⊥) (λ i. (i < length (names_of l)) × (get_or (names_of l) i [] ≡ padded w)) →
      MatchResult (ok_or o fault) (λ m. (m < length (names_of l)) × (word_of (get_or (names_of l) m []) ≡ w))
      (λ f. (f.rule ≡ rule.Name) × (f.place ≡ place) × ((i : ℕ) → i < length (names_of l) → word_of (get_or (names_of l) i []) ≡ w → ⊥))
  mark_or_fault w each fault place is None h = (is.0, is.1, word_unknown w h)
  mark_or_fault w each fault place is (Some i) h = (h.0, word_known (names_of l) i w each h.1)
