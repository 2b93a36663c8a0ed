-- How the command that is due fails.
use Rattle.std.proofs.Common.{◌≡◌, ℕ, ◌<◌, List, ◌∷◌, length, Option, Some, None, Result, Err, arith, sym, ap, ◌∙◌, subst}
use Rattle.std.specs.Option.{SomeIff, ok_or}
use Rattle.std.proofs.lemmas.Option.{same_Some}
use Rattle.std.proofs.lemmas.List.{nil_from_length}
use Rattle.file.specs.Reading.{Seen, Fails, due, size}

-- the error of `o.ok_or(d)`
pub error : {A E : Type 0} (o : Option A) (d e : E) → ◌≡◌ {A = Result A E} (Err e) (ok_or o d) → e ≡ d
error (Some x) d e is = cc
error None d e is = grind arith

-- no byte is left, another code stands here, or an operand is missing
module _ {rest : List ℕ} {code : ℕ} (s : Seen) (d : due s ≡ code) where
  pub absent : length rest ≡ 0 → Fails s rest 1
  absent none = Fails.absent (nil_from_length rest none)

  pub other : (b : ℕ) (after : List ℕ) → rest ≡ b ∷ after → (b ≡ code → ⊥) → Fails s rest 2
  other b after is not = Fails.other b after is (λ e. not (e ∙ d))

  pub short : (after : List ℕ) → rest ≡ code ∷ after → length after < size code → Fails s rest 1
  short after is few = Fails.short after (is ∙ ap (λ (b : ℕ). b ∷ after) (sym d)) (subst (λ (c : ℕ). length after < size c) (sym d) few)

-- an option that holds v where P does
pub refuted : {A P : Type 0} (o : Option A) (v : A) → o ≡ None → SomeIff o P v → P → ⊥
refuted None v e not = not
refuted (Some x) v e h = cc

pub proved : {A P : Type 0} (o : Option A) (v x : A) → o ≡ Some x → SomeIff o P v → P × (x ≡ v)
proved None v x e h = cc
proved (Some y) v x e h = (h.0, sym (same_Some y x e) ∙ h.1)
