-- The names of a legend, one by one.
use Rattle.std.proofs.Common.{false, Option, is_some, MatchOption, ◌≡◌, ℕ, ◌<◌, ◌≤◌, List, [], ◌∷◌, ◌++◌, length, get_or, arith}
use Rattle.std.proofs.lemmas.Grind.{common_steps}
use mathlib.Core.Logic.{∥∥₁_elim}
use native.Mathlib.Bridge.{le_prop}
use native.Mathlib.Nat.{ℕ_set}
use Rattle.legend.specs.Names.{Name, Lawful}
use Rattle.legend.specs.Legends.{names_of}
use Rattle.legend.specs.declared.Legend.{Legend}
use Rattle.legend.proofs.Spelling.{name_length}

pub none_lawful : Lawful []
none_lawful = record { few = omega arith; each = λ i h. absurd (omega arith); differ = λ i j h l. absurd (omega arith) }

module _ (names : List (List ℕ)) (name : List ℕ) where
  -- one name more, which was sought and not found
  pub lawful_next : (o : Option ℕ) → is_some o ≡ false → MatchOption o ((i : ℕ) → i < length names → get_or names i [] ≡ name → ⊥) (λ i. (i < length names) × (get_or names i [] ≡ name)) →
      length names < 16 → Name name → Lawful names → Lawful (names ++ name ∷ [])
  lawful_next o e new room is l = grind (arith, common_steps, l.each, l.differ)

-- a legend's names are few, and each has eight bytes
pub names_few : (l : Legend) → length (names_of l) ≤ 16
names_few l = ∥∥₁_elim l.lawful le_prop (λ h. h.few)

pub name_eight : (l : Legend) (i : ℕ) → i < length (names_of l) → length (get_or (names_of l) i []) ≡ 8
name_eight l i h = ∥∥₁_elim l.lawful (ℕ_set _ _) (λ law. name_length (law.each i h))
