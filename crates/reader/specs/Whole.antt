-- What reading a file answers.
use Rattle.std.specs.Prelude.{◌≡◌, ℕ, List}
use Rattle.model.specs.Model.{Model, Same}
use Rattle.file.specs.Reading.{Begins, Refused}

-- the input begins with the file of M and the names, and with no other
pub record Accepts (input : List ℕ) (M : Model) (names : List (List ℕ)) (rest : List ℕ) : Type 0 where
  pub begins : Begins input M names rest
  pub only : (N : Model) (others : List (List ℕ)) (r : List ℕ) → Begins input N others r → Same N M × (others ≡ names) × (r ≡ rest)

-- the refusal is this one and no other, and the input begins with no file
pub record Rejects (input : List ℕ) (number place : ℕ) : Type 0 where
  pub refused : Refused input number place
  pub only : (a p : ℕ) → Refused input a p → (a ≡ number) × (p ≡ place)
  pub none : (N : Model) (others : List (List ℕ)) (r : List ℕ) → Begins input N others r → ⊥
