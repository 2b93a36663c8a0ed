-- Names of marks: eight bytes each, a word and then spaces.
use Rattle.std.specs.Prelude.{◌≡◌, ℕ, ◌-◌, ◌<◌, ◌≤◌, ◌⊎◌, List, [], ◌++◌, length, replicate, codes, ◌≢◌, slice_index, slice_index_or}

abbrev pub Letter : ℕ → Type 0
Letter b = (97 ≤ b) × (b ≤ 122)

abbrev pub LetterOrDigit : ℕ → Type 0
LetterOrDigit b = Letter b ⊎ ((48 ≤ b) × (b ≤ 57))

-- a letter a to z, then such letters or digits, eight bytes at most
pub record Word (w : List ℕ) : Type 0 where
  pub some : 1 ≤ length w
  pub short : length w ≤ 8
  pub first : Letter (slice_index w 0)
  pub each : (i : ℕ) → i < length w → LetterOrDigit (slice_index w i)

-- a word, and spaces up to eight bytes
abbrev pub padded : List ℕ → List ℕ
padded w = w ++ replicate (8 - length w) 32

abbrev pub reserved : List ℕ
reserved = padded (codes "true")

-- a padded word that isn't the reserved one
pub record Name (bytes : List ℕ) : Type 0 where
  pub word : List ℕ
  pub is : Word word
  pub spelled : bytes ≡ padded word
  pub free : bytes ≡ reserved → ⊥

-- at most 16 names, no two alike
pub record Lawful (names : List (List ℕ)) : Type 0 where
  pub few : length names ≤ 16
  pub each : (i : ℕ) → i < length names → Name (slice_index_or names i [])
  pub differ : (i j : ℕ) → i < j → j < length names → slice_index_or names i [] ≢ slice_index_or names j []
