-- The lines of a listing, byte by byte.
use Rattle.std.specs.Prelude.{ℕ, cond, List, [], ◌∷◌, ◌++◌, codes, decimal}
use Rattle.sets.specs.Sets.{Set, limit}
use Rattle.file.specs.File.{upto}

-- a state of the set after a space
abbrev pub spaced : Set → ℕ → List ℕ
spaced X s = cond (X s) (32 ∷ decimal s) []

-- the states of a set, rising, each after a space
abbrev pub states : Set → List ℕ
states X = upto (spaced X) limit

-- where a question holds
abbrev pub at_line : Set → List ℕ
at_line X = codes "at:" ++ (states X ++ 10 ∷ [])

-- a refusal by its number
abbrev pub refused_line : ℕ → List ℕ
refused_line n = codes "refused " ++ (decimal n ++ 10 ∷ [])
