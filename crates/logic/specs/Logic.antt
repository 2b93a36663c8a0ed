-- Alternating-time temporal logic over a model.
use Rattle.std.specs.Prelude.{ℕ, ◌^◌, ◌<◌, cond, T, ◌⊎◌, List, [], ◌∷◌, length, ◌==◌}
use Rattle.sets.specs.Sets.{Set, bit}
use Rattle.model.specs.Model.{Model, Can}

-- the state formulas
pub data Formula : Type 0 where
  verum : Formula
  mark : ℕ → Formula
  neg : Formula → Formula
  both : Formula → Formula → Formula
  either : Formula → Formula → Formula
  next : ℕ → Formula → Formula
  always : ℕ → Formula → Formula
  until : ℕ → Formula → Formula → Formula

-- a set of states that lies inside a, and in which A can stay from each of its states
abbrev pub Stays : Model → ℕ → (ℕ → Type 0) → Set → Type 0
Stays M A a X = (s : ℕ) → T (X s) → a s × Can M A s (λ t. T (X t))

-- a set of states that holds b, and every state of a from which A can enter it
abbrev pub Closed : Model → ℕ → (ℕ → Type 0) → (ℕ → Type 0) → Set → Type 0
Closed M A a b X = ((s : ℕ) → b s → T (X s)) × ((s : ℕ) → a s → Can M A s (λ t. T (X t)) → T (X s))

-- where a formula holds: always is the largest set of the first kind above, until the smallest of the second
abbrev pub Holds : Model → Formula → ℕ → Type 0
Holds M verum s = s < M.n
Holds M (mark i) s = (s < M.n) × T (bit (M.marks s) i)
Holds M (neg f) s = (s < M.n) × (Holds M f s → ⊥)
Holds M (both f g) s = Holds M f s × Holds M g s
Holds M (either f g) s = Holds M f s ⊎ Holds M g s
Holds M (next A f) s = Can M A s (Holds M f)
Holds M (always A f) s = (X : Set) × (T (X s) × Stays M A (Holds M f) X)
Holds M (until A f g) s = (s < M.n) × ((X : Set) → Closed M A (Holds M f) (Holds M g) X → T (X s))

-- a question is a list of lines, numbered from 0, each pointing only at earlier lines
pub data Line : Type 0 where
  True : Line
  Mark : ℕ → Line
  Not : ℕ → Line
  And : ℕ → ℕ → Line
  Or : ℕ → ℕ → Line
  Next : ℕ → ℕ → Line
  Always : ℕ → ℕ → Line
  Until : ℕ → ℕ → ℕ → Line

-- the formula of one line, given those of the earlier ones
abbrev pub formula_by : (ℕ → Formula) → Line → Formula
formula_by at True = verum
formula_by at (Mark i) = mark i
formula_by at (Not a) = neg (at a)
formula_by at (And a b) = both (at a) (at b)
formula_by at (Or a b) = either (at a) (at b)
formula_by at (Next A a) = next A (at a)
formula_by at (Always A a) = always A (at a)
formula_by at (Until A a b) = until A (at a) (at b)

-- the formula that line p says, the newest line first in the list
abbrev pub said : List Line → ℕ → Formula
said [] p = verum
said (l ∷ ls) p = cond (p == length ls) (formula_by (said ls) l) (said ls p)

-- a line that breaks no rule, at place i of a question to k agents
abbrev pub Rule : ℕ → ℕ → Line → Type 0
Rule k i True = Unit {0}
Rule k i (Mark m) = m < 16
Rule k i (Not a) = a < i
Rule k i (And a b) = (a < i) × (b < i)
Rule k i (Or a b) = (a < i) × (b < i)
Rule k i (Next A a) = (A < 2 ^ k) × (a < i)
Rule k i (Always A a) = (A < 2 ^ k) × (a < i)
Rule k i (Until A a b) = (A < 2 ^ k) × (a < i) × (b < i)

-- a list of lines, the newest first, that breaks no rule
abbrev pub Ruled : ℕ → List Line → Type 0
Ruled k [] = Unit {0}
Ruled k (l ∷ ls) = Rule k (length ls) l × Ruled k ls

-- a question holds at the states of its last line, the first of the list
abbrev pub Answer : Model → List Line → ℕ → Type 0
Answer M [] s = ⊥
Answer M (l ∷ ls) s = Holds M (formula_by (said ls) l) s
