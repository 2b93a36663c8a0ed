-- The lines of a formula.
use Rattle.std.specs.Prelude.{ℕ, ◌^◌, ◌<◌, List, [], ◌∷◌, length}
use Rattle.logic.specs.Logic.{
  Formula,
  verum,
  mark,
  neg,
  both,
  either,
  next,
  always,
  until,
  Line,
  True,
  Mark,
  Not,
  And,
  Or,
  Next,
  Always,
  Until,
}

-- the place of the newest line
abbrev pub last : List Line → ℕ
last [] = 0
last (l ∷ ls) = length ls

-- the lines of a formula after those of q: operands first, left before right, unshared
abbrev pub flatten : Formula → List Line → List Line
flatten verum q = True ∷ q
flatten (mark i) q = Mark i ∷ q
flatten (neg f) q = let w = flatten f q in Not (last w) ∷ w
flatten (both f g) q = let v = flatten f q in let w = flatten g v in And (last v) (last w) ∷ w
flatten (either f g) q = let v = flatten f q in let w = flatten g v in Or (last v) (last w) ∷ w
flatten (next A f) q = let w = flatten f q in Next A (last w) ∷ w
flatten (always A f) q = let w = flatten f q in Always A (last w) ∷ w
flatten (until A f g) q = let v = flatten f q in let w = flatten g v in Until A (last v) (last w) ∷ w

-- no line is an always or an until
abbrev pub Plain : List Line → Type 0
Plain [] = Unit {0}
Plain (True ∷ ls) = Plain ls
Plain (Mark i ∷ ls) = Plain ls
Plain (Not a ∷ ls) = Plain ls
Plain (And a b ∷ ls) = Plain ls
Plain (Or a b ∷ ls) = Plain ls
Plain (Next A a ∷ ls) = Plain ls
Plain (Always A a ∷ ls) = ⊥
Plain (Until A a b ∷ ls) = ⊥

-- marks are below 16 and coalitions exist for k agents; always and until stand only where U allows them: ⊥ allows none, Unit all
abbrev pub Fit : Type 0 → ℕ → Formula → Type 0
Fit U k verum = Unit {0}
Fit U k (mark i) = i < 16
Fit U k (neg f) = Fit U k f
Fit U k (both f g) = Fit U k f × Fit U k g
Fit U k (either f g) = Fit U k f × Fit U k g
Fit U k (next A f) = (A < 2 ^ k) × Fit U k f
Fit U k (always A f) = U × (A < 2 ^ k) × Fit U k f
Fit U k (until A f g) = U × (A < 2 ^ k) × Fit U k f × Fit U k g
