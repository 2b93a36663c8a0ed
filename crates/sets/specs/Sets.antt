-- Sets of numbers, and what a set of states and a coalition hold.
use Rattle.std.specs.Prelude.{ℕ, ◌/◌, ◌%◌, ◌^◌, ◌≤◌, Bool, ◌&&◌, T, ◌==◌, nat_lt}
use Rattle.sets.specs.declared.state_set.StateSet.{StateSet}
use Rattle.sets.specs.declared.coalition.Coalition.{Coalition}

-- a set of numbers
abbrev pub Set : Type 0
Set = ℕ → Bool

-- bit i of a number
abbrev pub bit : ℕ → Set
bit x i = x / 2 ^ i % 2 == 1

-- no model has more states, and a set of states holds only numbers below this
abbrev pub limit : ℕ
limit = 64

-- the states of a set
unfoldable pub member : StateSet → Set
member x s = nat_lt s limit && bit x.bits s

-- l is the lowest number of X
pub record Lowest (X : Set) (l : ℕ) : Type 0 where
  pub has : T (X l)
  pub least : (t : ℕ) → T (X t) → l ≤ t

-- the number of a coalition, whose bits are its agents
unfoldable pub who : Coalition → ℕ
who a = a.bits
