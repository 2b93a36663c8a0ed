-- The kinds of models: the ring line, the table, and the veil over any model.
use Rattle.std.specs.Prelude.{ℕ, ◌+◌, ◌-◌, ◌%◌, ◌^◌, ◌<◌, ◌≤◌, cond, not, ◌&&◌, List, [], ◌==◌, bit_and, slice_index, slice_index_or}
use Rattle.sets.specs.Sets.{Set}
use Rattle.model.specs.Model.{Marks, Model, most, everyone, moves, choice}
use Rattle.model.specs.declared.state.State.{State}

-- the number of the refusal of a ring with no positions or with too many
abbrev pub ring_number : ℕ
ring_number = 38

-- whether the agent a pushes in the joint move j, where each agent waits (0) or pushes (1)
abbrev pub pushes : ℕ → Set
pushes j a = choice everyone (λ _. 2) a j == 1

-- p positions in a ring: agent 0 alone pushes on, agent 1 alone pushes back, and else nothing moves; position 0 alone is marked
abbrev pub ring : ℕ → Model
ring p = record {
  n = p;
  marks = λ s. cond (s == 0) 1 0;
  k = 2;
  d = λ s a. 2;
  out = λ s j.
      cond (pushes j 0 && not (pushes j 1)) ((s + 1) % p)
      (cond (pushes j 1 && not (pushes j 0)) ((s + p - 1) % p) s);
}

-- how many choices each agent has at a state that is written out
abbrev pub counts_at : State → ℕ → ℕ
counts_at x a = slice_index x.counts a

-- the counts of k agents keep the ranges
pub record CountsRanged (k : ℕ) (d : ℕ → ℕ) : Type 0 where
  pub agents : k ≤ 6
  pub choices : (a : ℕ) → a < k → (1 ≤ d a) × (d a ≤ most)
  pub product : moves everyone d k ≤ most

-- a state keeps the ranges, among n states
pub record StateRanged (n k : ℕ) (x : State) : Type 0 where
  pub sixteen : x.marks < 2 ^ 16
  pub counts : CountsRanged k (counts_at x)
  pub inside : (j : ℕ) → j < moves everyone (counts_at x) k → slice_index x.outcomes j < n

-- what stands past the states of a table
abbrev pub nowhere : State
nowhere = record { marks = 0; counts = []; outcomes = [] }

-- the model that is written out state by state
abbrev pub written : ℕ → ℕ → (ℕ → State) → Model
written n k at = record { n = n; marks = λ s. (at s).marks; k = k; d = λ s. counts_at (at s); out = λ s j. slice_index (at s).outcomes j }

abbrev pub table_of : ℕ → ℕ → List State → Model
table_of n k states = written n k (λ s. slice_index_or states s nowhere)

-- one state, one agent with one choice, no marks
abbrev pub blank : Model
blank = record { n = 1; marks = λ _. 0; k = 1; d = λ _ _. 1; out = λ _ _. 0 }

-- a marked set and a model of which only the marks in a mask are seen
abbrev pub veiled_marks : ℕ → Marks → Marks
veiled_marks mask m = record { n = m.n; marks = λ s. bit_and (m.marks s) mask }

abbrev pub veiled : ℕ → Model → Model
veiled mask M = record { n = M.n; marks = λ s. bit_and (M.marks s) mask; k = M.k; d = M.d; out = M.out }
