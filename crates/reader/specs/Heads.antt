-- A state's own command, and the state with its outcomes.
use Rattle.std.specs.Prelude.{◌≡◌, ℕ, ◌+◌, ◌-◌, ◌^◌, ◌<◌, ◌≤◌, false, List, [], ◌∷◌, length, slice_index}
use Rattle.model.specs.Model.{everyone, moves}
use Rattle.model.specs.Kinds.{counts_at}
use Rattle.model.specs.declared.state.State.{State}
use Rattle.file.specs.File.{Command, state, out, upto}
use Rattle.file.specs.Reading.{Counts, Seen}
use Rattle.reader.specs.declared.head.Head.{Head}
use Rattle.reader.specs.declared.header.Header.{Header}

-- a head keeps its rule, in a file with this header
pub record HeadOf (h : Header) (x : Head) : Type 0 where
  pub six : length x.state.counts ≡ 6
  pub declared : x.state.marks < 2 ^ h.marks
  pub counts : Counts h.agents x.state.counts
  pub joint : x.joint ≡ moves everyone (counts_at x.state) h.agents

-- the command of an outcome, and those of a state that was read
abbrev pub out_command : List ℕ → ℕ → List Command
out_command outcomes j = out (slice_index outcomes j) ∷ []

abbrev pub state_commands : ℕ → State → List Command
state_commands k x = state x.marks x.counts ∷ upto (out_command x.outcomes) (moves everyone (counts_at x) k)

-- a moment after all names, before END
pub record Naming (s : Seen) : Type 0 where
  pub going : s.ended ≡ false
  pub some : 1 ≤ s.k
  pub all : s.m ≤ length s.names

-- the moment j outcomes later
abbrev pub outs_seen : Seen → ℕ → Seen
outs_seen s j = record s { left = s.left - j; outs = s.outs + j }

-- the moment after one more state with j outcomes
abbrev pub state_seen : Seen → ℕ → Seen
state_seen s j = record s { states = s.states + 1; left = 0; outs = s.outs + j }

-- a state keeps its rules, in a file with this header
pub record Kept (h : Header) (x : State) : Type 0 where
  pub six : length x.counts ≡ 6
  pub declared : x.marks < 2 ^ h.marks
  pub counts : Counts h.agents x.counts
  pub inside : (j : ℕ) → j < moves everyone (counts_at x) h.agents → slice_index x.outcomes j < h.states

-- the moment after some states
abbrev pub body_seen : Header → List (List ℕ) → ℕ → ℕ → Seen
body_seen h names s total = record { k = h.agents; n = h.states; m = h.marks; names = names; states = s; left = 0; outs = total; ended = false }
