-- Questions as the code has them, the sets that tell where their lines hold, and when a question is refused.
use Rattle.std.specs.Prelude.{◌≡◌, ℕ, ◌+◌, ◌<◌, ◌≤◌, T, ◌⊎◌, ◌↔◌, map, reverse, length, take, drop, slice_index_or}
use mathlib.Core.List as L
use Rattle.sets.specs.Sets.{member, who}
use Rattle.sets.specs.declared.state_set.StateSet.{StateSet}
use Rattle.model.specs.Model.{Model}
use Rattle.logic.specs.Logic.{Formula, Holds, said, Ruled, Answer}
use Rattle.logic.specs.Logic as logic
use Rattle.logic.specs.declared.line.Line.{Line}
use Rattle.logic.specs.declared.line.Line.TheVariants.{True, Mark, Not, And, Or, Next, Always, Until}
use Rattle.logic.specs.declared.line.QuestionFault as fault

abbrev pub line_of : Line → logic.Line
line_of True = logic.True
line_of (Mark i) = logic.Mark i
line_of (Not a) = logic.Not a
line_of (And a b) = logic.And a b
line_of (Or a b) = logic.Or a b
line_of (Next c a) = logic.Next (who c) a
line_of (Always c a) = logic.Always (who c) a
line_of (Until c a b) = logic.Until (who c) a b

-- the question that some lines are, the newest first
unfoldable pub question : L.List Line → L.List logic.Line
question lines = reverse (map line_of lines)

-- the set x tells where f holds
abbrev pub Tells : Model → StateSet → Formula → Type 0
Tells M x f = (s : ℕ) → T (member x s) ↔ Holds M f s

-- the set at a place
abbrev pub set_at : L.List StateSet → ℕ → StateSet
set_at sets p = slice_index_or sets p (record { bits = 0 })

-- the first m sets tell where the formulas hold
abbrev pub TellAll : Model → L.List StateSet → ℕ → (ℕ → Formula) → Type 0
TellAll M sets m at = (p : ℕ) → p < m → Tells M (set_at sets p) (at p)

-- how many lines a question may have
abbrev pub most_lines : ℕ
most_lines = 4096

-- so many sets suffice for a question of so many lines
pub record Sized (lines : L.List Line) (room : ℕ) : Type 0 where
  pub some : 1 ≤ length lines
  pub few : length lines ≤ most_lines
  pub places : length lines ≤ room

-- a question to k agents that is answered in so many sets
pub record Accepted (k : ℕ) (lines : L.List Line) (room : ℕ) : Type 0 where
  pub sized : Sized lines room
  pub ruled : Ruled k (question lines)

-- when each refusal comes
abbrev pub Refused : ℕ → L.List Line → ℕ → fault.QuestionFault → Type 0
Refused k lines room fault.TheVariants.Length = (length lines ≡ 0) ⊎ (most_lines < length lines)
Refused k lines room fault.TheVariants.Sets = (1 ≤ length lines) × (length lines ≤ most_lines) × (room < length lines)
Refused k lines room (fault.TheVariants.Line p) =
    Sized lines room × (p < length lines) × Ruled k (question (take p lines)) × (Ruled k (question (take (p + 1) lines)) → ⊥)

-- the numbers of the refusals
abbrev pub fault_number : fault.QuestionFault → ℕ
fault_number fault.TheVariants.Length = 21
fault_number fault.TheVariants.Sets = 22
fault_number (fault.TheVariants.Line p) = 23

-- each line's set stands in the place of its number, and the other places are as before
pub record Answered (M : Model) (lines : L.List Line) (before after : L.List StateSet) (r : StateSet) : Type 0 where
  pub answer : (s : ℕ) → T (member r s) ↔ Answer M (question lines) s
  pub each : TellAll M after (length lines) (said (question lines))
  pub size : length after ≡ length before
  pub rest : drop (length lines) after ≡ drop (length lines) before
