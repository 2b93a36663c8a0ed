-- What asking answers.
use Rattle.std.specs.Prelude.{ℕ, ◌<◌, ◌≤◌, T, ◌↔◌, length}
use mathlib.Core.List as L
use Rattle.sets.specs.Sets.{Set}
use Rattle.list.specs.declared.List.{List}
use Rattle.list.specs.Lists.{Kept, Refilled}
use Rattle.model.specs.Model as model
use Rattle.logic.specs.Logic.{Formula, Holds}
use Rattle.reader.specs.Faults.{rule_number}
use Rattle.reader.specs.Whole as file
use Rattle.grammar.specs.Grammar.{vocabulary}
use Rattle.grammar.specs.Texts as grammar
use Rattle.text.specs.Sizes.{most_bytes}
use Rattle.text.specs.Parsing as text
use Rattle.report.specs.declared.fault.JobFault.{JobFault}
use Rattle.report.specs.declared.fault.JobFault.TheVariants.{Places, Length, Model, Question}
use Rattle.report.specs.Faults.{fault_number}
use Rattle.report.specs.Listings.{refused_line}

-- a listing needs so many places, and a job has no more bytes
abbrev pub least_places : ℕ
least_places = 512

abbrev pub longest_job : ℕ
longest_job = 16384

-- a job that can be read: the file of a model and names, and a question's text
pub record Asks (job : L.List ℕ) : Type 0 where
  pub short : length job ≤ longest_job
  pub model : model.Model
  pub names : L.List (L.List ℕ)
  pub text : L.List ℕ
  pub reads : file.Accepts job model names text

-- the question's text spells a formula, and X is where it holds
pub record Answers (job : L.List ℕ) (X : Set) : Type 0 where
  pub asks : Asks job
  pub formula : Formula
  pub few : length asks.text ≤ most_bytes
  pub spells : grammar.Accepts (vocabulary asks.names asks.model.k) asks.text formula
  pub holds : (s : ℕ) → T (X s) ↔ Holds asks.model formula s

-- when each refusal comes, with the lower fault whole; a list with so many places is handed in
abbrev pub Refuses : L.List ℕ → ℕ → JobFault → Type 0
Refuses job room Places = room < least_places
Refuses job room Length = (least_places ≤ room) × (longest_job < length job)
Refuses job room (Model f) = (least_places ≤ room) × (length job ≤ longest_job) × file.Rejects job (rule_number f.rule) f.place
Refuses job room (Question f) =
    (least_places ≤ room) × ((a : Asks job) × text.Refuses (vocabulary a.names a.model.k) a.text most_bytes f.rule f.place)

-- what it leaves: too few places stay as they are, else the list holds just the line of the refusal
abbrev pub Leaves : JobFault → List ℕ → List ℕ → Type 0
Leaves Places s t = Kept s t
Leaves fault s t = Refilled s t (refused_line (fault_number fault))
