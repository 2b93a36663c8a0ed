-- What reading a whole text answers.
use Rattle.std.specs.Prelude.{◌≡◌, ℕ, ◌<◌, ◌≤◌, length}
use mathlib.Core.List as L
use Rattle.list.specs.declared.List.{List}
use Rattle.list.specs.Lists.{items, Refilled}
use Rattle.logic.specs.Logic.{Formula}
use Rattle.logic.specs.Lines.{flatten}
use Rattle.logic.specs.Questions.{question}
use Rattle.logic.specs.declared.line.Line.{Line}
use Rattle.grammar.specs.Grammar.{Vocabulary}
use Rattle.grammar.specs.Texts.{Accepts, Rejects}
use Rattle.text.specs.declared.fault.TextRule.{TextRule}
use Rattle.text.specs.declared.fault.TextRule.TheVariants.{Token, Name, Agent, Depth, Length, Places}
use Rattle.text.specs.Faults.{rule_number}
use Rattle.text.specs.Sizes.{most_bytes}

-- the text spells one formula, and the list holds just its lines
pub record Parsed (V : Vocabulary) (text : L.List ℕ) (s t : List Line) : Type 0 where
  pub short : length text ≤ most_bytes
  pub formula : Formula
  pub accepts : Accepts V text formula
  pub lines : question (items t) ≡ flatten formula L.[]
  pub filled : Refilled s t (items t)

-- when each refusal comes, and its place; so many places are handed in
abbrev pub Refuses : Vocabulary → L.List ℕ → ℕ → TextRule → ℕ → Type 0
Refuses V text room Token place = (length text ≤ most_bytes) × Rejects V text (rule_number Token) place
Refuses V text room Name place = (length text ≤ most_bytes) × Rejects V text (rule_number Name) place
Refuses V text room Agent place = (length text ≤ most_bytes) × Rejects V text (rule_number Agent) place
Refuses V text room Depth place = (length text ≤ most_bytes) × Rejects V text (rule_number Depth) place
Refuses V text room Length place = (most_bytes < length text) × (place ≡ 4096)
Refuses V text room Places place = (length text ≤ most_bytes) × (place ≡ 0) × ((f : Formula) × Accepts V text f × (room < length (flatten f L.[])))
