-- The numbers of the refusals of a file.
use Rattle.std.specs.Prelude.{ℕ, List}
use Rattle.file.specs.Reading.{Refused}
use Rattle.refusal.specs.declared.Fault.{Fault}
use Rattle.reader.specs.declared.fault.FileRule.{FileRule}
use Rattle.reader.specs.declared.fault.FileRule.TheVariants.{Short, Due, Begin, Name, Mark, Count, Out, End}

-- a rule at a place
abbrev pub FileFault : Type 0
FileFault = Fault FileRule

abbrev pub rule_number : FileRule → ℕ
rule_number Short = 1
rule_number Due = 2
rule_number Begin = 3
rule_number Name = 4
rule_number Mark = 5
rule_number Count = 6
rule_number Out = 7
rule_number End = 8

-- the input is refused by this fault's rule, at its place
abbrev pub Refuses : List ℕ → FileFault → Type 0
Refuses input f = Refused input (rule_number f.rule) f.place
