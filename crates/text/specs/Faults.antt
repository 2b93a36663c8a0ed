-- The numbers of the refusals of a text.
use Rattle.std.specs.Prelude.{ℕ}
use Rattle.refusal.specs.declared.Fault.{Fault}
use Rattle.text.specs.declared.fault.TextRule.{TextRule}
use Rattle.text.specs.declared.fault.TextRule.TheVariants.{Token, Name, Agent, Depth, Length, Places}

-- a rule at a place
abbrev pub TextFault : Type 0
TextFault = Fault TextRule

abbrev pub rule_number : TextRule → ℕ
rule_number Token = 11
rule_number Name = 12
rule_number Agent = 13
rule_number Depth = 14
rule_number Length = 15
rule_number Places = 16
