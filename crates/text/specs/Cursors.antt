-- What reading tokens does to a cursor.
use Rattle.std.specs.Prelude.{◌≡◌, ◌≤◌, List}
use Rattle.grammar.specs.Tokens.{Tok, Lexes}
use Rattle.grammar.specs.Parts.{Miss}
use Rattle.text.specs.declared.cursor.Cursor.{Cursor}
use Rattle.text.specs.Faults.{TextFault}
use Rattle.text.specs.declared.fault.TextRule.TheVariants as rule

-- on in the same text
pub record Onward (c d : Cursor) : Type 0 where
  pub text : d.text ≡ c.text
  pub ordered : c.at ≤ d.at

-- the tokens from c to d are ts
abbrev pub Takes : Cursor → List Tok → Cursor → Type 0
Takes c ts d = Lexes c.text.now c.at ts d.at

-- from c on there is no token that is wanted, and the fault says so
abbrev pub Lacks : Cursor → (Tok → Type 0) → TextFault → Type 0
Lacks c Wanted f = (f.rule ≡ rule.Token) × Miss c.text.now c.at Wanted f.place
