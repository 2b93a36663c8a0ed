-- The codes of the kinds of commands.
use Rattle.std.specs.Prelude.{ℕ}
use Rattle.file.specs.declared.kind.Kind.{Kind}
use Rattle.file.specs.declared.kind.Kind.TheVariants.{Begin, Name, State, Out, End}

abbrev pub code_of : Kind → ℕ
code_of Begin = 1
code_of Name = 2
code_of State = 3
code_of Out = 4
code_of End = 5
