use Rattle.std.proofs.Common.{rules}
use Rattle.grammar.specs.Tokens.{Blank}
use Rattle.text.proofs.Passing.{run_of}
use Rattle.text.proofs.cursor.Cursor.past_blanks.Goals as goal

pub returns : goal.returns
returns c = run_of {P = Blank} (λ b r h. search rules) c.run.ensures
