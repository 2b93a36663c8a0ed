use Rattle.std.proofs.Common.{rules}
use Rattle.grammar.specs.Tokens.{Digit}
use Rattle.text.proofs.Passing.{run_of}
use Rattle.text.proofs.cursor.Cursor.past_digits.Goals as goal

pub returns : goal.returns
returns c = run_of {P = Digit} (λ b r h. search rules) c.run.ensures
