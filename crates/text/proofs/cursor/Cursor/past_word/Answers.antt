use Rattle.std.proofs.Common.{rules}
use Rattle.legend.specs.Names.{LetterOrDigit}
use Rattle.text.proofs.Passing.{run_of}
use Rattle.text.proofs.cursor.Cursor.past_word.Goals as goal

pub returns : goal.returns
returns c = run_of {P = LetterOrDigit} (λ b r h. search rules) c.run.ensures
