use Rattle.std.proofs.Common.{◌≡◌, None, rules}
use Rattle.list.proofs.Exits.{at_exit}
use Rattle.text.proofs.cursor.Cursor.read.Goals as goal

pub returns-in_err-token-clause-cases : goal.returns-in_err-token-clause-cases
returns-in_err-token-clause-cases c =
    let none : c.sign.result ≡ None = search rules in
    at_exit _ _ c.from_residual.result _ c.from_residual.ensures.1 (search rules)
