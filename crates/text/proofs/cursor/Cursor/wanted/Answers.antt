use Rattle.std.proofs.Common.{[], ◌∷◌, Some, MatchResult, sym, subst}
use Rattle.text.specs.declared.token.Token.{Token}
use Rattle.text.specs.Cursors.{Takes, Lacks}
use Rattle.text.specs.Shown.{shown, Passing}
use Rattle.text.proofs.Exits.{made_or_fault}
use Rattle.text.proofs.cursor.Cursor.wanted.Goals as goal

pub returns-clause-cases : goal.returns-clause-cases
returns-clause-cases g c =
    subst (λ r. MatchResult r (λ x. (t : Token) × goal.F-post g c.args.test t (Some x) × Takes c.args.self.now (shown t ∷ []) c.read.new.self) (λ f. Lacks c.args.self.now (Passing (λ t r. goal.F-post g c.args.test t r)) f)) (sym c.ok_or.ensures.value)
    (made_or_fault c.args.self.now c.read.new.self (λ t r. goal.F-post g c.args.test t r) c.in_ok-read.read.token c.test.result c.undue.result c.test.ensures c.in_ok-read.ensures.cases.0 c.undue.ensures.rule c.undue.ensures.place)
