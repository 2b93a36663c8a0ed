use Rattle.std.proofs.Common.{[], ◌∷◌, subst, ◌∙◌}
use Rattle.std.proofs.lemmas.Result.{MatchResult-weaker}
use Rattle.grammar.specs.Tokens.{Tok}
use Rattle.text.specs.Cursors.{Takes}
use Rattle.text.proofs.Exits.{miss_less}
use Rattle.text.proofs.cursor.Cursor.due.Goals as goal

pub returns-clause-cases : goal.returns-clause-cases
returns-clause-cases c =
    MatchResult-weaker c.wanted.result c.wanted.ensures.cases
    (λ x w. subst (λ (k : Tok). Takes c.args.self.now (k ∷ []) c.wanted.new.self) w.1.1 w.2)
    (λ f e. (e.0, miss_less (λ k w t same none. none.1 (same ∙ w)) e.1))
