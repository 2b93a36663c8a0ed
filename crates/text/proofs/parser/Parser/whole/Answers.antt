use Rattle.std.proofs.Common.{take, ap, ◌∙◌}
use Rattle.std.proofs.lemmas.Result.{MatchResult-weaker}
use Rattle.logic.specs.Lines.{flatten}
use Rattle.logic.specs.Questions.{question}
use Rattle.logic.proofs.Asking.{question_none}
use Rattle.list.proofs.Exits.{at_exit}
use Rattle.text.proofs.Wholes.{in_state, after_state, whole_state}
use Rattle.text.proofs.parser.Parser.whole.Goals as goal

pub returns-in_err-state : goal.returns-in_err-state
returns-in_err-state c = at_exit _ _ c.from_residual.result _ c.from_residual.ensures.1 (in_state c.requires.start c.in_err-state.ensures)

pub returns : goal.returns
returns c =
    let h = c.in_ok-state.ensures in
    let lines = h.lines ∙ ap (λ n. flatten h.formula (question (take n c.args.self.now.lines.places.now))) c.requires.empty ∙ ap (flatten h.formula) question_none in
    MatchResult-weaker c.due.result c.due.ensures.cases (λ x l. (h.formula, whole_state c.requires.start h l, lines)) (λ f e. after_state f c.requires.start h e.0 e.1)
