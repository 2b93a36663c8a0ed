use Rattle.std.proofs.Common.{◌≡◌, ℕ, ◌^◌, ◌<◌, List, [], ◌∷◌, ◌++◌, sym, refl, ap, ◌∙◌, subst}
use Rattle.sets.specs.Sets.{who}
use Rattle.grammar.specs.Tokens.{Tok, t_less, t_agents, t_greater, Lexes, number}
use Rattle.grammar.specs.Grammar.{members}
use Rattle.grammar.specs.Parts.{Miss}
use Rattle.grammar.proofs.Dues.{missed, Grouped, only_group, due-group, only_greater, due_greater, no_agent, members_some}
use Rattle.text.specs.declared.fault.TextRule.TheVariants as rule
use Rattle.text.specs.Shown.{shown}
use Rattle.text.specs.Vocabularies.{terms_of}
use Rattle.text.proofs.Digits.{number_some}
use Rattle.grammar.proofs.Frames.{lexes_more}
use Rattle.list.proofs.Exits.{at_exit}
use Rattle.text.proofs.Exits.{ruled, astray, tok_is, lex_one}
use Rattle.text.proofs.Sights.{seen}
use Rattle.text.proofs.cursor.Cursor.members.Goals as goal
use Rattle.text.proofs.cursor.Cursor.members.Goals.{After-undue}

pub returns-in_err-read-clause-cases : goal.returns-in_err-read-clause-cases
returns-in_err-read-clause-cases c = at_exit _ _ c.from_residual.result _ c.from_residual.ensures.1 (λ d.
    let V = terms_of c.args.terms.now in
    let e = c.in_err-read.ensures.cases in
    astray _ [] (t_less ∷ []) refl e.0 refl t_greater (due-group V d) (only_group V d) (Miss.strange e.1))

pub returns-in_err-members-in-Agents-clause-cases : goal.returns-in_err-members-in-Agents-clause-cases
returns-in_err-members-in-Agents-clause-cases c = at_exit _ _ c.from_residual-in_err-members-in-Agents.result _ c.from_residual-in_err-members-in-Agents.ensures.1 (λ d.
    let at = tok_is c.in_ok-read.ensures.cases c.in-Agents.is in
    let e = c.in_err-members-in-Agents.ensures in
    ruled _ rule.Agent e.0 e.1 (no_agent d _ _ at.0 (number_some _ at.1.0) e.2))

pub returns-in_err-due-in-Agents-clause-cases : goal.returns-in_err-due-in-Agents-clause-cases
returns-in_err-due-in-Agents-clause-cases c = at_exit _ _ c.from_residual-in_err-due-in-Agents.result _ c.from_residual-in_err-due-in-Agents.ensures.1 (λ d.
    let V = terms_of c.args.terms.now in
    let at = tok_is c.in_ok-read.ensures.cases c.in-Agents.is in
    let A = number c.in-Agents.digits.now in
    let m = c.in_ok-members-in-Agents.ensures in
    let e = c.in_err-due-in-Agents.ensures.cases in
    astray _ (t_agents A ∷ []) (t_less ∷ t_agents A ∷ []) refl e.0 (lex_one at.0) t_greater (due_greater V d A (number_some _ at.1.0) (subst (λ (n : ℕ). n < 2 ^ V.agents) m.0 m.1)) (only_greater V d A)
    (rw c.in_ok-read.ensures.onward.text at e.1))

pub returns-in_ok-due-in-Agents-clause-cases : goal.returns-in_ok-due-in-Agents-clause-cases
returns-in_ok-due-in-Agents-clause-cases c =
    let at = tok_is c.in_ok-read.ensures.cases c.in-Agents.is in
    let m = c.in_ok-members-in-Agents.ensures in
    let A = number c.in-Agents.digits.now in
    let text = c.args.self.now.text.now in
    let end = rw c.in_ok-read.ensures.onward.text at c.in_ok-due-in-Agents.ensures.cases in
    let l = lexes_more text c.args.self.now.at c.read.new.self.at c.due.new.self.at (t_agents A ∷ []) (t_greater ∷ []) (lex_one at.0) end in
    let same : t_agents A ∷ [] ≡ members (who c.in_ok-members-in-Agents.members) = sym (ap members m.0 ∙ members_some A (number_some _ at.1.0)) in
    (m.1, subst (λ (ts : List Tok). Lexes text c.args.self.now.at (ts ++ (t_greater ∷ [])) c.due.new.self.at) same l)

grouped-not : (c : After-undue) (k : Tok) → shown c.in_ok-read.read.token ≡ k → Grouped k → ⊥
grouped-not c k e (Grouped.agents A i) = let h = seen _ (e ∙ i) in c.in_default.not-Agents h.0 h.1
grouped-not c k e (Grouped.greater i) = c.in_default.not-Greater (seen _ (e ∙ i))

pub returns-in_default-clause-cases : goal.returns-in_default-clause-cases
returns-in_default-clause-cases c d =
    let V = terms_of c.args.terms.now in
    ruled _ rule.Token c.undue.ensures.rule c.undue.ensures.place
    (missed c.args.self.now.at (t_less ∷ []) [] refl t_greater (due-group V d) (only_group V d) (Miss.other _ _ c.in_ok-read.ensures.cases.0 (grouped-not c _ refl)))
