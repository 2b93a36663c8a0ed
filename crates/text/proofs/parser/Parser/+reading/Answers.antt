use Rattle.std.proofs.Common.{◌≡◌, ℕ, suc, ◌-◌, List, [], ◌∷◌, ◌++◌, sym, refl, ap, ◌∙◌, append-nil, arith}
use Rattle.std.proofs.lemmas.Result.{MatchResult-weaker}
use Rattle.sets.specs.Sets.{who}
use Rattle.logic.specs.Logic.{verum, mark, neg, until}
use Rattle.logic.specs.Logic as logic
use Rattle.grammar.specs.Tokens.{Tok, t_true, t_name, t_not, t_and, t_open, t_close, t_less, t_greater, t_next, t_until}
use Rattle.grammar.specs.Grammar.{members, group, print, joined_by, joint_tok, ahead_by, ahead_tok}
use Rattle.grammar.specs.Parts.{Miss}
use Rattle.grammar.proofs.Prints.{group_more, print_joined, print_ahead}
use Rattle.grammar.proofs.Frames.{lift, frame_not, frame_left, frame_right, frame_ahead, frame_first, frame_second}
use Rattle.grammar.proofs.Dues.{
  Starts,
  only_start,
  due_start,
  only_joint,
  due-joint,
  only_close,
  due_close,
  only_path,
  due_path,
  only_until,
  due_until,
  only_last,
  due_last,
  too_deep,
  no_mark,
}
use Rattle.text.specs.declared.fault.TextRule.TheVariants as rule
use Rattle.text.specs.Shown.{shown}
use Rattle.text.specs.Vocabularies.{terms_of}
use Rattle.text.specs.Readings.{joint_line, ahead_line}
use Rattle.list.proofs.Exits.{at_exit}
use Rattle.text.proofs.Exits.{another, ruled, tok_is}
use Rattle.text.proofs.Operators.{ahead_real, lead_is, over_joined, over_ahead, flat_joined, flat_ahead, no_lead, stated_at, faulty_at, parted_told, faulty_told}
use Rattle.text.proofs.Sights.{seen}
use Rattle.text.proofs.Steps.{moves, moves_token, reads_none, reads_more, reads_state, reads_two, wrong_after, wrong_part, stray, parted_before, leaf, stated, one, two}
use Rattle.text.proofs.parser.Parser.+reading.Goals as goal
use Rattle.text.proofs.parser.Parser.+reading.Goals.{line-After-undue}

pub line-returns-in_err-read : goal.line-returns-in_err-read
line-returns-in_err-read t c =
    let p = c.args.self.now in
    let V = terms_of p.terms in
    let e = c.in_err-read.ensures.cases in
    at_exit _ _ c.from_residual.result _ c.from_residual.ensures.1
    (stray _ [] [] refl e.0 (reads_none p) t_true (due_start V c.args.allow) (only_start V c.args.allow) (Miss.strange e.1))

pub line-returns-in_err-mark-in-Name : goal.line-returns-in_err-mark-in-Name
line-returns-in_err-mark-in-Name t c =
    let at = tok_is c.in_ok-read.ensures.cases c.in-Name.is in
    let e = c.in_err-mark-in-Name.ensures in
    at_exit _ _ c.from_residual-in_err-mark-in-Name.result _ c.from_residual-in_err-mark-in-Name.ensures.1
    (record { wrong = ruled _ rule.Name e.0 e.1 (no_mark c.args.allow _ _ at.0 e.2) })

pub line-returns-in_err-state-in-Not : goal.line-returns-in_err-state-in-Not
line-returns-in_err-state-in-Not t c =
    let V = terms_of c.args.self.now.terms in
    at_exit _ _ c.from_residual-in_err-state-in-Not.result _ c.from_residual-in_err-state-in-Not.ensures.1
    (wrong_part [] (t_not ∷ []) refl c.in_err-state-in-Not.ensures (moves_token c.in_ok-read.ensures.onward c.in_ok-read.ensures.cases c.in-Not.is refl refl).reads (frame_not V c.args.allow))

pub line-returns-in-True : goal.line-returns-in-True
line-returns-in-True t c =
    leaf verum t_true (λ e. cc) tt refl refl (moves_token c.in_ok-read.ensures.onward c.in_ok-read.ensures.cases c.in-True.is refl refl)

pub line-returns-in_ok-mark-in-Name : goal.line-returns-in_ok-mark-in-Name
line-returns-in_ok-mark-in-Name t c =
    let m = c.in_ok-mark-in-Name.ensures in
    leaf (mark c.in_ok-mark-in-Name.field-0) _ (λ e. cc) m.0 (ap (λ (w : List ℕ). t_name w ∷ []) m.1) refl (moves_token c.in_ok-read.ensures.onward c.in_ok-read.ensures.cases c.in-Name.is refl refl)

pub line-returns-in_ok-state-in-Not : goal.line-returns-in_ok-state-in-Not
line-returns-in_ok-state-in-Not t c =
    one [] t_not neg logic.Not (λ e. cc) (λ f o. o) (λ f. refl) (λ f q. refl) c.in_ok-state-in-Not.ensures (moves_token c.in_ok-read.ensures.onward c.in_ok-read.ensures.cases c.in-Not.is refl refl) refl

pub line-returns-in-Open : goal.line-returns-in-Open
line-returns-in-Open t c =
    MatchResult-weaker c.pair.result c.pair.ensures
    (λ made h. parted_before [] (t_open ∷ []) h (moves_token c.in_ok-read.ensures.onward c.in_ok-read.ensures.cases c.in-Open.is refl refl))
    (λ f w. wrong_after [] (t_open ∷ []) w (moves_token c.in_ok-read.ensures.onward c.in_ok-read.ensures.cases c.in-Open.is refl refl).reads)

pub line-returns-in-Less : goal.line-returns-in-Less
line-returns-in-Less t c =
    MatchResult-weaker c.strategy.result c.strategy.ensures
    (λ made h. parted_before [] (t_less ∷ []) h (moves_token c.in_ok-read.ensures.onward c.in_ok-read.ensures.cases c.in-Less.is refl refl))
    (λ f w. wrong_after [] (t_less ∷ []) w (moves_token c.in_ok-read.ensures.onward c.in_ok-read.ensures.cases c.in-Less.is refl refl).reads)

starts-not : (t : ℕ) (c : line-After-undue t) (k : Tok) → shown c.in_ok-read.read.token ≡ k → Starts k → ⊥
starts-not t c k e (Starts.true i) = c.in_default.not-True (seen _ (e ∙ i))
starts-not t c k e (Starts.name w i) = let h = seen _ (e ∙ i) in c.in_default.not-Name h.0 h.1
starts-not t c k e (Starts.not i) = c.in_default.not-Not (seen _ (e ∙ i))
starts-not t c k e (Starts.opens i) = c.in_default.not-Open (seen _ (e ∙ i))
starts-not t c k e (Starts.less i) = c.in_default.not-Less (seen _ (e ∙ i))

pub line-returns-in_default : goal.line-returns-in_default
line-returns-in_default t c =
    let p = c.args.self.now in
    let V = terms_of p.terms in
    stray c.undue.result [] [] refl c.undue.ensures.rule (reads_none p) t_true (due_start V c.args.allow) (only_start V c.args.allow)
    (another c.undue.ensures.place c.in_ok-read.ensures.cases.0 (starts-not t c _ refl))

pub pair-returns-in_err-left : goal.pair-returns-in_err-left
pair-returns-in_err-left t c =
    let V = terms_of c.args.self.now.terms in
    at_exit _ _ c.from_residual.result _ c.from_residual.ensures.1
    (record { wrong = lift (frame_left V c.args.allow) c.in_err-left.ensures.wrong })

pub pair-returns-in_err-joint : goal.pair-returns-in_err-joint
pair-returns-in_err-joint t c =
    let V = terms_of c.args.self.now.terms in
    let h = c.in_ok-left.ensures in
    let f = h.formula in
    let e = c.in_err-joint.ensures.cases in
    at_exit _ _ c.from_residual-in_err-joint.result _ c.from_residual-in_err-joint.ensures.1
    (stray _ (t_open ∷ []) (print V.word c.args.allow f) refl e.0 (reads_state h) t_and (due-joint V c.args.allow f h.ends.over) (only_joint V c.args.allow f) e.1)

pub pair-returns-in_err-right : goal.pair-returns-in_err-right
pair-returns-in_err-right t c =
    let V = terms_of c.args.self.now.terms in
    let d = c.args.allow in
    let h = c.in_ok-left.ensures in
    let f = h.formula in
    let j = c.in_ok-joint.joint in
    let op = c.in_ok-joint.ensures in
    at_exit _ _ c.from_residual-in_err-right.result _ c.from_residual-in_err-right.ensures.1
    (wrong_part (t_open ∷ []) (print V.word d f ++ (joint_tok j ∷ [])) refl c.in_err-right.ensures (reads_more (reads_state h) (moves op.onward refl refl op.cases).reads) (frame_right V d j f h.ends.over))

pub pair-returns-in_err-due : goal.pair-returns-in_err-due
pair-returns-in_err-due t c =
    let V = terms_of c.args.self.now.terms in
    let d = c.args.allow in
    let h = c.in_ok-left.ensures in
    let k = c.in_ok-right.ensures in
    let j = c.in_ok-joint.joint in
    let op = c.in_ok-joint.ensures in
    let e = c.in_err-due.ensures.cases in
    let r = reads_two {j = joint_tok j} h k (moves op.onward refl refl op.cases) in
    at_exit _ _ c.from_residual-in_err-due.result _ c.from_residual-in_err-due.ensures.1
    (stray _ (t_open ∷ []) _ refl e.0 r.1 t_close (due_close V d j h.formula k.formula h.ends.over r.0) (only_close V d j h.formula k.formula) e.1)

pub pair-returns : goal.pair-returns
pair-returns t c =
    let V = terms_of c.args.self.now.terms in
    let j = c.in_ok-joint.joint in
    let op = c.in_ok-joint.ensures in
    let end = c.in_ok-due.ensures in
    two (t_open ∷ []) (joint_tok j) (joined_by j) (joint_line j) (over_joined V j) (print_joined V.word c.args.allow j) (flat_joined j)
    c.in_ok-left.ensures c.in_ok-right.ensures (moves op.onward refl refl op.cases) (moves end.onward refl refl end.cases) c.join_line.ensures

pub state-returns-then-allow-eq0 : goal.state-returns-then-allow-eq0
state-returns-then-allow-eq0 t c = faulty_at {d = 0} (omega (arith, c.if-allow-eq0.true)) (record { wrong = rw (c.at.ensures.0, c.at.ensures.1) (too_deep c.past_blanks.ensures) })

pub state-returns : goal.state-returns
state-returns t c =
    let deeper : suc (c.args.allow - 1) ≡ c.args.allow = omega arith in
    let put = c.put.ensures in
    stated_at deeper (stated c.put.result c.in_ok-line.ensures put.cursor put.terms put.line put.added)

pub strategy-returns-in_err-members : goal.strategy-returns-in_err-members
strategy-returns-in_err-members t c =
    at_exit _ _ c.from_residual.result _ c.from_residual.ensures.1 (record { wrong = c.in_err-members.ensures.cases c.args.allow })

pub strategy-returns : goal.strategy-returns
strategy-returns t c =
    let g = c.in_ok-members.ensures in
    let us = members (who c.in_ok-members.members) ++ (t_greater ∷ []) in
    MatchResult-weaker c.path.result c.path.ensures
    (λ made h. parted_before (t_less ∷ []) us h (moves g.onward refl refl g.cases.1))
    (λ f w. wrong_after (t_less ∷ []) us w (moves g.onward refl refl g.cases.1).reads)

pub path-returns-in_err-ahead : goal.path-returns-in_err-ahead
path-returns-in_err-ahead t c =
    let p = c.args.self.now in
    let V = terms_of p.terms in
    let A = who c.args.agents in
    let e = c.in_err-ahead.ensures.cases in
    at_exit _ _ c.from_residual.result _ c.from_residual.ensures.1
    (stray _ (group A []) [] (append-nil (group A [])) e.0 (reads_none p) t_next (due_path V c.args.allow A c.requires) (only_path V c.args.allow A) (no_lead e.1))

pub path-returns-in_err-state-in-Some : goal.path-returns-in_err-state-in-Some
path-returns-in_err-state-in-Some t c =
    let p = c.args.self.now in
    let A = who c.args.agents in
    let h = c.in-Some.ahead in
    let first = c.in_ok-ahead.ensures in
    let l = lead_is c.in-Some.is first.cases in
    at_exit _ _ c.from_residual-in_err-state-in-Some.result _ c.from_residual-in_err-state-in-Some.ensures.1
    (wrong_part (group A []) (ahead_tok h ∷ []) (group_more A [] (ahead_tok h ∷ [])) c.in_err-state-in-Some.ensures (moves first.onward refl refl l).reads (frame_ahead (terms_of p.terms) c.args.allow A c.requires h))

pub path-returns-in_ok-state-in-Some : goal.path-returns-in_ok-state-in-Some
path-returns-in_ok-state-in-Some t c =
    let p = c.args.self.now in
    let V = terms_of p.terms in
    let A = who c.args.agents in
    let h = c.in-Some.ahead in
    let first = c.in_ok-ahead.ensures in
    let l = lead_is c.in-Some.is first.cases in
    one (group A []) (ahead_tok h) (ahead_by h A) (ahead_line h A) (ahead_real h) (over_ahead V h A c.requires) (λ f. print_ahead V.word c.args.allow h A f ∙ sym (group_more A [] _)) (flat_ahead h A)
    c.in_ok-state-in-Some.ensures (moves first.onward refl refl l) c.path_line.ensures

pub path-returns-in-None : goal.path-returns-in-None
path-returns-in-None t c =
    let p = c.args.self.now in
    let A = who c.args.agents in
    let first = c.in_ok-ahead.ensures in
    let same = group_more A [] (t_open ∷ []) in
    let l = lead_is c.in-None.is first.cases in
    MatchResult-weaker c.until.result c.until.ensures
    (λ made h. parted_before (group A []) (t_open ∷ []) (parted_told (sym same) h) (moves first.onward refl refl l))
    (λ f w. wrong_after (group A []) (t_open ∷ []) (faulty_told (sym same) w) (moves first.onward refl refl l).reads)

pub until-returns-in_err-left : goal.until-returns-in_err-left
until-returns-in_err-left t c =
    at_exit _ _ c.from_residual.result _ c.from_residual.ensures.1
    (record { wrong = lift (frame_first (terms_of c.args.self.now.terms) c.args.allow (who c.args.agents) c.requires) c.in_err-left.ensures.wrong })

pub until-returns-in_err-due : goal.until-returns-in_err-due
until-returns-in_err-due t c =
    let V = terms_of c.args.self.now.terms in
    let A = who c.args.agents in
    let d = c.args.allow in
    let h = c.in_ok-left.ensures in
    let f = h.formula in
    let e = c.in_err-due.ensures.cases in
    at_exit _ _ c.from_residual-in_err-due.result _ c.from_residual-in_err-due.ensures.1
    (stray _ (group A (t_open ∷ [])) (print V.word d f) (group_more A (t_open ∷ []) (print V.word d f)) e.0 (reads_state h) t_until (due_until V d A f c.requires h.ends.over) (only_until V d A f) e.1)

pub until-returns-in_err-right : goal.until-returns-in_err-right
until-returns-in_err-right t c =
    let V = terms_of c.args.self.now.terms in
    let A = who c.args.agents in
    let d = c.args.allow in
    let h = c.in_ok-left.ensures in
    let f = h.formula in
    let op = c.in_ok-due.ensures in
    at_exit _ _ c.from_residual-in_err-right.result _ c.from_residual-in_err-right.ensures.1
    (wrong_part (group A (t_open ∷ [])) (print V.word d f ++ (t_until ∷ [])) (group_more A (t_open ∷ []) _) c.in_err-right.ensures (reads_more (reads_state h) (moves op.onward refl refl op.cases).reads)
    (frame_second V d A c.requires f h.ends.over))

pub until-returns-in_err-due-2 : goal.until-returns-in_err-due-2
until-returns-in_err-due-2 t c =
    let V = terms_of c.args.self.now.terms in
    let A = who c.args.agents in
    let d = c.args.allow in
    let h = c.in_ok-left.ensures in
    let k = c.in_ok-right.ensures in
    let op = c.in_ok-due.ensures in
    let e = c.in_err-due-2.ensures.cases in
    let r = reads_two {j = t_until} h k (moves op.onward refl refl op.cases) in
    at_exit _ _ c.from_residual-in_err-due-2.result _ c.from_residual-in_err-due-2.ensures.1
    (stray _ (group A (t_open ∷ [])) _ (group_more A (t_open ∷ []) _) e.0 r.1 t_close (due_last V d A h.formula k.formula c.requires h.ends.over r.0) (only_last V d A h.formula k.formula) e.1)

pub until-returns : goal.until-returns
until-returns t c =
    let A = who c.args.agents in
    let op = c.in_ok-due.ensures in
    let end = c.in_ok-due-2.ensures in
    two (group A (t_open ∷ [])) t_until (until A) (logic.Until A) (λ f g a b. (c.requires, a, b)) (λ f g. sym (group_more A (t_open ∷ []) _)) (λ f g q. refl)
    c.in_ok-left.ensures c.in_ok-right.ensures (moves op.onward refl refl op.cases) (moves end.onward refl refl end.cases) refl
