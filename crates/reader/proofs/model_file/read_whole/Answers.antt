use Rattle.std.proofs.Common.{◌≡◌, ℕ, ◌<◌, List, ◌++◌, ap, get_or, length, Option, Some, None, MatchOption, IsSome, refl, sym, ◌∙◌, subst, arith, length-take-le}
use Rattle.std.proofs.lemmas.Option.{MatchOption-at_some}
use Rattle.std.proofs.lemmas.Result.{err_from_is_err_and}
use Rattle.model.specs.Model.{Ranged, Same}
use Rattle.model.specs.Kinds.{nowhere, table_of}
use Rattle.model.specs.Tables.{model_of}
use Rattle.legend.specs.Legends.{names_of}
use Rattle.model.specs.declared.state.State.{State}
use Rattle.file.specs.File.{Command, upto}
use Rattle.reader.specs.Bodies.{row_commands}
use Rattle.reader.specs.declared.header.Header.{Header}
use Rattle.reader.specs.Heads.{Kept, body_seen}
use Rattle.reader.specs.Sofar.{Sofar, named, opening}
use Rattle.reader.proofs.Going.{sofar_start}
use Rattle.reader.proofs.Judging.{accepts, rejects}
use Rattle.reader.proofs.Rowing.{body_naming}
use Rattle.reader.proofs.Whole.{whole_file, whole_ranged}
use Rattle.reader.proofs.model_file.read_whole.Goals as goal

given : {A R : Type 0} (Q : A → Type 0) (o : Option A) → R → MatchOption o (R → ⊥) Q → IsSome o
given Q None r never = absurd (never r)
given Q (Some x) r q = refl

-- what the states' reading tells, in words of the header as BEGIN had it
states_read : (g h : Header) → g ≡ h → {input rest rest' : List ℕ} {place place' : ℕ} (names : List (List ℕ)) (law : Type 0) (xs : List State) (total : ℕ) →
    ((cs : List Command) (ns : List (List ℕ)) → length ns ≡ g.marks → Sofar input rest place cs (body_seen g ns 0 0) → Sofar input rest' place' (cs ++ upto (row_commands g.agents xs) g.states) (body_seen g ns g.states total)) →
    Sofar input rest place (opening h names) (named h names) × (length names ≡ h.marks) × law →
    Sofar input rest' place' (opening h names ++ upto (row_commands h.agents xs) h.states) (body_seen h names h.states total)
states_read g h same {input} {rest} {rest'} {place} {place'} names law xs total reads l =
    subst (λ (i : Header). Sofar input rest' place' (opening h names ++ upto (row_commands i.agents xs) i.states) (body_seen i names i.states total)) same
    (reads (opening h names) names (l.1 ∙ ap (λ (i : Header). i.marks) (sym same)) (subst (λ (i : Header). Sofar input rest place (opening h names) (body_seen i names 0 0)) (sym same) l.0))

pub returns-in_err-header : goal.returns-in_err-header
returns-in_err-header c =
    let p = err_from_is_err_and c.from_residual.result c.from_residual.ensures.1 in
    rw (p.1, p.2) (rejects (c.in_err-header.ensures c.args.input.now (sofar_start c.new-cursor.ensures)))

pub returns-in_err-legend : goal.returns-in_err-legend
returns-in_err-legend c =
    let input = c.args.input.now in
    let h = c.in_ok-header.ensures input (sofar_start c.new-cursor.ensures) in
    let p = err_from_is_err_and c.from_residual-in_err-legend.result c.from_residual-in_err-legend.ensures.1 in
    rw (p.1, p.2) (rejects (c.in_err-legend.ensures.reads input h))

pub returns-in_err-total : goal.returns-in_err-total
returns-in_err-total c =
    let input = c.args.input.now in
    let h = c.in_ok-header.ensures input (sofar_start c.new-cursor.ensures) in
    let l = c.in_ok-legend.ensures.reads input h in
    let same = c.in_ok-legend.ensures.header in
    let names = names_of c.in_ok-legend.legend in
    let p = err_from_is_err_and c.from_residual-in_err-total.result c.from_residual-in_err-total.ensures.1 in
    rw (p.1, p.2) (rejects (c.in_err-total.ensures.reads input _ names (l.1 ∙ ap (λ (g : Header). g.marks) (sym same)) (subst (λ (g : Header). Sofar input c.read_names.new.self.cursor.rest.now c.read_names.new.self.cursor.place (opening c.in_ok-header.header names) (named g names)) (sym same) l.0)))

pub returns-in_err-read_end : goal.returns-in_err-read_end
returns-in_err-read_end c =
    let input = c.args.input.now in
    let header = c.in_ok-header.header in
    let h = c.in_ok-header.ensures input (sofar_start c.new-cursor.ensures) in
    let l = c.in_ok-legend.ensures.reads input h in
    let same = c.in_ok-legend.ensures.header in
    let b = states_read _ _ same (names_of c.in_ok-legend.legend) _ _ _ (c.in_ok-total.ensures.reads input) l in
    let p = err_from_is_err_and c.from_residual-in_err-read_end.result c.from_residual-in_err-read_end.ensures.1 in
    rw (p.1, p.2) (rejects (c.in_err-read_end.ensures.reads input _ _ b (body_naming header (names_of c.in_ok-legend.legend) _ _ l.1) refl (omega arith) refl))

pub unwrap-requires : goal.unwrap-requires
unwrap-requires c =
    let input = c.args.input.now in
    let header = c.in_ok-header.header in
    let xs = c.read_states.new.states in
    let h = c.in_ok-header.ensures input (sofar_start c.new-cursor.ensures) in
    let l = c.in_ok-legend.ensures.reads input h in
    let same = c.in_ok-legend.ensures.header in
    let long : length xs ≡ header.states = c.read_states.auto.states ∙ length-take-le _ _ (omega (arith, header.states_ranged.1)) in
    given _ c.from_states.result (subst (λ (n : ℕ). Ranged (table_of n header.agents xs)) (sym long) (whole_ranged header (names_of c.in_ok-legend.legend) xs l.2 l.1 (subst (λ (g : Header). (t : ℕ) → t < g.states → Kept g (get_or xs t nowhere)) same c.in_ok-total.ensures.kept))) c.from_states.ensures

pub returns : goal.returns
returns c =
    let input = c.args.input.now in
    let header = c.in_ok-header.header in
    let names = names_of c.in_ok-legend.legend in
    let xs = c.read_states.new.states in
    let h = c.in_ok-header.ensures input (sofar_start c.new-cursor.ensures) in
    let l = c.in_ok-legend.ensures.reads input h in
    let same = c.in_ok-legend.ensures.header in
    let b = states_read _ _ same (names_of c.in_ok-legend.legend) _ _ _ (c.in_ok-total.ensures.reads input) l in
    let e = c.in_ok-read_end.ensures.reads input _ _ b (body_naming header names _ _ l.1) refl (omega arith) refl in
    let long : length xs ≡ header.states = c.read_states.auto.states ∙ length-take-le _ _ (omega (arith, header.states_ranged.1)) in
    let made = MatchOption-at_some _ _ c.unwrap.result c.unwrap.ensures c.from_states.ensures in
    accepts (whole_file header names xs l.2 l.1 (subst (λ (g : Header). (t : ℕ) → t < g.states → Kept g (get_or xs t nowhere)) same c.in_ok-total.ensures.kept) b e)
    (subst (λ (n : ℕ). Same (table_of n header.agents xs) (model_of c.unwrap.result)) long made.1)
