use Rattle.std.proofs.Common.{ℕ, ◌≤◌, length, refl, ap, ◌∙◌, subst, arith, length-take, Result, Ok, Err, IsOk, MatchResult}
use Rattle.std.proofs.lemmas.Result.{MatchResult-at_ok}
use Rattle.list.proofs.Exits.{at_exit}
use Rattle.model.specs.Tables.{model_of}
use Rattle.legend.specs.Legends.{names_of}
use Rattle.logic.specs.Questions.{question}
use Rattle.grammar.specs.Grammar.{vocabulary}
use Rattle.text.specs.Parsing as parsing
use Rattle.report.proofs.Answering.{parsed_accepts, never_refused, answered}
use Rattle.report.proofs.question.answer.Goals as goal

pub returns-in_err-parse : goal.returns-in_err-parse
returns-in_err-parse c =
    let f = c.in_err-parse.field-0.0 in
    at_exit _ _ c.from_residual-in_err-parse.result _ c.from_residual-in_err-parse.ensures.1 (
      omega arith,
      (
        record { short = omega arith; model = _; names = _; text = _; reads = c.in_ok-text.ensures },
        subst (λ (k : ℕ). parsing.Refuses (vocabulary (names_of c.read.new.legend) k) c.in_ok-text.text.now 4096 f.rule f.place) c.agents.ensures
            (subst (λ (n : ℕ). parsing.Refuses (vocabulary (names_of c.read.new.legend) c.agents.result) c.in_ok-text.text.now n f.rule f.place) (ap length c.empty-lines.ensures.places)
            c.in_err-parse.ensures.0),
      ),
    )

never_err : {X Y : Type 0} (r : Result X Y) (P : X → Type 0) (Q : Y → Type 0) → MatchResult r P Q → ((y : Y) → Q y → ⊥) → IsOk r
never_err (Ok x) P Q m n = refl
never_err (Err y) P Q m n = absurd (n y m)

pub unwrap-requires : goal.unwrap-requires
unwrap-requires c =
    let l = c.read.new.legend in
    let p = c.in_ok-parse.ensures in
    let few : length c.items.result.now ≤ 4096 =
    omega (arith, ap length c.items.ensures, length-take c.parse.new.lines.count c.parse.new.lines.places.now, p.filled.size, ap length c.empty-lines.ensures.places) in
    never_err c.evaluate.result _ _ c.evaluate.ensures (λ e refused. never_refused (model_of c.read.new.table) l p.formula (parsed_accepts l c.agents.ensures p).spelled.over c.items.result.now
    (ap question c.items.ensures ∙ p.lines) 4096 few few e refused.0)

pub returns : goal.returns
returns c =
    let l = c.read.new.legend in
    let p = c.in_ok-parse.ensures in
    let a = parsed_accepts l c.agents.ensures p in
    record {
      asks = record { short = omega arith; model = _; names = _; text = _; reads = c.in_ok-text.ensures };
      formula = p.formula;
      few = p.short;
      spells = a;
      holds = answered (model_of c.read.new.table) l p.formula a.spelled.over c.items.result.now
          (ap question c.items.ensures ∙ p.lines) c.unwrap.result (MatchResult-at_ok _ _ c.unwrap.result c.unwrap.ensures c.evaluate.ensures).1.answer;
    }
