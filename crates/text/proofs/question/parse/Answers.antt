use Rattle.std.proofs.Common.{◌≡◌, length, drop, refl, sym, subst, ap, ◌∙◌, rules, arith}
use Rattle.list.specs.Lists.{items}
use Rattle.legend.specs.Legends.{names_of}
use Rattle.logic.specs.Questions.{question}
use Rattle.logic.proofs.Asking.{length-question}
use Rattle.grammar.specs.Grammar.{vocabulary}
use Rattle.text.specs.Faults.{TextFault}
use Rattle.text.specs.declared.fault.TextRule.TheVariants as rule
use Rattle.text.specs.Parsing.{Refuses}
use Rattle.text.proofs.Wholes.{at_map_err}
use Rattle.text.proofs.question.parse.Goals as goal

pub returns : goal.returns
returns c =
    let w = c.in_ok-whole.ensures in
    let empty = c.clear.ensures in
    at_map_err _ _ _ _ _ c.fill.result c.map_err.result c.map_err.ensures.cases c.fill.ensures
    (λ x f. record {
      short = omega arith;
      formula = w.0;
      accepts = w.1;
      lines = ap question (f.items ∙ c.items.ensures) ∙ w.2;
      filled = record { named = f.named ∙ empty.named; items = refl; count = f.count ∙ ap length (sym f.items); size = f.size ∙ ap length empty.places; rest = f.rest ∙ ap (drop c.fill.new.self.count) empty.places };
    })
    (λ e d l f.
    let same : d ≡ record { rule = rule.Places; place = 0 } = search rules in (
      subst (λ (z : TextFault). Refuses (vocabulary (names_of c.args.legend.now) c.args.agents) c.args.text.now (length c.args.lines.now.places.now) z.rule z.place) (sym same)
          (omega arith, refl, (w.0, w.1, omega (arith, f.0, ap length empty.places, ap length c.items.ensures, ap length w.2, length-question (items c.whole.new.self.lines)))),
      record { named = f.1.named ∙ empty.named; count = f.1.count ∙ empty.count; places = f.1.places ∙ empty.places },
    ))
