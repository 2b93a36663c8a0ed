-- A question that was read from a text is answered.
use Rattle.std.proofs.Common.{◌≡◌, ℕ, ◌+◌, ◌-◌, ◌≤◌, T, ◌↔◌, [], length, sym, ap, subst, inl, inr, arith}
use mathlib.Core.List as L
use Rattle.sets.specs.Sets.{member}
use Rattle.sets.specs.declared.state_set.StateSet.{StateSet}
use Rattle.list.specs.declared.List.{List}
use Rattle.model.specs.Model.{Model}
use Rattle.legend.specs.Legends.{names_of}
use Rattle.legend.specs.declared.Legend.{Legend}
use Rattle.legend.proofs.Holding.{names_few}
use Rattle.logic.specs.Logic.{Formula, verum, mark, neg, both, either, next, always, until, Holds, Ruled, Answer}
use Rattle.logic.specs.Lines.{flatten, Fit}
use Rattle.logic.specs.Questions.{question, most_lines, Refused}
use Rattle.logic.specs.declared.line.Line.{Line}
use Rattle.logic.specs.declared.line.QuestionFault as fault
use Rattle.logic.proofs.Asking.{length-question, ruled_front}
use Rattle.logic.proofs.Flattening.{lines_of, flatten_some}
use Rattle.grammar.specs.Grammar.{Vocabulary, vocabulary, Over}
use Rattle.grammar.specs.Texts.{Accepts}
use Rattle.text.specs.Parsing.{Parsed}

-- a formula of a legend and k agents has marks below 16 and coalitions that exist
over_fit : (V : Vocabulary) → V.marks ≤ 16 → (f : Formula) → Over V f → Fit Unit V.agents f
over_fit V few verum o = tt
over_fit V few (mark i) o = omega arith
over_fit V few (neg f) o = over_fit V few f o
over_fit V few (both f g) o = (over_fit V few f o.0, over_fit V few g o.1)
over_fit V few (either f g) o = (over_fit V few f o.0, over_fit V few g o.1)
over_fit V few (next A f) o = (o.0, over_fit V few f o.1)
over_fit V few (always A f) o = (tt, o.0, over_fit V few f o.1)
over_fit V few (until A f g) o = (tt, o.0, over_fit V few f o.1, over_fit V few g o.2)

-- the number of agents, told otherwise
pub parsed_accepts : (l : Legend) {k m : ℕ} {text : L.List ℕ} {s t : List Line} → k ≡ m → (p : Parsed (vocabulary (names_of l) k) text s t) → Accepts (vocabulary (names_of l) m) text p.formula
parsed_accepts l {text = text} e p = subst (λ (n : ℕ). Accepts (vocabulary (names_of l) n) text p.formula) e p.accepts

module _ (M : Model) (l : Legend) (f : Formula) (over : Over (vocabulary (names_of l) M.k) f) (lines : L.List Line) (is : question lines ≡ flatten f []) where
  fits : Fit Unit M.k f
  fits = over_fit (vocabulary (names_of l) M.k) (names_few l) f over

  -- it breaks no rule
  pub never_refused : (room : ℕ) → length lines ≤ most_lines → length lines ≤ room → (e : fault.QuestionFault) → Refused M.k lines room e → ⊥
  never_refused room a b fault.TheVariants.Length (inl h) = omega (arith, flatten_some f [], ap length is, length-question lines)
  never_refused room a b fault.TheVariants.Length (inr h) = omega arith
  never_refused room a b fault.TheVariants.Sets h = omega arith
  never_refused room a b (fault.TheVariants.Line p) h =
      h.3 (ruled_front M.k lines (p + 1) (length lines - (p + 1)) (omega arith) (subst (Ruled M.k) (sym is) (lines_of M f fits).0))

  -- and holds where the formula does
  pub answered : (x : StateSet) → ((s : ℕ) → T (member x s) ↔ Answer M (question lines) s) → (s : ℕ) → T (member x s) ↔ Holds M f s
  answered x h s =
      let same = (lines_of M f fits).2 s in (
        λ m. same.0 (subst (λ (q : _). Answer M q s) is ((h s).0 m)),
        λ k. (h s).1 (subst (λ (q : _). Answer M q s) (sym is) (same.1 k)),
      )
