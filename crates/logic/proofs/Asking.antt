-- The lines of a question, one after another.
use Rattle.std.proofs.Common.{◌≡◌, ℕ, zero, suc, ◌+◌, ◌-◌, ◌<◌, ◌≤◌, T, eqb, add-one, ◌↔◌, [], ◌∷◌, ◌++◌, map, reverse, length, get_or, take, set, sym, refl, ap, ◌∙◌, subst, arith, length-take, length-take-le, get_or-take}
use mathlib.Core.List as L
use mathlib.Core.List.{reverse-append, map-append}
use Rattle.std.proofs.lemmas.List.{length-reverse, length-map, take_more, take_all}
use Rattle.std.specs.List.{AllWithin, HoldsAt, enumerate_from}
use Rattle.std.proofs.lemmas.List.FromFn.{get_or-enumerate_from, length-enumerate_from}
use Rattle.std.proofs.lemmas.Bool.{cond-true, cond-false, eq-eqb, ne_eqb}
use Rattle.sets.specs.Sets.{member}
use Rattle.sets.specs.declared.state_set.StateSet.{StateSet}
use Rattle.model.specs.Model.{Model}
use Rattle.model.proofs.Filling.{fill_more}
use Rattle.logic.specs.Logic.{Answer, Formula, Rule, Ruled, said, formula_by}
use Rattle.logic.specs.Logic as logic
use Rattle.logic.specs.Questions.{line_of, question, set_at, TellAll, Tells}
use Rattle.logic.specs.declared.line.Line.{Line}
use Rattle.logic.specs.declared.line.Line.TheVariants.{True}

pub said_new : (l : logic.Line) (q : L.List logic.Line) → said (l ∷ q) (length q) ≡ formula_by (said q) l
said_new l q = cond-true (eqb (length q) (length q)) _ _ (eq-eqb _ _ refl)

pub said_old : (l : logic.Line) (q : L.List logic.Line) (p : ℕ) → p < length q → said (l ∷ q) p ≡ said q p
said_old l q p h = cond-false (eqb p (length q)) _ _ (ne_eqb _ _ (λ e. omega arith))

pub question_none : question [] ≡ []
unfolding question
question_none = refl

pub length-question : (lines : L.List Line) → length (question lines) ≡ length lines
unfolding question
length-question lines = length-reverse (map line_of lines) ∙ length-map lines line_of

pub question_push : (lines : L.List Line) (l : Line) → question (lines ++ l ∷ []) ≡ line_of l ∷ question lines
unfolding question
question_push lines l = ap reverse (map-append line_of lines (l ∷ [])) ∙ reverse-append (map line_of lines) (line_of l ∷ [])

pub question_more : (lines : L.List Line) (i : ℕ) (d : Line) → i < length lines → question (take (i + 1) lines) ≡ line_of (get_or lines i d) ∷ question (take i lines)
question_more lines i d h = ap question (take_more lines i d h) ∙ question_push (take i lines) (get_or lines i d)

-- a front of a question that breaks no rule breaks none
pub ruled_front : (k : ℕ) (lines : L.List Line) (i n : ℕ) → i + n ≡ length lines → Ruled k (question lines) → Ruled k (question (take i lines))
ruled_front k lines i zero e r = subst (λ xs. Ruled k (question xs)) (sym (take_all i lines (omega arith))) r
ruled_front k lines i (suc n) e r =
    let within : i < length lines = omega arith in
    let more : Ruled k (question (take (i + 1) lines)) = ruled_front k lines (i + 1) n (omega arith) r in
    let split : Ruled k (line_of (get_or lines i True) ∷ question (take i lines)) = rw (question_more lines i True within) at more in
    split.1

module _ (lines : L.List Line) (i : ℕ) (within : i < length lines) where
  -- how many lines come before line i
  pub earlier : length (question (take i lines)) ≡ i
  earlier = length-question (take i lines) ∙ length-take-le i lines (omega arith)

  pub ruled_more : (k : ℕ) → Ruled k (question (take (i + 1) lines)) ↔ (Rule k i (line_of (get_or lines i True)) × Ruled k (question (take i lines)))
  ruled_more k = rw (question_more lines i True within) (
    λ r. (subst (λ n. Rule k n (line_of (get_or lines i True))) earlier r.0, r.1),
    λ r. (subst (λ n. Rule k n (line_of (get_or lines i True))) (sym earlier) r.0, r.1),
  )

  -- line i of a question that breaks no rule
  pub rule_at : (k : ℕ) → Ruled k (question lines) → Rule k i (line_of (get_or lines i True))
  rule_at k r = ((ruled_more k).0 (ruled_front k lines (i + 1) (length lines - (i + 1)) (omega arith) r)).0

  -- one line more is told
  pub tell_more : (M : Model) (sets : L.List StateSet) (r : StateSet) → i < length sets → TellAll M sets i (said (question (take i lines))) →
      Tells M r (formula_by (said (question (take i lines))) (line_of (get_or lines i True))) →
      TellAll M (set sets i r) (i + 1) (said (question (take (i + 1) lines)))
  tell_more M sets r fits before here =
      let q = question (take i lines) in
      let l = line_of (get_or lines i True) in
      rw (question_more lines i True within)
      (fill_more (record { bits = 0 }) sets i r (λ p x. Tells M x (said (l ∷ q) p)) fits
      (λ p h. subst (Tells M (set_at sets p)) (sym (said_old l q p (omega (arith, earlier)))) (before p h))
      (subst (Tells M r) (sym (said_new l q) ∙ ap (said (l ∷ q)) earlier) here))

  pub answer_more : (M : Model) (r : StateSet) → Tells M r (formula_by (said (question (take i lines))) (line_of (get_or lines i True))) →
      (s : ℕ) → T (member r s) ↔ Answer M (question (take (i + 1) lines)) s
  answer_more M r here = rw (question_more lines i True within) here

-- the sets before a place tell alone what they told
pub tell_front : (M : Model) (sets : L.List StateSet) (i : ℕ) (at : ℕ → Formula) → TellAll M sets i at → TellAll M (take i sets) (length (take i sets)) at
tell_front M sets i at before p h =
    let l : p < i = omega (arith, length-take i sets) in
    subst (λ x. Tells M x (at p)) (sym (get_or-take i sets p _ l)) (before p l)

-- the rule of a line beside its number
abbrev pub Keeps : ℕ → ℕ × Line → Type 0
Keeps k p = Rule k p.0 (line_of p.1)

module _ (k : ℕ) (lines : L.List Line) where
  numbered : (P : ℕ × Line → Type 0) (i : ℕ) → i < length lines → HoldsAt P (enumerate_from 0 lines) i → P (i, get_or lines i True)
  numbered P i h held =
      let same : 0 + i ≡ i = omega arith in
      subst (λ n. P (n, get_or lines i True)) same (subst P (get_or-enumerate_from 0 lines i (0, True) h) (held (0, True)))

  -- lines that keep their rules one after another
  pub ruled_lines : (i : ℕ) → i ≤ length lines → AllWithin (Keeps k) (enumerate_from 0 lines) 0 i → Ruled k (question (take i lines))
  unfolding question
  ruled_lines zero h each = tt
  ruled_lines (suc i) h each =
      let here : Keeps k (i, get_or lines i True) = numbered (Keeps k) i (omega arith) (λ d. each i d (omega arith) (omega arith)) in
      subst (λ n. Ruled k (question (take n lines))) (add-one i) ((ruled_more lines i (omega arith) k).1 (here, ruled_lines i (omega arith) (λ j d l m. each j d l (omega arith))))

  pub ruled_all : AllWithin (Keeps k) (enumerate_from 0 lines) 0 (length (enumerate_from 0 lines)) → Ruled k (question lines)
  ruled_all each =
      let long = length-enumerate_from 0 lines in
      subst (λ xs. Ruled k (question xs)) (take_all (length lines) lines (omega arith)) (ruled_lines (length lines) (omega arith) (λ j d l m. each j d l (omega (arith, long))))

  -- a line that breaks its rule
  pub unruled : (i : ℕ) → i < length lines → HoldsAt (λ p. Keeps k p → ⊥) (enumerate_from 0 lines) i → Ruled k (question (take (i + 1) lines)) → ⊥
  unruled i h broken r = numbered (λ p. Keeps k p → ⊥) i h broken ((ruled_more lines i h k).0 r).0
