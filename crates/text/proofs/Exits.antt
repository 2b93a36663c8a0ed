-- How each way out of a reader ends.
use Rattle.std.proofs.Common.{◌≡◌, ℕ, ◌<◌, List, [], ◌∷◌, ◌++◌, length, get_or, Option, None, Some, MatchResult, sym, refl, subst, inl, inr, arith}
use Rattle.std.proofs.lemmas.Bool.{cases_lt}
use Rattle.std.specs.Option.{ok_or}
use Rattle.legend.specs.Names.{LetterOrDigit}
use Rattle.logic.specs.Logic.{Formula}
use Rattle.grammar.specs.Tokens.{Tok, t_end, Digit, Run, Spells, TokAt, Lexes}
use Rattle.grammar.specs.Grammar.{Vocabulary, Due}
use Rattle.grammar.specs.Parts.{Wrong, Miss}
use Rattle.grammar.proofs.Dues.{Only, missed}
use Rattle.text.specs.declared.token.Token.{Token}
use Rattle.text.specs.Shown.{shown, Proper, Passing}
use Rattle.text.specs.declared.fault.TextRule.{TextRule}
use Rattle.text.specs.declared.fault.TextRule.TheVariants as rule
use Rattle.text.specs.Faults.{TextFault, rule_number}
use Rattle.text.specs.declared.cursor.Cursor.{Cursor}
use Rattle.text.specs.Cursors.{Takes, Lacks}

module _ {V : Vocabulary} {W : Formula → List Tok} {text : List ℕ} {pre : List Tok} {from : ℕ} where
  -- a fault with this rule at this place
  pub ruled : (f : TextFault) (r : TextRule) {place : ℕ} → f.rule ≡ r → f.place ≡ place → Wrong V W text pre from (rule_number r) place → Wrong V W text pre from (rule_number f.rule) f.place
  ruled f r {place} a b w =
      subst (λ (p : ℕ). Wrong V W text pre from (rule_number f.rule) p) (sym b) (subst (λ (x : TextRule). Wrong V W text pre from (rule_number x) place) (sym a) w)

  -- another token than one that is due, or none
  pub astray : {mid : ℕ} {Wanted : Tok → Type 0} (f : TextFault) (us ts : List Tok) → pre ++ us ≡ ts → f.rule ≡ rule.Token → Lexes text from us mid → (t : Tok) → Due V W ts t → Only W ts Wanted →
      Miss text mid Wanted f.place → Wrong V W text pre from (rule_number f.rule) f.place
  astray {Wanted = Wanted} f us ts same e l t due only m =
      ruled f rule.Token e refl (missed from pre us l t (subst (λ (x : List Tok). Due V W x t) (sym same) due) (subst (λ (x : List Tok). Only W x Wanted) (sym same) only) m)

  -- the same tokens, told otherwise
  pub told : {ts : List Tok} {number place : ℕ} → ts ≡ pre → Wrong V W text ts from number place → Wrong V W text pre from number place
  told {number = number} {place = place} e w = subst (λ (x : List Tok). Wrong V W text x from number place) e w

-- a token that is read and known
pub tok_is : {text : List ℕ} {from p q : ℕ} {t u : Token} → TokAt text from p q (shown t) × Proper t → t ≡ u → TokAt text from p q (shown u) × Proper u
tok_is {text} {from} {p} {q} h e = subst (λ (x : Token). TokAt text from p q (shown x) × Proper x) e h

pub lex_one : {text : List ℕ} {from p q : ℕ} {t : Tok} → TokAt text from p q t → Lexes text from (t ∷ []) q
lex_one {p = p} {q = q} at = (p, q, at, refl)

-- a run that takes its first byte is not empty
run_some : {P : ℕ → Type 0} {text : List ℕ} {p q : ℕ} → p < length text → P (get_or text p 0) → Run P text p q → p < q
run_some {P} {text} {p} {q} h x r = elim (cases_lt p q) [
  | inl l ↦ l
  | inr l ↦ let same : p ≡ q = omega (arith, r.ordered) in absurd (r.longest (omega arith) (subst (λ (n : ℕ). P (get_or text n 0)) same x))
]

spells_some : {text : List ℕ} {p q : ℕ} {t : Tok} → (t ≡ t_end → ⊥) → Spells text p q t → p < q
spells_some h (Spells.end a b c) = absurd (h c)
spells_some h (Spells.word a b c d) = run_some {P = LetterOrDigit} a (inl b) c
spells_some h (Spells.agents a b c d e) = run_some {P = Digit} a b c
spells_some h (Spells.sign a b c) = omega arith

-- a token that isn't the end has bytes
pub tok_some : {text : List ℕ} {from p q : ℕ} {t : Tok} → TokAt text from p q t → (t ≡ t_end → ⊥) → from < q
tok_some a real = omega (arith, a.blanks.ordered, spells_some real a.spells)

pub lex_some : {text : List ℕ} {from q : ℕ} {t : Tok} → Lexes text from (t ∷ []) q → (t ≡ t_end → ⊥) → from < q
lex_some l real = omega (arith, l.3, tok_some l.2 real)

-- another token than one that is wanted, at the place of a fault
pub another : {text : List ℕ} {from place p q : ℕ} {t : Tok} {Wanted : Tok → Type 0} → p ≡ place → TokAt text from place q t → (Wanted t → ⊥) → Miss text from Wanted p
another {text} {from} {Wanted = Wanted} e at h = subst (λ (n : ℕ). Miss text from Wanted n) (sym e) (Miss.other _ _ at h)

-- what a test makes of a token that was read, or a fault
pub made_or_fault : {T : Type 0} (c d : Cursor) {place : ℕ} (Test : Token → Option T → Type 0) (t : Token) (o : Option T) (f : TextFault) → Test t o → TokAt c.text.now c.at place d.at (shown t) → f.rule ≡ rule.Token → f.place ≡ place →
    MatchResult (ok_or o f) (λ x. (u : Token) × Test u (Some x) × Takes c (shown u ∷ []) d) (λ e. Lacks c (Passing Test) e)
made_or_fault c d Test t None f h at a b = (a, another b at (λ w. w t refl h))
made_or_fault c d Test t (Some x) f h at a b = (t, h, lex_one at)

-- what fails for more tokens fails for fewer
pub miss_less : {text : List ℕ} {from place : ℕ} {P Q : Tok → Type 0} → ((k : Tok) → Q k → P k) → Miss text from P place → Miss text from Q place
miss_less h (Miss.strange s) = Miss.strange s
miss_less h (Miss.other q t at none) = Miss.other q t at (λ w. none (h t w))
