-- A text has one row of tokens.
use Rattle.std.proofs.Common.{◌≡◌, ℕ, ◌<◌, cond, eqb, ◌⊎◌, List, [], ◌∷◌, ◌++◌, get_or, sym, refl, ap, ◌∙◌, subst, inl, inr, arith}
use Rattle.std.specs.List.{between}
use Rattle.std.proofs.lemmas.Bool.{cases_lt}
use Rattle.legend.specs.Names.{Letter}
use Rattle.grammar.specs.Tokens.{
  Tok,
  t_true,
  t_name,
  t_agents,
  t_not,
  t_and,
  t_or,
  t_open,
  t_close,
  t_less,
  t_greater,
  t_next,
  t_always,
  t_until,
  t_end,
  t_gap,
  Digit,
  Run,
  Sign,
  Word,
  number,
  Spells,
  TokAt,
  Strange,
  Lexes,
}
use Rattle.grammar.proofs.Prints.{tag}

pub run_unique : {P : ℕ → Type 0} {text : List ℕ} {p q r : ℕ} → Run P text p q → Run P text p r → q ≡ r
run_unique {q = q} {r = r} a b =
    let short : (q < r) → ⊥ = λ h. a.longest (omega (arith, b.within)) (b.all q a.ordered h) in
    let long : (r < q) → ⊥ = λ h. b.longest (omega (arith, a.within)) (a.all r b.ordered h) in
    elim (cases_lt q r) [ inl h ↦ absurd (short h) | inr h ↦ elim (cases_lt r q) [ inl k ↦ absurd (long k) | inr k ↦ omega arith ] ]

-- the token of a sign
abbrev decode : ℕ → Tok
decode b =
    cond (eqb b 33) t_not (cond (eqb b 38) t_and (cond (eqb b 124) t_or (cond (eqb b 40) t_open (cond (eqb b 41) t_close
    (cond (eqb b 60) t_less (cond (eqb b 62) t_greater (cond (eqb b 88) t_next (cond (eqb b 71) t_always t_until))))))))

sign-decode : (b : ℕ) (t : Tok) → Sign b t → decode b ≡ t
sign-decode b t_true h = absurd h
sign-decode b (t_name v) h = absurd h
sign-decode b (t_agents A) h = absurd h
sign-decode b t_not h = ap decode h
sign-decode b t_and h = ap decode h
sign-decode b t_or h = ap decode h
sign-decode b t_open h = ap decode h
sign-decode b t_close h = ap decode h
sign-decode b t_less h = ap decode h
sign-decode b t_greater h = ap decode h
sign-decode b t_next h = ap decode h
sign-decode b t_always h = ap decode h
sign-decode b t_until h = ap decode h
sign-decode b t_end h = absurd h
sign-decode b t_gap h = absurd h

-- a sign is neither a small letter nor a digit
sign_other : (b : ℕ) (t : Tok) → Sign b t → (Letter b → ⊥) × (Digit b → ⊥)
sign_other b t_true h = absurd h
sign_other b (t_name v) h = absurd h
sign_other b (t_agents A) h = absurd h
sign_other b t_not h = (λ l. omega arith, λ l. omega arith)
sign_other b t_and h = (λ l. omega arith, λ l. omega arith)
sign_other b t_or h = (λ l. omega arith, λ l. omega arith)
sign_other b t_open h = (λ l. omega arith, λ l. omega arith)
sign_other b t_close h = (λ l. omega arith, λ l. omega arith)
sign_other b t_less h = (λ l. omega arith, λ l. omega arith)
sign_other b t_greater h = (λ l. omega arith, λ l. omega arith)
sign_other b t_next h = (λ l. omega arith, λ l. omega arith)
sign_other b t_always h = (λ l. omega arith, λ l. omega arith)
sign_other b t_until h = (λ l. omega arith, λ l. omega arith)
sign_other b t_end h = absurd h
sign_other b t_gap h = absurd h

word_unique : (w : List ℕ) (t u : Tok) → Word w t → Word w u → t ≡ u
word_unique w t_true t_true h k = refl
word_unique w t_true (t_name x) h k = absurd (k.1 h)
word_unique w t_true (t_agents A) h k = absurd k
word_unique w t_true t_not h k = absurd k
word_unique w t_true t_and h k = absurd k
word_unique w t_true t_or h k = absurd k
word_unique w t_true t_open h k = absurd k
word_unique w t_true t_close h k = absurd k
word_unique w t_true t_less h k = absurd k
word_unique w t_true t_greater h k = absurd k
word_unique w t_true t_next h k = absurd k
word_unique w t_true t_always h k = absurd k
word_unique w t_true t_until h k = absurd k
word_unique w t_true t_end h k = absurd k
word_unique w t_true t_gap h k = absurd k
word_unique w (t_name v) t_true h k = absurd (h.1 k)
word_unique w (t_name v) (t_name x) h k = ap t_name (h.0 ∙ sym k.0)
word_unique w (t_name v) (t_agents A) h k = absurd k
word_unique w (t_name v) t_not h k = absurd k
word_unique w (t_name v) t_and h k = absurd k
word_unique w (t_name v) t_or h k = absurd k
word_unique w (t_name v) t_open h k = absurd k
word_unique w (t_name v) t_close h k = absurd k
word_unique w (t_name v) t_less h k = absurd k
word_unique w (t_name v) t_greater h k = absurd k
word_unique w (t_name v) t_next h k = absurd k
word_unique w (t_name v) t_always h k = absurd k
word_unique w (t_name v) t_until h k = absurd k
word_unique w (t_name v) t_end h k = absurd k
word_unique w (t_name v) t_gap h k = absurd k
word_unique w (t_agents A) u h k = absurd h
word_unique w t_not u h k = absurd h
word_unique w t_and u h k = absurd h
word_unique w t_or u h k = absurd h
word_unique w t_open u h k = absurd h
word_unique w t_close u h k = absurd h
word_unique w t_less u h k = absurd h
word_unique w t_greater u h k = absurd h
word_unique w t_next u h k = absurd h
word_unique w t_always u h k = absurd h
word_unique w t_until u h k = absurd h
word_unique w t_end u h k = absurd h
word_unique w t_gap u h k = absurd h

module _ {text : List ℕ} {p q r : ℕ} {t u : Tok} where
  spells_unique : Spells text p q t → Spells text p r u → (q ≡ r) × (t ≡ u)
  spells_unique (Spells.end a b c) (Spells.end d e f) = (b ∙ sym e, c ∙ sym f)
  spells_unique (Spells.end a b c) (Spells.word d e f g) = absurd (omega arith)
  spells_unique (Spells.end a b c) (Spells.agents d e f g h) = absurd (omega arith)
  spells_unique (Spells.end a b c) (Spells.sign d e f) = absurd (omega arith)
  spells_unique (Spells.word a b c d) (Spells.end e f g) = absurd (omega arith)
  spells_unique (Spells.word a b c d) (Spells.word e f g h) =
      let same = run_unique c g in
      (same, word_unique (between p q text) t u d (subst (λ (n : ℕ). Word (between p n text) u) (sym same) h))
  spells_unique (Spells.word a b c d) (Spells.agents e f g h i) = absurd (omega arith)
  spells_unique (Spells.word a b c d) (Spells.sign e f g) = absurd ((sign_other (get_or text p 0) u f).0 b)
  spells_unique (Spells.agents a b c d e) (Spells.end f g h) = absurd (omega arith)
  spells_unique (Spells.agents a b c d e) (Spells.word f g h i) = absurd (omega arith)
  spells_unique (Spells.agents a b c d e) (Spells.agents f g h i j) =
      let same = run_unique c h in
      (same, e ∙ ap (λ (n : ℕ). t_agents (number (between p n text))) same ∙ sym j)
  spells_unique (Spells.agents a b c d e) (Spells.sign f g h) = absurd ((sign_other (get_or text p 0) u g).1 b)
  spells_unique (Spells.sign a b c) (Spells.end d e f) = absurd (omega arith)
  spells_unique (Spells.sign a b c) (Spells.word d e f g) = absurd ((sign_other (get_or text p 0) t b).0 e)
  spells_unique (Spells.sign a b c) (Spells.agents d e f g h) = absurd ((sign_other (get_or text p 0) t b).1 e)
  spells_unique (Spells.sign a b c) (Spells.sign d e f) = (c ∙ sym f, sym (sign-decode (get_or text p 0) t b) ∙ sign-decode (get_or text p 0) u e)

-- no text has a gap
pub spells_real : {text : List ℕ} {p q : ℕ} {t : Tok} → Spells text p q t → t ≡ t_gap → ⊥
spells_real (Spells.end a b c) e = omega (arith, ap tag (sym c ∙ e))
spells_real {text} {p} {q} (Spells.word a b c d) e = subst (Word (between p q text)) e d
spells_real (Spells.agents a b c d e) f = omega (arith, ap tag (sym e ∙ f))
spells_real {text} {p} (Spells.sign a b c) e = subst (Sign (get_or text p 0)) e b

pub tok_unique : {text : List ℕ} {from p q r s : ℕ} {t u : Tok} → TokAt text from p q t → TokAt text from r s u → (q ≡ s) × (t ≡ u)
tok_unique {text} {s = s} {u = u} a b = spells_unique a.spells (subst (λ (n : ℕ). Spells text n s u) (run_unique b.blanks a.blanks) b.spells)

spells_strange : {text : List ℕ} {from p q : ℕ} {t : Tok} → Strange text from p → Spells text p q t → ⊥
spells_strange h (Spells.end a b c) = omega (arith, h.some)
spells_strange h (Spells.word a b c d) = h.no_word b
spells_strange {q = q} h (Spells.agents a b c d e) = h.no_agents q b c d
spells_strange {t = t} h (Spells.sign a b c) = h.no_sign t b

pub strange_alone : {text : List ℕ} {from p r q : ℕ} {t : Tok} → Strange text from p → TokAt text from r q t → ⊥
strange_alone {text} {q = q} {t = t} h a = spells_strange h (subst (λ (n : ℕ). Spells text n q t) (run_unique a.blanks h.blanks) a.spells)

-- of two rows of tokens from one place on, one goes on with the other
pub record Further (text : List ℕ) (ts us : List Tok) (from to : ℕ) : Type 0 where
  pub rest : List Tok
  pub is : us ≡ ts ++ rest
  pub lexed : Lexes text from rest to

pub lexes_front : (text : List ℕ) (from to end : ℕ) (ts us : List Tok) → Lexes text from ts to → Lexes text from us end → Further text ts us to end ⊎ Further text us ts end to
lexes_front text from to end [] us l m = inl (record { rest = us; is = refl; lexed = subst (λ (n : ℕ). Lexes text n us end) l m })
lexes_front text from to end (t ∷ ts) [] l m = inr (record { rest = t ∷ ts; is = refl; lexed = subst (λ (n : ℕ). Lexes text n (t ∷ ts) to) m l })
lexes_front text from to end (t ∷ ts) (u ∷ us) l m =
    let same = tok_unique l.2 m.2 in
    let h = lexes_front text l.1 to end ts us l.3 (subst (λ (n : ℕ). Lexes text n us end) (sym same.0) m.3) in
    elim h [
      | inl f ↦ inl (record { rest = f.rest; is = (λ i. sym same.1 i ∷ f.is i); lexed = f.lexed })
      | inr f ↦ inr (record { rest = f.rest; is = (λ i. same.1 i ∷ f.is i); lexed = f.lexed })
    ]
