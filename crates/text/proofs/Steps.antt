-- How a state is put together from parts that were read.
use Rattle.std.proofs.Common.{◌≡◌, ℕ, suc, ◌+◌, ◌≤◌, ◌<◌, [], ◌∷◌, ◌++◌, length, Bor, sym, refl, ap, ◌∙◌, subst, append_assoc, arith, length-take-le}
use mathlib.Core.List as L
use Rattle.list.specs.declared.List.{List}
use Rattle.list.specs.Lists.{items, Extends}
use Rattle.logic.specs.Logic.{Formula}
use Rattle.logic.specs.Logic as logic
use Rattle.logic.specs.Lines.{last, flatten}
use Rattle.logic.specs.Questions.{line_of, question}
use Rattle.logic.specs.declared.line.Line.{Line}
use Rattle.logic.proofs.Asking.{length-question, question_push}
use Rattle.grammar.specs.Tokens.{Tok, t_close, t_end, TokAt, Lexes}
use Rattle.grammar.specs.Grammar.{Over, Due, print}
use Rattle.grammar.specs.Parts.{Ends, Wrong, Miss}
use Rattle.grammar.proofs.Dues.{Only}
use Rattle.grammar.proofs.Frames.{Frame, lexes_more, wrong_before, lift}
use Rattle.text.specs.declared.fault.TextRule.TheVariants as rule
use Rattle.text.specs.declared.parser.Parser.{Parser}
use Rattle.text.specs.declared.terms.Terms.{Terms}
use Rattle.text.specs.declared.token.Token.{Token}
use Rattle.text.specs.Cursors.{Onward}
use Rattle.text.specs.Shown.{shown, Proper}
use Rattle.text.specs.Faults.{TextFault, rule_number}
use Rattle.text.specs.Vocabularies.{terms_of}
use Rattle.text.specs.Readings.{Stated, Parted, Faulty}
use Rattle.text.proofs.Exits.{astray, told, tok_is, lex_one, lex_some}

-- q stands after the tokens ts of p's text, and speaks of the same
pub record Reads (p q : Parser) (ts : L.List Tok) : Type 0 where
  pub text : q.cursor.text ≡ p.cursor.text
  pub terms : q.terms ≡ p.terms
  pub lexed : Lexes p.cursor.text.now p.cursor.at ts q.cursor.at

-- and has the same lines
pub record Moves (p q : Parser) (ts : L.List Tok) : Type 0 where
  pub reads : Reads p q ts
  pub ordered : p.cursor.at ≤ q.cursor.at
  pub lines : q.lines ≡ p.lines

pub moves : {p q : Parser} {ts : L.List Tok} → Onward p.cursor q.cursor → q.terms ≡ p.terms → q.lines ≡ p.lines → Lexes p.cursor.text.now p.cursor.at ts q.cursor.at → Moves p q ts
moves on terms lines l = record { reads = record { text = on.text; terms = terms; lexed = l }; ordered = on.ordered; lines = lines }

-- a token that is read and known
pub moves_token : {p q : Parser} {place : ℕ} {t u : Token} → Onward p.cursor q.cursor → TokAt p.cursor.text.now p.cursor.at place q.cursor.at (shown t) × Proper t → t ≡ u → q.terms ≡ p.terms → q.lines ≡ p.lines → Moves p q (shown u ∷ [])
moves_token on at e terms lines = moves on terms lines (lex_one (tok_is at e).0)

-- tokens of a later place, as the earlier one's text has them
lexed_on : {p m : Parser} (us ts : L.List Tok) (to : ℕ) → Reads p m us → Lexes m.cursor.text.now m.cursor.at ts to → Lexes p.cursor.text.now m.cursor.at ts to
lexed_on {m = m} us ts to r l = subst (λ (x : Bor (L.List ℕ)). Lexes x.now m.cursor.at ts to) r.text l

-- no tokens, and some after others
pub reads_none : (p : Parser) → Reads p p []
reads_none p = record { text = refl; terms = refl; lexed = refl }

pub reads_more : {p m q : Parser} {ts us : L.List Tok} → Reads p m ts → Reads m q us → Reads p q (ts ++ us)
reads_more {p} {m} {q} {ts} {us} a b =
    record { text = b.text ∙ a.text; terms = b.terms ∙ a.terms; lexed = lexes_more p.cursor.text.now p.cursor.at m.cursor.at q.cursor.at ts us a.lexed (lexed_on ts us q.cursor.at a b.lexed) }

-- the tokens of a state that was read
pub reads_state : {allow : ℕ} {p q : Parser} {at : ℕ} (h : Stated allow p q at) → Reads p q (print (terms_of p.terms).word allow h.formula)
reads_state {p = p} {q} h =
    record { text = h.spent.text; terms = h.spent.terms; lexed = subst (λ (l : L.List Tok). Lexes p.cursor.text.now p.cursor.at l q.cursor.at) (sym h.ends.whole) h.ends.lexed }

-- a fault, as an earlier place has it
wrong_from : {allow : ℕ} {p m : Parser} {pre us : L.List Tok} {f : TextFault} → Faulty allow pre m f → Reads p m us →
    Wrong (terms_of p.terms) (print (terms_of p.terms).word allow) p.cursor.text.now pre m.cursor.at (rule_number f.rule) f.place
wrong_from {allow} {p} {m} {pre} {f = f} w r =
    subst (λ (x : Bor (L.List ℕ)). Wrong (terms_of p.terms) (print (terms_of p.terms).word allow) x.now pre m.cursor.at (rule_number f.rule) f.place) r.text
    (subst (λ (x : Terms). Wrong (terms_of x) (print (terms_of x).word allow) m.cursor.text.now pre m.cursor.at (rule_number f.rule) f.place) r.terms w.wrong)

-- a fault after tokens that were read
pub wrong_after : {allow : ℕ} {p m : Parser} {f : TextFault} (pre us : L.List Tok) → Faulty allow (pre ++ us) m f → Reads p m us → Faulty allow pre p f
wrong_after {p = p} pre us w r = record { wrong = wrong_before p.cursor.at pre us r.lexed (wrong_from w r) }

-- a fault in a part of the state
pub wrong_part : {allow : ℕ} {p m : Parser} {f : TextFault} (pre us : L.List Tok) {ts : L.List Tok} → pre ++ us ≡ ts → Faulty allow [] m f → Reads p m us →
    Frame (terms_of p.terms) (print (terms_of p.terms).word allow) (print (terms_of p.terms).word (suc allow)) ts → Faulty (suc allow) pre p f
wrong_part {p = p} pre us same w r frame = record { wrong = wrong_before p.cursor.at pre us r.lexed (told (sym same) (lift frame (wrong_from w r))) }

-- another token after them than one that is due, or none
pub stray : {allow : ℕ} {p m : Parser} {Wanted : Tok → Type 0} (f : TextFault) (pre us : L.List Tok) {ts : L.List Tok} → pre ++ us ≡ ts → f.rule ≡ rule.Token → Reads p m us → (t : Tok) →
    Due (terms_of p.terms) (print (terms_of p.terms).word allow) ts t → Only (print (terms_of p.terms).word allow) ts Wanted → Miss m.cursor.text.now m.cursor.at Wanted f.place → Faulty allow pre p f
stray {p = p} {m} {Wanted} f pre us {ts} same e r t due only miss =
    record { wrong = astray f us ts same e r.lexed t due only (subst (λ (x : Bor (L.List ℕ)). Miss x.now m.cursor.at Wanted f.place) r.text miss) }

-- what an earlier place knows of a state
state_from : {allow : ℕ} {p m q : Parser} {us : L.List Tok} {at : ℕ} → Reads p m us → (h : Stated allow m q at) → Over (terms_of p.terms) h.formula × Reads m q (print (terms_of p.terms).word allow h.formula)
state_from {allow} {m = m} {q} r h = subst (λ (x : Terms). Over (terms_of x) h.formula × Reads m q (print (terms_of x).word allow h.formula)) r.terms (h.ends.over, reads_state h)

-- the tokens of two states with one between them
pub reads_two : {allow : ℕ} {p m n o : Parser} {at at' : ℕ} {j : Tok} (h : Stated allow p m at) (k : Stated allow n o at') → Moves m n (j ∷ []) →
    Over (terms_of p.terms) k.formula × Reads p o (print (terms_of p.terms).word allow h.formula ++ (j ∷ print (terms_of p.terms).word allow k.formula))
reads_two h k a = let on = state_from (reads_more (reads_state h) a.reads) k in (on.0, reads_more (reads_state h) (reads_more a.reads on.1))

-- a place in the text of another
within_from : {p q : Parser} {us : L.List Tok} → Reads p q us → q.cursor.at ≤ length p.cursor.text.now
within_from {q = q} r = omega (arith, q.cursor.within, ap (λ b. length b.now) r.text)

length-items : (s : List Line) → length (question (items s)) ≡ s.count
length-items s = length-question (items s) ∙ length-take-le s.count s.places.now s.within

last_at : (w : L.List logic.Line) (n : ℕ) → n + 1 ≡ length w → last w ≡ n
last_at [] n h = absurd (omega arith)
last_at (l ∷ ls) n h = omega arith

-- the line of the last state that was read
last_read : {allow : ℕ} {p q : Parser} {at : ℕ} → Stated allow p q at → last (question (items q.lines)) ≡ at
last_read {q = q} {at} h = last_at (question (items q.lines)) at (h.number ∙ sym (length-items q.lines))

-- tokens that were read go from the text to the front
pub parted_before : {allow : ℕ} {p m q : Parser} {made : Line} (pre us : L.List Tok) → Parted allow (pre ++ us) m q made → Moves p m us → Parted allow pre p q made
parted_before {allow} {p} {m} {q} pre us h b =
    let f = h.formula in
    let e : Ends (terms_of p.terms) (print (terms_of p.terms).word allow) p.cursor.text.now (pre ++ us) m.cursor.at q.cursor.at f =
    subst (λ (x : Bor (L.List ℕ)). Ends (terms_of p.terms) (print (terms_of p.terms).word allow) x.now (pre ++ us) m.cursor.at q.cursor.at f) b.reads.text
    (subst (λ (x : Terms). Ends (terms_of x) (print (terms_of x).word allow) m.cursor.text.now (pre ++ us) m.cursor.at q.cursor.at f) b.reads.terms h.ends) in
    record {
      formula = f;
      ends = record {
        over = e.over;
        rest = us ++ e.rest;
        whole = e.whole ∙ append_assoc pre us e.rest;
        lexed = lexes_more p.cursor.text.now p.cursor.at m.cursor.at q.cursor.at us e.rest b.reads.lexed e.lexed;
        within = e.within;
      };
      line = h.line ∙ ap (λ s. flatten f (question (items s))) b.lines;
      spent = record {
        text = h.spent.text ∙ b.reads.text;
        terms = h.spent.terms ∙ b.reads.terms;
        size = h.spent.size ∙ ap (λ s. length s.places.now) b.lines;
        lines = omega (arith, h.spent.lines, b.ordered, ap (λ s. s.count) b.lines);
      };
    }

-- a state of one token
pub leaf : {allow : ℕ} {p q : Parser} {made : Line} (f : Formula) (t : Tok) → (t ≡ t_end → ⊥) → Over (terms_of p.terms) f → print (terms_of p.terms).word allow f ≡ t ∷ [] →
    line_of made ∷ question (items p.lines) ≡ flatten f (question (items p.lines)) → Moves p q (t ∷ []) → Parted allow [] p q made
leaf {p = p} {q} {made} f t real over shown lines b =
    let some : p.cursor.at < q.cursor.at = lex_some b.reads.lexed real in
    record {
      formula = f;
      ends = record { over = over; rest = t ∷ []; whole = shown; lexed = b.reads.lexed; within = within_from b.reads };
      line = ap (λ s. line_of made ∷ question (items s)) b.lines ∙ lines;
      spent = record { text = b.reads.text; terms = b.reads.terms; size = ap (λ s. length s.places.now) b.lines; lines = omega (arith, some, ap (λ s. s.count) b.lines) };
    }

-- the own line is added last
pub stated : {allow : ℕ} {p m q : Parser} {made : Line} (at : ℕ) → Parted allow [] p m made → q.cursor ≡ m.cursor → q.terms ≡ m.terms → at ≡ m.lines.count → Extends m.lines q.lines (made ∷ []) → Stated allow p q at
stated {allow} {p} {m} {q} {made} at h same terms b x =
    let e = h.ends in
    let to : m.cursor.at ≡ q.cursor.at = ap (λ c. c.at) (sym same) in
    record {
      formula = h.formula;
      ends = subst (λ (n : ℕ). Ends (terms_of p.terms) (print (terms_of p.terms).word allow) p.cursor.text.now [] p.cursor.at n h.formula) to h.ends;
      lines = ap question x.items ∙ question_push (items m.lines) made ∙ h.line;
      number = omega (arith, b, x.count);
      spent = record { text = ap (λ c. c.text) same ∙ h.spent.text; terms = terms ∙ h.spent.terms; size = x.size ∙ h.spent.size; lines = omega (arith, x.count, h.spent.lines, to) };
    }

-- an operator of one operand
pub one : {allow : ℕ} {p m q : Parser} {at : ℕ} {made : Line} (pre : L.List Tok) (k : Tok) (K : Formula → Formula) (N : ℕ → logic.Line) → (k ≡ t_end → ⊥) →
    ((f : Formula) → Over (terms_of p.terms) f → Over (terms_of p.terms) (K f)) → ((f : Formula) → print (terms_of p.terms).word (suc allow) (K f) ≡ pre ++ (k ∷ print (terms_of p.terms).word allow f)) →
    ((f : Formula) (q : L.List logic.Line) → flatten (K f) q ≡ N (last (flatten f q)) ∷ flatten f q) → Stated allow m q at → Moves p m (k ∷ []) → line_of made ≡ N at → Parted (suc allow) pre p q made
one {allow} {p} {m} {q} {at} {made} pre k K N real over shown flat h b line =
    let f = h.formula in
    let on = state_from b.reads h in
    let all = reads_more b.reads on.1 in
    let some : p.cursor.at < m.cursor.at = lex_some b.reads.lexed real in
    record {
      formula = K f;
      ends = record { over = over f on.0; rest = k ∷ print (terms_of p.terms).word allow f; whole = shown f; lexed = all.lexed; within = within_from all };
      line = (λ i. (line ∙ ap N (sym (last_read h))) i ∷ question (items q.lines)) ∙ ap (λ (w : L.List logic.Line). N (last w) ∷ w) h.lines ∙ sym (flat f (question (items m.lines)))
          ∙ ap (λ s. flatten (K f) (question (items s))) b.lines;
      spent = record { text = all.text; terms = all.terms; size = h.spent.size ∙ ap (λ s. length s.places.now) b.lines; lines = omega (arith, some, h.spent.lines, ap (λ s. s.count) b.lines) };
    }

-- an operator of two operands in brackets
pub two : {allow : ℕ} {p m n o q : Parser} {at at' : ℕ} {made : Line} (pre : L.List Tok) (j : Tok) (K : Formula → Formula → Formula) (N : ℕ → ℕ → logic.Line) →
    ((f g : Formula) → Over (terms_of p.terms) f → Over (terms_of p.terms) g → Over (terms_of p.terms) (K f g)) →
    ((f g : Formula) → print (terms_of p.terms).word (suc allow) (K f g) ≡ pre ++ (print (terms_of p.terms).word allow f ++ (j ∷ (print (terms_of p.terms).word allow g ++ (t_close ∷ []))))) →
    ((f g : Formula) (q : L.List logic.Line) → flatten (K f g) q ≡ N (last (flatten f q)) (last (flatten g (flatten f q))) ∷ flatten g (flatten f q)) →
    Stated allow p m at → Stated allow n o at' → Moves m n (j ∷ []) → Moves o q (t_close ∷ []) → line_of made ≡ N at at' → Parted (suc allow) pre p q made
two {allow} {p} {m} {n} {o} {q} {at} {at'} {made} pre j K N over shown flat h k a b line =
    let f = h.formula in
    let g = k.formula in
    let on = state_from (reads_more (reads_state h) a.reads) k in
    let all = reads_more (reads_state h) (reads_more a.reads (reads_more on.1 b.reads)) in
    let some : o.cursor.at < q.cursor.at = lex_some b.reads.lexed (λ e. cc) in
    let left = last (question (items m.lines)) in
    record {
      formula = K f g;
      ends = record {
        over = over f g h.ends.over on.0;
        rest = print (terms_of p.terms).word allow f ++ (j ∷ (print (terms_of p.terms).word allow g ++ (t_close ∷ [])));
        whole = shown f g;
        lexed = all.lexed;
        within = within_from all;
      };
      line = (λ i. (line ∙ (λ x. N (sym (last_read h) x) (sym (last_read k) x))) i ∷ question (items q.lines))
          ∙ ap (λ s. N left (last (question (items o.lines))) ∷ question (items s)) b.lines
          ∙ ap (λ (z : L.List logic.Line). N left (last z) ∷ z) k.lines
          ∙ ap (λ s. N left (last (flatten g (question (items s)))) ∷ flatten g (question (items s))) a.lines
          ∙ ap (λ (z : L.List logic.Line). N (last z) (last (flatten g z)) ∷ flatten g z) h.lines
          ∙ sym (flat f g (question (items p.lines)));
      spent = record {
        text = all.text;
        terms = all.terms;
        size = ap (λ s. length s.places.now) b.lines ∙ k.spent.size ∙ ap (λ s. length s.places.now) a.lines ∙ h.spent.size;
        lines = omega (arith, some, h.spent.lines, k.spent.lines, a.ordered, ap (λ s. s.count) a.lines, ap (λ s. s.count) b.lines);
      };
    }
