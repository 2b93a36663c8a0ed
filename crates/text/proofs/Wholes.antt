-- A whole text is accepted or refused, for one reason.
use Rattle.std.proofs.Common.{◌≡◌, ℕ, [], ◌∷◌, Bor, Result, Ok, Err, IsErrAnd, MatchResult, refl, sym, subst}
use mathlib.Core.List as L
use Rattle.grammar.specs.Tokens.{t_end, Lexes}
use Rattle.grammar.specs.Grammar.{Vocabulary, print, deepest, sentence}
use Rattle.grammar.specs.Texts.{Accepts, Rejects}
use Rattle.grammar.specs.Parts.{Wrong, Miss}
use Rattle.grammar.proofs.Frames.{lexes_more, lift, frame_whole}
use Rattle.grammar.proofs.Dues.{only_end, due_end}
use Rattle.grammar.proofs.Once.{rejected, accepted}
use Rattle.text.specs.declared.fault.TextRule.TheVariants as rule
use Rattle.text.specs.Faults.{TextFault, rule_number}
use Rattle.text.specs.declared.parser.Parser.{Parser}
use Rattle.text.specs.Vocabularies.{terms_of}
use Rattle.text.specs.Readings.{Stated, Faulty}
use Rattle.text.proofs.Exits.{astray}
use Rattle.text.proofs.Steps.{reads_state}
use Rattle.text.proofs.Naming.{words_apart}

whole_wrong : {V : Vocabulary} {text : L.List ℕ} {n p : ℕ} → Wrong V (sentence V.word) text [] 0 n p → Rejects V text n p
whole_wrong {V} w = rejected V (record { tokens = w.tokens; from = w.at; lexed = w.lexed; begun = w.begun; fails = w.fails })

-- a fault in the state
pub in_state : {p : Parser} {f : TextFault} → p.cursor.at ≡ 0 → Faulty 32 [] p f → Rejects (terms_of p.terms) p.cursor.text.now (rule_number f.rule) f.place
unfolding deepest
in_state {p} {f} start w =
    let V = terms_of p.terms in
    whole_wrong (lift (frame_whole V) (subst (λ (n : ℕ). Wrong V (print V.word 32) p.cursor.text.now [] n (rule_number f.rule) f.place) start w.wrong))

-- a state that was read from the start
read_first : {p q : Parser} {at : ℕ} → p.cursor.at ≡ 0 → (h : Stated 32 p q at) → Lexes p.cursor.text.now 0 (print (terms_of p.terms).word 32 h.formula) q.cursor.at
read_first {p} {q} start h = subst (λ (n : ℕ). Lexes p.cursor.text.now n (print (terms_of p.terms).word 32 h.formula) q.cursor.at) start (reads_state h).lexed

-- something after it
pub after_state : {p q : Parser} {at : ℕ} (f : TextFault) → p.cursor.at ≡ 0 → Stated 32 p q at → f.rule ≡ rule.Token → Miss q.cursor.text.now q.cursor.at (λ k. k ≡ t_end) f.place →
    Rejects (terms_of p.terms) p.cursor.text.now (rule_number f.rule) f.place
unfolding deepest
after_state {p} {q} f start h e m =
    let V = terms_of p.terms in
    whole_wrong (astray f (print V.word 32 h.formula) _ refl e (read_first start h) t_end (due_end V h.formula h.ends.over) (only_end V h.formula)
    (subst (λ (x : Bor (L.List ℕ)). Miss x.now q.cursor.at (λ k. k ≡ t_end) f.place) h.spent.text m))

-- and nothing after it
pub whole_state : {p q : Parser} {at to : ℕ} → p.cursor.at ≡ 0 → (h : Stated 32 p q at) → Lexes q.cursor.text.now q.cursor.at (t_end ∷ []) to → Accepts (terms_of p.terms) p.cursor.text.now h.formula
unfolding deepest
whole_state {p} {q} {to = to} start h e =
    let V = terms_of p.terms in
    let last = subst (λ (x : Bor (L.List ℕ)). Lexes x.now q.cursor.at (t_end ∷ []) to) h.spent.text e in
    accepted V (words_apart p.terms.legend p.terms.agents) (record { over = h.ends.over; to = to; lexed = lexes_more p.cursor.text.now 0 q.cursor.at to (print V.word 32 h.formula) (t_end ∷ []) (read_first start h) last })

-- what `map_err` leaves of a result
pub at_map_err : {T E D : Type 0} (A : T → Type 0) (B : E → Type 0) (R : E → D → Type 0) (P : T → Type 0) (Q : D → Type 0) (r : Result T E) (s : Result T D) →
    MatchResult r (λ x. s ≡ Ok x) (λ e. IsErrAnd s (R e)) → MatchResult r A B → ((x : T) → A x → P x) → ((e : E) (d : D) → R e d → B e → Q d) → MatchResult s P Q
at_map_err A B R P Q (Ok x) s m f ok err = subst (λ z. MatchResult z P Q) (sym m) (ok x f)
at_map_err A B R P Q (Err e) (Ok y) m f ok err = absurd m
at_map_err A B R P Q (Err e) (Err d) m f ok err = err e d m f
