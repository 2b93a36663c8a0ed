-- A text is accepted for one formula or refused for one reason at one place, and never both.
use Rattle.std.proofs.Common.{◌≡◌, ℕ, zero, suc, ◌^◌, ◌<◌, List, [], ◌∷◌, ◌++◌, sym, refl, ap, ◌∙◌, subst, inl, inr, append_assoc, append-nil, arith}
use Rattle.logic.specs.Logic.{Formula, verum, mark, neg, both, either, next, always, until}
use Rattle.grammar.specs.Tokens.{
  Tok,
  t_true,
  t_name,
  t_agents,
  t_not,
  t_and,
  t_or,
  t_open,
  t_close,
  t_less,
  t_greater,
  t_next,
  t_always,
  t_until,
  t_end,
  t_gap,
  Blank,
  Run,
  TokAt,
  Lexes,
}
use Rattle.grammar.specs.Grammar.{Vocabulary, Over, members, print, deepest, sentence, Due, Goes, Stuck, like}
use Rattle.grammar.specs.Texts.{Fails, Refused, Spelled, Accepts, Rejects}
use Rattle.grammar.proofs.Prints.{tag, rest_of, print_free}
use Rattle.grammar.proofs.Lexing.{run_unique, spells_real, tok_unique, strange_alone, Further, lexes_front}
use Rattle.grammar.proofs.Single.{Apart, real_left, lexes_real, print_one}

-- a name or agents that the vocabulary has
abbrev Spoken : Vocabulary → Tok → Type 0
Spoken V t_true = Unit {0}
Spoken V (t_name w) = (i : ℕ) × (i < V.marks) × (V.word i ≡ w)
Spoken V (t_agents A) = A < 2 ^ V.agents
Spoken V t_not = Unit {0}
Spoken V t_and = Unit {0}
Spoken V t_or = Unit {0}
Spoken V t_open = Unit {0}
Spoken V t_close = Unit {0}
Spoken V t_less = Unit {0}
Spoken V t_greater = Unit {0}
Spoken V t_next = Unit {0}
Spoken V t_always = Unit {0}
Spoken V t_until = Unit {0}
Spoken V t_end = Unit {0}
Spoken V t_gap = Unit {0}

abbrev AllSpoken : Vocabulary → List Tok → Type 0
AllSpoken V [] = Unit {0}
AllSpoken V (t ∷ ts) = Spoken V t × AllSpoken V ts

module _ (V : Vocabulary) where
  all_more : (a b : List Tok) → AllSpoken V a → AllSpoken V b → AllSpoken V (a ++ b)
  all_more [] b h k = k
  all_more (t ∷ a) b h k = (h.0, all_more a b h.1 k)

  all_at : (a : List Tok) (t : Tok) (b : List Tok) → AllSpoken V (a ++ t ∷ b) → Spoken V t
  all_at [] t b h = h.0
  all_at (u ∷ a) t b h = all_at a t b h.1

  members_spoken : (A : ℕ) → A < 2 ^ V.agents → AllSpoken V (members A)
  members_spoken zero h = tt
  members_spoken (suc A) h = (h, tt)

  print_spoken : (d : ℕ) (f : Formula) → Over V f → AllSpoken V (print V.word d f)
  print_spoken zero f o = (tt, tt)
  print_spoken (suc d) verum o = (tt, tt)
  print_spoken (suc d) (mark i) o = ((i, o, refl), tt)
  print_spoken (suc d) (neg f) o = (tt, print_spoken d f o)
  print_spoken (suc d) (both f g) o = (tt, all_more (print V.word d f) _ (print_spoken d f o.0) (tt, all_more (print V.word d g) _ (print_spoken d g o.1) (tt, tt)))
  print_spoken (suc d) (either f g) o = (tt, all_more (print V.word d f) _ (print_spoken d f o.0) (tt, all_more (print V.word d g) _ (print_spoken d g o.1) (tt, tt)))
  print_spoken (suc d) (next A f) o = (tt, all_more (members A) _ (members_spoken A o.0) (tt, (tt, print_spoken d f o.1)))
  print_spoken (suc d) (always A f) o = (tt, all_more (members A) _ (members_spoken A o.0) (tt, (tt, print_spoken d f o.1)))
  print_spoken (suc d) (until A f g) o = (tt, all_more (members A) _ (members_spoken A o.0) (tt, (tt, all_more (print V.word d f) _ (print_spoken d f o.1) (tt, all_more (print V.word d g) _ (print_spoken d g o.2) (tt, tt)))))

  abbrev W : Formula → List Tok
  W = sentence V.word

  due_spoken : {ts : List Tok} {t : Tok} → Due V W ts t → Spoken V t
  due_spoken {ts} {t} h =
      all_at ts t h.rest (subst (AllSpoken V) h.is (all_more (print V.word deepest h.formula) _ (print_spoken deepest h.formula h.over) (tt, tt)))

  not_stuck : {ts : List Tok} {t : Tok} → Goes W ts t → Stuck W ts t → ⊥
  not_stuck h s = s.never h.formula [] h.rest (append-nil _ ∙ h.is)

  due_goes : {ts : List Tok} {t : Tok} → Due V W ts t → Goes W ts t
  due_goes h = record { formula = h.formula; rest = h.rest; is = h.is }

  -- what fails isn't due
  fails_stop : {text : List ℕ} {ts : List Tok} {from p r q n : ℕ} {t : Tok} → Fails V W text ts from p n → TokAt text from r q t → Due V W ts t → ⊥
  fails_stop {t = t} (Fails.deep g s b) at due = not_stuck (due_goes due) (s t (spells_real at.spells))
  fails_stop (Fails.strange s b) at due = strange_alone b at
  fails_stop {ts = ts} {t = t} (Fails.undue s q u b a l) at due = not_stuck (due_goes due) (subst (Stuck W ts) (sym (tok_unique at b).1) a)
  fails_stop {t = t} (Fails.unknown q w b g none) at due =
      let spoken = subst (Spoken V) (tok_unique at b).1 (due_spoken due) in
      none spoken.0 spoken.1 spoken.2
  fails_stop {t = t} (Fails.missing q A b g none) at due = none (subst (Spoken V) (tok_unique at b).1 (due_spoken due))

  fails_blanks : {text : List ℕ} {ts : List Tok} {from p n : ℕ} → Fails V W text ts from p n → Run Blank text from p
  fails_blanks (Fails.deep g s b) = b
  fails_blanks (Fails.strange s b) = b.blanks
  fails_blanks (Fails.undue s q t b a l) = b.blanks
  fails_blanks (Fails.unknown q w b g none) = b.blanks
  fails_blanks (Fails.missing q A b g none) = b.blanks

  like_at : {text : List ℕ} {ts : List Tok} {from p r q s : ℕ} {t u : Tok} → TokAt text from p q t → TokAt text from r s u → Stuck W ts (like t) → Goes W ts (like u) → ⊥
  like_at {ts = ts} a b stuck goes = not_stuck goes (subst (λ (x : Tok). Stuck W ts (like x)) (tok_unique a b).1 stuck)

  name_agents : {text : List ℕ} {from p r q s A : ℕ} {w : List ℕ} → TokAt text from p q (t_name w) → TokAt text from r s (t_agents A) → ⊥
  name_agents a b = omega (arith, ap tag (tok_unique a b).1)

  -- one place has one number
  fails_number : {text : List ℕ} {ts : List Tok} {from p r m n : ℕ} → Fails V W text ts from p m → Fails V W text ts from r n → m ≡ n
  fails_number (Fails.deep g s b) (Fails.deep h u c) = refl
  fails_number (Fails.deep g s b) (Fails.strange u c) = absurd (not_stuck g u)
  fails_number (Fails.deep g s b) (Fails.undue u q t c a l) = absurd (not_stuck g u)
  fails_number (Fails.deep g s b) (Fails.unknown q w c h none) = absurd (not_stuck h (s t_true (λ e. omega (arith, ap tag e))))
  fails_number (Fails.deep g s b) (Fails.missing q A c h none) = absurd (not_stuck h (s (t_agents A) (λ e. omega (arith, ap tag e))))
  fails_number (Fails.strange s b) (Fails.deep h u c) = absurd (not_stuck h s)
  fails_number (Fails.strange s b) (Fails.strange u c) = refl
  fails_number (Fails.strange s b) (Fails.undue u q t c a l) = refl
  fails_number (Fails.strange s b) (Fails.unknown q w c h none) = absurd (strange_alone b c)
  fails_number (Fails.strange s b) (Fails.missing q A c h none) = absurd (strange_alone b c)
  fails_number (Fails.undue s q t b a l) (Fails.deep h u c) = absurd (not_stuck h s)
  fails_number (Fails.undue s q t b a l) (Fails.strange u c) = refl
  fails_number (Fails.undue s q t b a l) (Fails.undue u o v c e m) = refl
  fails_number (Fails.undue s q t b a l) (Fails.unknown o w c h none) = absurd (like_at b c l h)
  fails_number (Fails.undue s q t b a l) (Fails.missing o A c h none) = absurd (like_at b c l h)
  fails_number (Fails.unknown q w b g none) (Fails.deep h u c) = absurd (not_stuck g (u t_true (λ e. omega (arith, ap tag e))))
  fails_number (Fails.unknown q w b g none) (Fails.strange u c) = absurd (strange_alone c b)
  fails_number (Fails.unknown q w b g none) (Fails.undue u o v c e m) = absurd (like_at c b m g)
  fails_number (Fails.unknown q w b g none) (Fails.unknown o v c h never) = refl
  fails_number (Fails.unknown q w b g none) (Fails.missing o A c h never) = absurd (name_agents b c)
  fails_number (Fails.missing q A b g none) (Fails.deep h u c) = absurd (not_stuck g (u (t_agents A) (λ e. omega (arith, ap tag e))))
  fails_number (Fails.missing q A b g none) (Fails.strange u c) = absurd (strange_alone c b)
  fails_number (Fails.missing q A b g none) (Fails.undue u o v c e m) = absurd (like_at c b m g)
  fails_number (Fails.missing q A b g none) (Fails.unknown o w c h never) = absurd (name_agents c b)
  fails_number (Fails.missing q A b g none) (Fails.missing o B c h never) = refl

  -- a formula that goes on after tokens goes on with the next of them
  due_next : {ts us : List Tok} {u : Tok} (t : Tok) (rest : List Tok) → us ≡ ts ++ t ∷ rest → Due V W us u → Due V W ts t
  due_next {ts} {u = u} t rest e d = record {
    formula = d.formula;
    rest = rest ++ u ∷ d.rest;
    over = d.over;
    is = d.is ∙ ap (λ (l : List Tok). l ++ u ∷ d.rest) e ∙ append_assoc ts (t ∷ rest) (u ∷ d.rest);
  }

  -- nothing comes before a refusal
  ends_here : {text : List ℕ} {ts us : List Tok} {from end p n : ℕ} {u : Tok} → Further text ts us from end → Fails V W text ts from p n → Due V W us u → (us ≡ ts) × (end ≡ from)
  ends_here {text} {ts} {us} {from} {end} {u = u} h f due = go h.rest h.is h.lexed
    where
      go : (rest : List Tok) → us ≡ ts ++ rest → Lexes text from rest end → (us ≡ ts) × (end ≡ from)
      go [] e l = (e ∙ append-nil ts, sym l)
      go (t ∷ rest) e l = absurd (fails_stop f l.2 (due_next t rest e due))

  module _ {text : List ℕ} {number place : ℕ} (r : Refused V text number place) where
    pub refused_once : (a p : ℕ) → Refused V text a p → (a ≡ number) × (p ≡ place)
    refused_once a p o = elim (lexes_front text 0 r.from o.from r.tokens o.tokens r.lexed o.lexed) [
      | inl f ↦ let same = ends_here f r.fails o.begun.1 in alike (sym same.0) (sym same.1)
      | inr f ↦ let same = ends_here f o.fails r.begun.1 in alike same.0 same.1
    ]
      where
        alike : r.tokens ≡ o.tokens → r.from ≡ o.from → (a ≡ number) × (p ≡ place)
        alike e h =
            let moved : Fails V W text o.tokens o.from place number = subst (λ (n : ℕ). Fails V W text o.tokens n place number) h (subst (λ (l : List Tok). Fails V W text l r.from place number) e r.fails) in
            (fails_number o.fails moved, run_unique (fails_blanks o.fails) (fails_blanks moved))

    -- a whole text does not go on
    whole : (g f : Formula) (rest : List Tok) → W f ≡ W g ++ rest → rest ≡ []
    whole g f rest e = sym (rest_of (print_free V.word deepest f g _ _ (e ∙ append_assoc (print V.word deepest g) (t_end ∷ []) rest)).1)

    pub refused_none : (g : Formula) → Spelled V text g → ⊥
    refused_none g s = elim (lexes_front text 0 r.from s.to r.tokens (W g) r.lexed s.lexed) [
      | inl f ↦ go f.rest f.is f.lexed
      | inr f ↦ longer f.rest f.is
    ]
      where
        t : Tok
        t = r.begun.0

        due : Due V W r.tokens t
        due = r.begun.1

        longer : (rest : List Tok) → r.tokens ≡ W g ++ rest → ⊥
        longer rest e = nothing rest (whole g due.formula (rest ++ t ∷ due.rest) (due.is ∙ ap (λ (l : List Tok). l ++ t ∷ due.rest) e ∙ append_assoc (W g) rest (t ∷ due.rest)))
          where
            nothing : (a : List Tok) → a ++ t ∷ due.rest ≡ [] → ⊥
            nothing [] e = let z : ◌≡◌ {A = ℕ} 0 1 = cc in omega arith
            nothing (x ∷ a) e = let z : ◌≡◌ {A = ℕ} 0 1 = cc in omega arith

        go : (rest : List Tok) → W g ≡ r.tokens ++ rest → Lexes text r.from rest s.to → ⊥
        go [] e l = longer [] (sym (e ∙ append-nil r.tokens) ∙ sym (append-nil (W g)))
        go (u ∷ rest) e l = fails_stop r.fails l.2 (record { formula = g; rest = rest; over = s.over; is = e })

    pub rejected : Rejects V text number place
    rejected = record { refused = r; only = refused_once; none = refused_none }

  pub spelled_once : Apart V → {text : List ℕ} {f : Formula} → Spelled V text f → (g : Formula) → Spelled V text g → g ≡ f
  spelled_once differ {text} {f} a g b = elim (lexes_front text 0 a.to b.to (W f) (W g) a.lexed b.lexed) [
    | inl h ↦ sym (same f g a.over b.over a.to a.lexed h.rest h.is)
    | inr h ↦ same g f b.over a.over b.to b.lexed h.rest h.is
  ]
    where
      same : (k l : Formula) → Over V k → Over V l → (to : ℕ) → Lexes text 0 (W k) to → (rest : List Tok) → W l ≡ W k ++ rest → k ≡ l
      same k l o u to x rest e =
          print_one V differ deepest k l o u
          (sym (print_free V.word deepest l k _ _ (e ∙ append_assoc (print V.word deepest k) (t_end ∷ []) rest)).0)
          (real_left (print V.word deepest k) _ (lexes_real text 0 to (W k) x))

  pub accepted : Apart V → {text : List ℕ} {f : Formula} → Spelled V text f → Accepts V text f
  accepted differ s = record { spelled = s; only = spelled_once differ s }
