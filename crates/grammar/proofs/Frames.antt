-- A part that fails makes the whole fail, at the same place.
use Rattle.std.proofs.Common.{◌≡◌, ℕ, suc, ◌^◌, ◌<◌, List, [], ◌∷◌, ◌++◌, sym, refl, ap, ◌∙◌, subst, append_assoc, append-nil}
use Rattle.logic.specs.Logic.{Formula, verum, neg, until}
use Rattle.grammar.specs.declared.Joint.{Joint}
use Rattle.grammar.specs.declared.Joint.TheVariants.{And, Or}
use Rattle.grammar.specs.declared.Ahead.{Ahead}
use Rattle.grammar.specs.declared.Ahead.TheVariants.{Next, Always}
use Rattle.grammar.specs.Tokens.{Tok, t_not, t_open, t_close, t_until, t_end, Lexes}
use Rattle.grammar.specs.Grammar.{Vocabulary, Over, group, print, joined_by, joint_tok, ahead_by, ahead_tok, sentence, deepest, Due, Goes, Stuck}
use Rattle.grammar.specs.Texts.{Fails}
use Rattle.grammar.specs.Parts.{Wrong}
use Rattle.grammar.proofs.Prints.{rest_of, Path, inv_not, inv_open, inv_path, ahead_open, group_more, print_joined, print_ahead, print_free}

pub lexes_more : (text : List ℕ) (from mid to : ℕ) (ts us : List Tok) → Lexes text from ts mid → Lexes text mid us to → Lexes text from (ts ++ us) to
lexes_more text from mid to [] us e l = subst (λ (n : ℕ). Lexes text n us to) (sym e) l
lexes_more text from mid to (t ∷ ts) us h l = (h.0, h.1, h.2, lexes_more text h.1 mid to ts us h.3 l)

-- tokens that were read go from the text to the front
pub wrong_before : {V : Vocabulary} {W : Formula → List Tok} {text : List ℕ} {mid number place : ℕ} (from : ℕ) (pre us : List Tok) →
    Lexes text from us mid → Wrong V W text (pre ++ us) mid number place → Wrong V W text pre from number place
wrong_before {V} {W} {text} {mid} {number} {place} from pre us k w = record {
  tokens = us ++ w.tokens;
  at = w.at;
  lexed = lexes_more text from mid w.at us w.tokens k w.lexed;
  begun = (w.begun.0, subst (λ (l : List Tok). Due V W l w.begun.0) (append_assoc pre us w.tokens) w.begun.1);
  fails = subst (λ (l : List Tok). Fails V W text l w.at place number) (append_assoc pre us w.tokens) w.fails;
}

-- kk stands before a part that is written W, in what is written W'
pub record Frame (V : Vocabulary) (W W' : Formula → List Tok) (kk : List Tok) : Type 0 where
  pub out : (f : Formula) → (F : Formula) × (b : List Tok) × (Over V f → Over V F) × (W' F ≡ kk ++ (W f ++ b))
  pub back : (F : Formula) (a b : List Tok) → W' F ++ a ≡ kk ++ b → (f : Formula) × (c : List Tok) × (W f ++ c ≡ b)

module _ {V : Vocabulary} {W W' : Formula → List Tok} {kk : List Tok} (k : Frame V W W' kk) where
  further : (f : Formula) (ts : List Tok) (t : Tok) (r : List Tok) → W f ≡ ts ++ t ∷ r → W' (k.out f).0 ≡ (kk ++ ts) ++ t ∷ (r ++ (k.out f).1)
  further f ts t r e =
      let b = (k.out f).1 in
      (k.out f).3 ∙ ap (λ (l : List Tok). kk ++ (l ++ b)) e ∙ ap (λ (l : List Tok). kk ++ l) (append_assoc ts (t ∷ r) b) ∙ sym (append_assoc kk ts (t ∷ (r ++ b)))

  due_in : {ts : List Tok} {t : Tok} → Due V W ts t → Due V W' (kk ++ ts) t
  due_in {ts} {t} d = record {
    formula = (k.out d.formula).0;
    rest = d.rest ++ (k.out d.formula).1;
    over = (k.out d.formula).2 d.over;
    is = further d.formula ts t d.rest d.is;
  }

  goes_in : {ts : List Tok} {t : Tok} → Goes W ts t → Goes W' (kk ++ ts) t
  goes_in {ts} {t} d = record { formula = (k.out d.formula).0; rest = d.rest ++ (k.out d.formula).1; is = further d.formula ts t d.rest d.is }

  stuck_in : {ts : List Tok} {t : Tok} → Stuck W ts t → Stuck W' (kk ++ ts) t
  stuck_in {ts} {t} s = record {
    never = λ F a b e. let i = k.back F a (ts ++ t ∷ b) (e ∙ append_assoc kk ts (t ∷ b)) in s.never i.0 i.1 b i.2;
  }

  fails_in : {text : List ℕ} {ts : List Tok} {from p n : ℕ} → Fails V W text ts from p n → Fails V W' text (kk ++ ts) from p n
  fails_in (Fails.deep g s b) = Fails.deep (goes_in g) (λ t h. stuck_in (s t h)) b
  fails_in (Fails.strange s b) = Fails.strange (stuck_in s) b
  fails_in (Fails.undue s q t b a l) = Fails.undue (stuck_in s) q t b (stuck_in a) (stuck_in l)
  fails_in (Fails.unknown q w b g none) = Fails.unknown q w b (goes_in g) none
  fails_in (Fails.missing q A b g none) = Fails.missing q A b (goes_in g) none

  pub lift : {text : List ℕ} {from number place : ℕ} → Wrong V W text [] from number place → Wrong V W' text kk from number place
  lift w = record { tokens = w.tokens; at = w.at; lexed = w.lexed; begun = (w.begun.0, due_in w.begun.1); fails = fails_in w.fails }

module _ (V : Vocabulary) (d : ℕ) where
  abbrev P : Formula → List Tok
  P = print V.word d

  abbrev Q : Formula → List Tok
  Q = print V.word (suc d)

  over_joined : (j : Joint) (f g : Formula) → Over V f → Over V g → Over V (joined_by j f g)
  over_joined And f g a b = (a, b)
  over_joined Or f g a b = (a, b)

  pub frame_not : Frame V P Q (t_not ∷ [])
  frame_not = record {
    out = λ f. (neg f, [], λ o. o, ap (λ (l : List Tok). t_not ∷ l) (sym (append-nil (P f))));
    back = λ F a b e. let i = inv_not V.word d F a b e in (i.0, a, i.2);
  }

  pub frame_left : Frame V P Q (t_open ∷ [])
  frame_left = record {
    out = λ f. (joined_by And f verum, joint_tok And ∷ (P verum ++ (t_close ∷ [])), λ o. (o, tt), refl);
    back = λ F a b e. let i = inv_open V.word d F a b e in (i.left, _, i.reads);
  }

  pub frame_right : (j : Joint) (f : Formula) → Over V f → Frame V P Q (t_open ∷ (P f ++ (joint_tok j ∷ [])))
  frame_right j f over = record {
    out = λ g. (
      joined_by j f g,
      t_close ∷ [],
      λ o. over_joined j f g over o,
      print_joined V.word d j f g ∙ ap (λ (l : List Tok). t_open ∷ l) (sym (append_assoc (P f) (joint_tok j ∷ []) _)),
    );
    back = λ F a b e.
        let i = inv_open V.word d F a _ e in
        let h = print_free V.word d i.left f _ _ (i.reads ∙ append_assoc (P f) (joint_tok j ∷ []) b) in
        (i.right, t_close ∷ a, rest_of h.1);
  }

  module _ (A : ℕ) (exists : A < 2 ^ V.agents) where
    over_ahead : (h : Ahead) (f : Formula) → Over V f → Over V (ahead_by h A f)
    over_ahead Next f o = (exists, o)
    over_ahead Always f o = (exists, o)

    pub frame_ahead : (h : Ahead) → Frame V P Q (group A (ahead_tok h ∷ []))
    frame_ahead h = record {
      out = λ f. (
        ahead_by h A f,
        [],
        over_ahead h f,
        print_ahead V.word d h A f ∙ ap (λ (l : List Tok). group A (ahead_tok h ∷ l)) (sym (append-nil (P f))) ∙ sym (group_more A (ahead_tok h ∷ []) (P f ++ [])),
      );
      back = λ F a b e. go F a b (inv_path V.word d F A a (ahead_tok h ∷ b) (e ∙ group_more A (ahead_tok h ∷ []) b));
    }
      where
        go : (F : Formula) (a b : List Tok) → Path V.word d F A a (ahead_tok h ∷ b) → (f : Formula) × (c : List Tok) × (P f ++ c ≡ b)
        go F a b (Path.one i f is r) = (f, a, rest_of r)
        go F a b (Path.two f g is r) = ahead_open h (sym r)

    pub frame_first : Frame V P Q (group A (t_open ∷ []))
    frame_first = record {
      out = λ f. (
        until A f verum,
        t_until ∷ (P verum ++ (t_close ∷ [])),
        λ o. (exists, o, tt),
        sym (group_more A (t_open ∷ []) (P f ++ (t_until ∷ (P verum ++ (t_close ∷ []))))),
      );
      back = λ F a b e. go F a b (inv_path V.word d F A a (t_open ∷ b) (e ∙ group_more A (t_open ∷ []) b));
    }
      where
        go : (F : Formula) (a b : List Tok) → Path V.word d F A a (t_open ∷ b) → (f : Formula) × (c : List Tok) × (P f ++ c ≡ b)
        go F a b (Path.one i f is r) = ahead_open i r
        go F a b (Path.two f g is r) = (f, _, rest_of r)

    pub frame_second : (f : Formula) → Over V f → Frame V P Q (group A (t_open ∷ (P f ++ (t_until ∷ []))))
    frame_second f over = record {
      out = λ g. (
        until A f g,
        t_close ∷ [],
        λ o. (exists, over, o),
        ap (λ (l : List Tok). group A (t_open ∷ l)) (sym (append_assoc (P f) (t_until ∷ []) _)) ∙ sym (group_more A (t_open ∷ (P f ++ (t_until ∷ []))) _),
      );
      back = λ F a b e. go F a b (inv_path V.word d F A a _ (e ∙ group_more A (t_open ∷ (P f ++ (t_until ∷ []))) b));
    }
      where
        go : (F : Formula) (a b : List Tok) → Path V.word d F A a (t_open ∷ ((P f ++ (t_until ∷ [])) ++ b)) → (g : Formula) × (c : List Tok) × (P g ++ c ≡ b)
        go F a b (Path.one i g is r) = ahead_open i r
        go F a b (Path.two g k is r) =
            let h = print_free V.word d g f _ _ (rest_of r ∙ append_assoc (P f) (t_until ∷ []) b) in
            (k, t_close ∷ a, rest_of h.1)

-- the whole text
pub frame_whole : (V : Vocabulary) → Frame V (print V.word deepest) (sentence V.word) []
frame_whole V = record {
  out = λ f. (f, t_end ∷ [], λ o. o, refl);
  back = λ F a b e. (F, t_end ∷ a, sym (append_assoc (print V.word deepest F) (t_end ∷ []) a) ∙ e);
}
