-- Which tokens are due after others, and what it is where another stands there.
use Rattle.std.proofs.Common.{◌≡◌, ℕ, zero, suc, ◌^◌, ◌<◌, ◌≤◌, List, [], ◌∷◌, ◌++◌, sym, refl, ap, ◌∙◌, append_assoc, arith, pow_pos}
use Rattle.logic.specs.Logic.{Formula, verum, mark, neg, both, either, next, always, until}
use Rattle.grammar.specs.declared.Joint.{Joint}
use Rattle.grammar.specs.declared.Joint.TheVariants.{And, Or}
use Rattle.grammar.specs.declared.Ahead.{Ahead}
use Rattle.grammar.specs.declared.Ahead.TheVariants.{Next, Always}
use Rattle.grammar.specs.Tokens.{Tok, t_true, t_name, t_agents, t_not, t_and, t_or, t_open, t_close, t_less, t_greater, t_next, t_always, t_until, t_end, t_gap, Blank, Run, TokAt, Lexes}
use Rattle.grammar.specs.Grammar.{Vocabulary, Over, members, group, print, joined_by, joint_tok, ahead_tok, deepest, sentence, Due, Goes, Stuck, like}
use Rattle.grammar.specs.Texts.{Fails}
use Rattle.grammar.specs.Parts.{Wrong, Miss}
use Rattle.grammar.proofs.Prints.{tag, rest_of, head_of, inv_open, Path, inv_less, inv_path, ahead_open, group_more, print_joined, print_free}

-- the only tokens that can come after ts are of a kind; it has a name where it has `true`, and no gap
pub record Only (W : Formula → List Tok) (ts : List Tok) (Wanted : Tok → Type 0) : Type 0 where
  pub wants : (F : Formula) (a b : List Tok) (t : Tok) → W F ++ a ≡ ts ++ t ∷ b → Wanted t
  pub kin : (t : Tok) → Wanted (like t) → Wanted t
  pub no_gap : Wanted t_gap → ⊥

module _ (V : Vocabulary) {W : Formula → List Tok} {ts : List Tok} {Wanted : Tok → Type 0} (only : Only W ts Wanted) where
  stuck : (t : Tok) → (Wanted t → ⊥) → Stuck W ts t
  stuck t h = record { never = λ F a b e. h (only.wants F a b t e) }

  missed_fails : {text : List ℕ} {from place : ℕ} → Miss text from Wanted place → Fails V W text ts from place 11
  missed_fails (Miss.strange s) = Fails.strange (stuck t_gap only.no_gap) s
  missed_fails (Miss.other q t at h) = Fails.undue (stuck t_gap only.no_gap) q t at (stuck t h) (stuck (like t) (λ w. h (only.kin t w)))

-- something else stands where one of these is due
pub missed : {V : Vocabulary} {W : Formula → List Tok} {Wanted : Tok → Type 0} {text : List ℕ} {mid place : ℕ} (from : ℕ) (pre us : List Tok) →
    Lexes text from us mid → (t : Tok) → Due V W (pre ++ us) t → Only W (pre ++ us) Wanted → Miss text mid Wanted place → Wrong V W text pre from 11 place
missed {V} {mid = mid} from pre us l t due only m = record { tokens = us; at = mid; lexed = l; begun = (t, due); fails = missed_fails V only m }

-- a token that is no name is like itself alone
like_same : (t u : Tok) → (u ≡ t_true → ⊥) → like t ≡ u → t ≡ u
like_same t_true u n e = e
like_same (t_name w) u n e = absurd (n (sym e))
like_same (t_agents A) u n e = e
like_same t_not u n e = e
like_same t_and u n e = e
like_same t_or u n e = e
like_same t_open u n e = e
like_same t_close u n e = e
like_same t_less u n e = e
like_same t_greater u n e = e
like_same t_next u n e = e
like_same t_always u n e = e
like_same t_until u n e = e
like_same t_end u n e = e
like_same t_gap u n e = e

-- one token alone can come
only_one : {W : Formula → List Tok} {ts : List Tok} (u : Tok) → (tag u ≡ 1 → ⊥) → (tag u ≡ 15 → ⊥) → ((F : Formula) (a b : List Tok) (t : Tok) → W F ++ a ≡ ts ++ t ∷ b → t ≡ u) → Only W ts (λ t. t ≡ u)
only_one u n m h = record {
  wants = h;
  kin = λ t e. like_same t u (λ x. n (ap tag x)) e;
  no_gap = λ e. m (ap tag (sym e));
}

joint_real : (j : Joint) → ((joint_tok j ≡ t_true) → ⊥) × ((t_gap ≡ joint_tok j) → ⊥)
joint_real And = (λ e. omega (arith, ap tag e), λ e. omega (arith, ap tag e))
joint_real Or = (λ e. omega (arith, ap tag e), λ e. omega (arith, ap tag e))

ahead_real : (h : Ahead) → ((ahead_tok h ≡ t_true) → ⊥) × ((t_gap ≡ ahead_tok h) → ⊥)
ahead_real Next = (λ e. omega (arith, ap tag e), λ e. omega (arith, ap tag e))
ahead_real Always = (λ e. omega (arith, ap tag e), λ e. omega (arith, ap tag e))

-- the tokens that a state begins with
pub data Starts (t : Tok) : Type 0 where
  true : t ≡ t_true → Starts t
  name : (w : List ℕ) → t ≡ t_name w → Starts t
  not : t ≡ t_not → Starts t
  opens : t ≡ t_open → Starts t
  less : t ≡ t_less → Starts t

-- those that may follow `<`: agents that are some, or `>`
pub data Grouped (t : Tok) : Type 0 where
  agents : (A : ℕ) → t ≡ t_agents A → Grouped t
  greater : t ≡ t_greater → Grouped t

-- those that a path begins with
pub data Leads (t : Tok) : Type 0 where
  onward : (h : Ahead) → t ≡ ahead_tok h → Leads t
  opens : t ≡ t_open → Leads t

starts_kin : (t : Tok) → Starts (like t) → Starts t
starts_kin t_true s = s
starts_kin (t_name w) s = Starts.name w refl
starts_kin (t_agents A) s = s
starts_kin t_not s = s
starts_kin t_and s = s
starts_kin t_or s = s
starts_kin t_open s = s
starts_kin t_close s = s
starts_kin t_less s = s
starts_kin t_greater s = s
starts_kin t_next s = s
starts_kin t_always s = s
starts_kin t_until s = s
starts_kin t_end s = s
starts_kin t_gap s = s

starts_gap : Starts t_gap → ⊥
starts_gap (Starts.true e) = omega (arith, ap tag e)
starts_gap (Starts.name w e) = omega (arith, ap tag e)
starts_gap (Starts.not e) = omega (arith, ap tag e)
starts_gap (Starts.opens e) = omega (arith, ap tag e)
starts_gap (Starts.less e) = omega (arith, ap tag e)

grouped_kin : (t : Tok) → Grouped (like t) → Grouped t
grouped_kin t (Grouped.agents A e) = Grouped.agents A (like_same t (t_agents A) (λ x. omega (arith, ap tag x)) e)
grouped_kin t (Grouped.greater e) = Grouped.greater (like_same t t_greater (λ x. omega (arith, ap tag x)) e)

grouped_gap : Grouped t_gap → ⊥
grouped_gap (Grouped.agents A e) = omega (arith, ap tag e)
grouped_gap (Grouped.greater e) = omega (arith, ap tag e)

leads_kin : (t : Tok) → Leads (like t) → Leads t
leads_kin t (Leads.onward h e) = Leads.onward h (like_same t (ahead_tok h) (ahead_real h).0 e)
leads_kin t (Leads.opens e) = Leads.opens (like_same t t_open (λ x. omega (arith, ap tag x)) e)

leads_gap : Leads t_gap → ⊥
leads_gap (Leads.onward h e) = (ahead_real h).1 e
leads_gap (Leads.opens e) = omega (arith, ap tag e)

module _ (V : Vocabulary) (d : ℕ) where
  abbrev P : Formula → List Tok
  P = print V.word d

  abbrev Q : Formula → List Tok
  Q = print V.word (suc d)

  starts : (F : Formula) (a b : List Tok) (t : Tok) → Q F ++ a ≡ t ∷ b → Starts t
  starts verum a b t e = Starts.true (sym (head_of e))
  starts (mark i) a b t e = Starts.name _ (sym (head_of e))
  starts (neg f) a b t e = Starts.not (sym (head_of e))
  starts (both f g) a b t e = Starts.opens (sym (head_of e))
  starts (either f g) a b t e = Starts.opens (sym (head_of e))
  starts (next A f) a b t e = Starts.less (sym (head_of e))
  starts (always A f) a b t e = Starts.less (sym (head_of e))
  starts (until A f g) a b t e = Starts.less (sym (head_of e))

  pub only_start : Only Q [] Starts
  only_start = record { wants = starts; kin = starts_kin; no_gap = starts_gap }

  pub due_start : Due V Q [] t_true
  due_start = record { formula = verum; rest = []; over = tt; is = refl }

  pub only_joint : (f : Formula) → Only Q (t_open ∷ P f) (λ t. (j : Joint) × (t ≡ joint_tok j))
  only_joint f = record {
    wants = λ F a b t e.
        let i = inv_open V.word d F a _ e in
        (i.joint, sym (head_of (print_free V.word d i.left f _ _ i.reads).1));
    kin = λ t h. (h.0, like_same t (joint_tok h.0) (joint_real h.0).0 h.1);
    no_gap = λ h. (joint_real h.0).1 h.1;
  }

  pub due-joint : (f : Formula) → Over V f → Due V Q (t_open ∷ P f) t_and
  due-joint f o = record { formula = both f verum; rest = P verum ++ (t_close ∷ []); over = (o, tt); is = refl }

  pub only_close : (j : Joint) (f g : Formula) → Only Q (t_open ∷ (P f ++ (joint_tok j ∷ P g))) (λ t. t ≡ t_close)
  only_close j f g = only_one t_close (λ x. omega arith) (λ x. omega arith) (λ F a b t e.
      let i = inv_open V.word d F a _ e in
      let h = print_free V.word d i.left f _ _ (i.reads ∙ append_assoc (P f) (joint_tok j ∷ P g) (t ∷ b)) in
      sym (head_of (print_free V.word d i.right g _ _ (rest_of h.1)).1))

  over_joined : (j : Joint) (f g : Formula) → Over V f → Over V g → Over V (joined_by j f g)
  over_joined And f g a b = (a, b)
  over_joined Or f g a b = (a, b)

  pub due_close : (j : Joint) (f g : Formula) → Over V f → Over V g → Due V Q (t_open ∷ (P f ++ (joint_tok j ∷ P g))) t_close
  due_close j f g a b = record {
    formula = joined_by j f g;
    rest = [];
    over = over_joined j f g a b;
    is = print_joined V.word d j f g ∙ ap (λ (l : List Tok). t_open ∷ l) (sym (append_assoc (P f) (joint_tok j ∷ P g) (t_close ∷ [])));
  }

  members_head : (A : ℕ) (r : List Tok) (t : Tok) (b : List Tok) → members A ++ (t_greater ∷ r) ≡ t ∷ b → Grouped t
  members_head zero r t b e = Grouped.greater (sym (head_of e))
  members_head (suc A) r t b e = Grouped.agents (suc A) (sym (head_of e))

  pub only_group : Only Q (t_less ∷ []) Grouped
  only_group = record { wants = λ F a b t e. let i = inv_less V.word d F a _ e in members_head i.who i.rest t b i.reads; kin = grouped_kin; no_gap = grouped_gap }

  pub due-group : Due V Q (t_less ∷ []) t_greater
  due-group = record { formula = next 0 verum; rest = t_next ∷ P verum; over = (nobody, tt); is = refl }
    where
      nobody : 0 < 2 ^ V.agents
      nobody = pow_pos V.agents

  -- agents that are some are followed by `>`
  members_next : (A B : ℕ) (r : List Tok) (t : Tok) (b : List Tok) → members A ++ (t_greater ∷ r) ≡ t_agents B ∷ t ∷ b → t ≡ t_greater
  members_next zero B r t b e = absurd (omega (arith, ap tag (head_of e)))
  members_next (suc A) B r t b e = sym (head_of (rest_of e))

  pub only_greater : (A : ℕ) → Only Q (t_less ∷ t_agents A ∷ []) (λ t. t ≡ t_greater)
  only_greater A = only_one t_greater (λ x. omega arith) (λ x. omega arith) (λ F a b t e.
      let i = inv_less V.word d F a _ e in
      members_next i.who A i.rest t b i.reads)

  pub due_greater : (A : ℕ) → 1 ≤ A → A < 2 ^ V.agents → Due V Q (t_less ∷ t_agents A ∷ []) t_greater
  due_greater zero some h = absurd (omega arith)
  due_greater (suc A) some h = record { formula = next (suc A) verum; rest = t_next ∷ P verum; over = (h, tt); is = refl }

  goes_agents : (A : ℕ) → 1 ≤ A → Goes Q (t_less ∷ []) (t_agents A)
  goes_agents zero some = absurd (omega arith)
  goes_agents (suc A) some = record { formula = next (suc A) verum; rest = t_greater ∷ t_next ∷ P verum; is = refl }

  module _ (A : ℕ) where
    leads : {F : Formula} {a r : List Tok} (t : Tok) (b : List Tok) → r ≡ t ∷ b → Path V.word d F A a r → Leads t
    leads t b e (Path.one h f is r) = Leads.onward h (sym (head_of (r ∙ e)))
    leads t b e (Path.two f g is r) = Leads.opens (sym (head_of (r ∙ e)))

    pub only_path : Only Q (group A []) Leads
    only_path = record {
      wants = λ F a b t e. leads t b refl (inv_path V.word d F A a (t ∷ b) (e ∙ group_more A [] (t ∷ b)));
      kin = leads_kin;
      no_gap = leads_gap;
    }

    pub due_path : A < 2 ^ V.agents → Due V Q (group A []) t_next
    due_path h = record { formula = next A verum; rest = P verum; over = (h, tt); is = sym (group_more A [] (t_next ∷ P verum)) }

    pub only_until : (f : Formula) → Only Q (group A (t_open ∷ P f)) (λ t. t ≡ t_until)
    only_until f = only_one t_until (λ x. omega arith) (λ x. omega arith) (λ F a b t e. go F a b t (inv_path V.word d F A a _ (e ∙ group_more A (t_open ∷ P f) (t ∷ b))))
      where
        go : (F : Formula) (a b : List Tok) (t : Tok) → Path V.word d F A a (t_open ∷ (P f ++ t ∷ b)) → t ≡ t_until
        go F a b t (Path.one h g is r) = ahead_open h r
        go F a b t (Path.two g k is r) = sym (head_of (print_free V.word d g f _ _ (rest_of r)).1)

    pub due_until : (f : Formula) → A < 2 ^ V.agents → Over V f → Due V Q (group A (t_open ∷ P f)) t_until
    due_until f h o = record {
      formula = until A f verum;
      rest = P verum ++ (t_close ∷ []);
      over = (h, o, tt);
      is = sym (group_more A (t_open ∷ P f) (t_until ∷ (P verum ++ (t_close ∷ []))));
    }

    pub only_last : (f g : Formula) → Only Q (group A (t_open ∷ (P f ++ (t_until ∷ P g)))) (λ t. t ≡ t_close)
    only_last f g = only_one t_close (λ x. omega arith) (λ x. omega arith) (λ F a b t e. go F a b t (inv_path V.word d F A a _ (e ∙ group_more A (t_open ∷ (P f ++ (t_until ∷ P g))) (t ∷ b))))
      where
        go : (F : Formula) (a b : List Tok) (t : Tok) → Path V.word d F A a (t_open ∷ ((P f ++ (t_until ∷ P g)) ++ t ∷ b)) → t ≡ t_close
        go F a b t (Path.one h k is r) = ahead_open h r
        go F a b t (Path.two k l is r) =
            let x = print_free V.word d k f _ _ (rest_of r ∙ append_assoc (P f) (t_until ∷ P g) (t ∷ b)) in
            sym (head_of (print_free V.word d l g _ _ (rest_of x.1)).1)

    pub due_last : (f g : Formula) → A < 2 ^ V.agents → Over V f → Over V g → Due V Q (group A (t_open ∷ (P f ++ (t_until ∷ P g)))) t_close
    due_last f g h o u = record {
      formula = until A f g;
      rest = [];
      over = (h, o, u);
      is = ap (λ (l : List Tok). group A (t_open ∷ l)) (sym (append_assoc (P f) (t_until ∷ P g) (t_close ∷ []))) ∙ sym (group_more A (t_open ∷ (P f ++ (t_until ∷ P g))) (t_close ∷ []));
    }

-- agents that are some are one token
pub members_some : (A : ℕ) → 1 ≤ A → members A ≡ t_agents A ∷ []
members_some zero h = absurd (omega arith)
members_some (suc A) h = refl

-- after a whole state the text ends
pub only_end : (V : Vocabulary) (f : Formula) → Only (sentence V.word) (print V.word deepest f) (λ t. t ≡ t_end)
only_end V f = only_one t_end (λ x. omega arith) (λ x. omega arith) (λ F a b t e.
    sym (head_of (print_free V.word deepest F f _ _ (sym (append_assoc (print V.word deepest F) (t_end ∷ []) a) ∙ e)).1))

pub due_end : (V : Vocabulary) (f : Formula) → Over V f → Due V (sentence V.word) (print V.word deepest f) t_end
due_end V f o = record { formula = f; rest = []; over = o; is = refl }

-- a state where no depth is left
pub too_deep : {V : Vocabulary} {text : List ℕ} {from place : ℕ} → Run Blank text from place → Wrong V (print V.word 0) text [] from 14 place
too_deep {V} {text} {from} r = record {
  tokens = [];
  at = from;
  lexed = refl;
  begun = (t_gap, record { formula = verum; rest = []; over = tt; is = refl });
  fails = Fails.deep (record { formula = verum; rest = []; is = refl }) (λ t h. record { never = λ F a b e. h (sym (head_of e)) }) r;
}

-- a name that no mark has, where a state is due
pub no_mark : {V : Vocabulary} (d : ℕ) {text : List ℕ} {from place : ℕ} (q : ℕ) (w : List ℕ) → TokAt text from place q (t_name w) → ((i : ℕ) → i < V.marks → V.word i ≡ w → ⊥) →
    Wrong V (print V.word (suc d)) text [] from 12 place
no_mark {V} d {from = from} q w at none = record {
  tokens = [];
  at = from;
  lexed = refl;
  begun = (t_true, due_start V d);
  fails = Fails.unknown q w at (record { formula = verum; rest = []; is = refl }) none;
}

-- an agent that there isn't, after `<`
pub no_agent : {V : Vocabulary} (d : ℕ) {text : List ℕ} {from place : ℕ} (q A : ℕ) → TokAt text from place q (t_agents A) → 1 ≤ A → (A < 2 ^ V.agents → ⊥) →
    Wrong V (print V.word (suc d)) text (t_less ∷ []) from 13 place
no_agent {V} d {from = from} q A at some none = record {
  tokens = [];
  at = from;
  lexed = refl;
  begun = (t_greater, due-group V d);
  fails = Fails.missing q A at (goes_agents V d A some) none;
}
