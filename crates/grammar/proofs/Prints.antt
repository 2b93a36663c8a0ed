-- A formula is read back from the tokens that it is written with.
use Rattle.std.proofs.Common.{◌≡◌, ℕ, zero, suc, List, [], ◌∷◌, ◌++◌, sym, refl, ap, ◌∙◌, subst, append_assoc, arith}
use Rattle.logic.specs.Logic.{Formula, verum, mark, neg, both, either, next, always, until}
use Rattle.grammar.specs.declared.Joint.{Joint}
use Rattle.grammar.specs.declared.Joint.TheVariants.{And, Or}
use Rattle.grammar.specs.declared.Ahead.{Ahead}
use Rattle.grammar.specs.declared.Ahead.TheVariants.{Next, Always}
use Rattle.grammar.specs.Tokens.{
  Tok,
  t_true,
  t_name,
  t_agents,
  t_not,
  t_and,
  t_or,
  t_open,
  t_close,
  t_less,
  t_greater,
  t_next,
  t_always,
  t_until,
  t_end,
  t_gap,
}
use Rattle.grammar.specs.Grammar.{members, group, print, joined_by, joint_tok, ahead_by, ahead_tok}

-- a number for each kind of token, to tell them apart
abbrev pub tag : Tok → ℕ
tag t_true = 1
tag (t_name w) = 2
tag (t_agents A) = 3
tag t_not = 4
tag t_and = 5
tag t_or = 6
tag t_open = 7
tag t_close = 8
tag t_less = 9
tag t_greater = 10
tag t_next = 11
tag t_always = 12
tag t_until = 13
tag t_end = 14
tag t_gap = 15

abbrev first : List Tok → ℕ
first [] = 0
first (t ∷ ts) = tag t

abbrev tail : List Tok → List Tok
tail [] = []
tail (t ∷ ts) = ts

pub rest_of : {t u : Tok} {a b : List Tok} → t ∷ a ≡ u ∷ b → a ≡ b
rest_of e = ap tail e

pub head_of : {t u : Tok} {a b : List Tok} → t ∷ a ≡ u ∷ b → t ≡ u
head_of e = cc

-- two lists that begin differently
pub apart : {X : Type 0} {t u : Tok} {a b : List Tok} → t ∷ a ≡ u ∷ b → (tag t ≡ tag u → ⊥) → X
apart e h = absurd (h (ap tag (head_of e)))

-- an operand, a sign, an operand and a closing bracket, and what follows
pub shift : (f g : List Tok) (j : Tok) (a : List Tok) → (f ++ (j ∷ (g ++ (t_close ∷ [])))) ++ a ≡ f ++ (j ∷ (g ++ (t_close ∷ a)))
shift f g j a = append_assoc f _ a ∙ ap (λ (l : List Tok). f ++ (j ∷ l)) (append_assoc g (t_close ∷ []) a)

module _ (word : ℕ → List ℕ) (d : ℕ) where
  -- a state in brackets
  pub record Pairs (F : Formula) (a b : List Tok) : Type 0 where
    pub joint : Joint
    pub left : Formula
    pub right : Formula
    pub is : F ≡ joined_by joint left right
    pub reads : print word d left ++ (joint_tok joint ∷ (print word d right ++ (t_close ∷ a))) ≡ b

  pub inv_open : (F : Formula) (a b : List Tok) → print word (suc d) F ++ a ≡ t_open ∷ b → Pairs F a b
  inv_open verum a b e = absurd (omega (arith, ap first e))
  inv_open (mark i) a b e = absurd (omega (arith, ap first e))
  inv_open (neg f) a b e = absurd (omega (arith, ap first e))
  inv_open (both f g) a b e = record { joint = And; left = f; right = g; is = refl; reads = sym (shift (print word d f) (print word d g) t_and a) ∙ rest_of e }
  inv_open (either f g) a b e = record { joint = Or; left = f; right = g; is = refl; reads = sym (shift (print word d f) (print word d g) t_or a) ∙ rest_of e }
  inv_open (next A f) a b e = absurd (omega (arith, ap first e))
  inv_open (always A f) a b e = absurd (omega (arith, ap first e))
  inv_open (until A f g) a b e = absurd (omega (arith, ap first e))

  pub inv_true : (F : Formula) (a b : List Tok) → print word (suc d) F ++ a ≡ t_true ∷ b → (F ≡ verum) × (a ≡ b)
  inv_true verum a b e = (refl, rest_of e)
  inv_true (mark i) a b e = absurd (omega (arith, ap first e))
  inv_true (neg f) a b e = absurd (omega (arith, ap first e))
  inv_true (both f g) a b e = absurd (omega (arith, ap first e))
  inv_true (either f g) a b e = absurd (omega (arith, ap first e))
  inv_true (next A f) a b e = absurd (omega (arith, ap first e))
  inv_true (always A f) a b e = absurd (omega (arith, ap first e))
  inv_true (until A f g) a b e = absurd (omega (arith, ap first e))

  pub inv_name : (F : Formula) (w : List ℕ) (a b : List Tok) → print word (suc d) F ++ a ≡ t_name w ∷ b → (i : ℕ) × (F ≡ mark i) × (word i ≡ w) × (a ≡ b)
  inv_name verum w a b e = absurd (omega (arith, ap first e))
  inv_name (mark i) w a b e = (i, refl, cc, rest_of e)
  inv_name (neg f) w a b e = absurd (omega (arith, ap first e))
  inv_name (both f g) w a b e = absurd (omega (arith, ap first e))
  inv_name (either f g) w a b e = absurd (omega (arith, ap first e))
  inv_name (next A f) w a b e = absurd (omega (arith, ap first e))
  inv_name (always A f) w a b e = absurd (omega (arith, ap first e))
  inv_name (until A f g) w a b e = absurd (omega (arith, ap first e))

  pub inv_not : (F : Formula) (a b : List Tok) → print word (suc d) F ++ a ≡ t_not ∷ b → (f : Formula) × (F ≡ neg f) × (print word d f ++ a ≡ b)
  inv_not verum a b e = absurd (omega (arith, ap first e))
  inv_not (mark i) a b e = absurd (omega (arith, ap first e))
  inv_not (neg f) a b e = (f, refl, rest_of e)
  inv_not (both f g) a b e = absurd (omega (arith, ap first e))
  inv_not (either f g) a b e = absurd (omega (arith, ap first e))
  inv_not (next A f) a b e = absurd (omega (arith, ap first e))
  inv_not (always A f) a b e = absurd (omega (arith, ap first e))
  inv_not (until A f g) a b e = absurd (omega (arith, ap first e))

  -- what follows the agents A: a path, written r
  pub data Path (F : Formula) (A : ℕ) (a r : List Tok) : Type 0 where
    one : (h : Ahead) (f : Formula) → F ≡ ahead_by h A f → ahead_tok h ∷ (print word d f ++ a) ≡ r → Path F A a r
    two : (f g : Formula) → F ≡ until A f g → t_open ∷ (print word d f ++ (t_until ∷ (print word d g ++ (t_close ∷ a)))) ≡ r → Path F A a r

  pub record Strategy (F : Formula) (a b : List Tok) : Type 0 where
    pub who : ℕ
    pub rest : List Tok
    pub reads : members who ++ (t_greater ∷ rest) ≡ b
    pub path : Path F who a rest

  pub inv_less : (F : Formula) (a b : List Tok) → print word (suc d) F ++ a ≡ t_less ∷ b → Strategy F a b
  inv_less verum a b e = absurd (omega (arith, ap first e))
  inv_less (mark i) a b e = absurd (omega (arith, ap first e))
  inv_less (neg f) a b e = absurd (omega (arith, ap first e))
  inv_less (both f g) a b e = absurd (omega (arith, ap first e))
  inv_less (either f g) a b e = absurd (omega (arith, ap first e))
  inv_less (next A f) a b e = record {
    who = A;
    rest = t_next ∷ (print word d f ++ a);
    reads = sym (append_assoc (members A) _ a) ∙ rest_of e;
    path = Path.one Next f refl refl;
  }
  inv_less (always A f) a b e = record {
    who = A;
    rest = t_always ∷ (print word d f ++ a);
    reads = sym (append_assoc (members A) _ a) ∙ rest_of e;
    path = Path.one Always f refl refl;
  }
  inv_less (until A f g) a b e = record {
    who = A;
    rest = t_open ∷ ((print word d f ++ (t_until ∷ (print word d g ++ (t_close ∷ [])))) ++ a);
    reads = sym (append_assoc (members A) _ a) ∙ rest_of e;
    path = Path.two f g refl (ap (λ (l : List Tok). t_open ∷ l) (sym (shift (print word d f) (print word d g) t_until a)));
  }

-- the agents end at the bracket
pub members_same : (A B : ℕ) (r b : List Tok) → members A ++ (t_greater ∷ r) ≡ members B ++ (t_greater ∷ b) → (A ≡ B) × (r ≡ b)
members_same zero zero r b e = (refl, rest_of e)
members_same zero (suc B) r b e = absurd (omega (arith, ap first e))
members_same (suc A) zero r b e = absurd (omega (arith, ap first e))
members_same (suc A) (suc B) r b e = (cc, rest_of (rest_of e))

pub ahead_open : {X : Type 0} (h : Ahead) {a b : List Tok} → ahead_tok h ∷ a ≡ t_open ∷ b → X
ahead_open Next e = absurd (omega (arith, ap first e))
ahead_open Always e = absurd (omega (arith, ap first e))

pub joint_same : (i j : Joint) → joint_tok i ≡ joint_tok j → i ≡ j
joint_same And And e = refl
joint_same And Or e = absurd (omega (arith, ap tag e))
joint_same Or And e = absurd (omega (arith, ap tag e))
joint_same Or Or e = refl

pub ahead_same : (i j : Ahead) → ahead_tok i ≡ ahead_tok j → i ≡ j
ahead_same Next Next e = refl
ahead_same Next Always e = absurd (omega (arith, ap tag e))
ahead_same Always Next e = absurd (omega (arith, ap tag e))
ahead_same Always Always e = refl

pub group_more : (A : ℕ) (ts us : List Tok) → group A ts ++ us ≡ group A (ts ++ us)
group_more A ts us = ap (λ (l : List Tok). t_less ∷ l) (append_assoc (members A) (t_greater ∷ ts) us)

-- how an operator writes its formula
pub print_joined : (word : ℕ → List ℕ) (d : ℕ) (j : Joint) (f g : Formula) →
    print word (suc d) (joined_by j f g) ≡ t_open ∷ (print word d f ++ (joint_tok j ∷ (print word d g ++ (t_close ∷ []))))
print_joined word d And f g = refl
print_joined word d Or f g = refl

pub print_ahead : (word : ℕ → List ℕ) (d : ℕ) (h : Ahead) (A : ℕ) (f : Formula) →
    print word (suc d) (ahead_by h A f) ≡ group A (ahead_tok h ∷ print word d f)
print_ahead word d Next A f = refl
print_ahead word d Always A f = refl

module _ (word : ℕ → List ℕ) where
  -- the same where the agents are known
  pub inv_path : (d : ℕ) (F : Formula) (A : ℕ) (a b : List Tok) → print word (suc d) F ++ a ≡ group A b → Path word d F A a b
  inv_path d F A a b e =
      let i = inv_less word d F a _ e in
      let same = members_same i.who A i.rest b i.reads in
      subst (λ (x : ℕ). Path word d F x a b) same.0 (subst (Path word d F i.who a) same.1 i.path)

-- no formula is the front of another
abbrev pub Free : (ℕ → List ℕ) → ℕ → Type 0
Free word d = (f g : Formula) (a b : List Tok) → print word d f ++ a ≡ print word d g ++ b → (print word d f ≡ print word d g) × (a ≡ b)

-- and so one level up
module _ (word : ℕ → List ℕ) (d : ℕ) (below : Free word d) (g : Formula) (b : List Tok) where
  -- f is written as g is, and so is what follows
  abbrev Alike : Formula → List Tok → Type 0
  Alike f a = (print word (suc d) f ≡ print word (suc d) g) × (a ≡ b)

  pair : (j : Joint) (l r : Formula) (a : List Tok) → t_open ∷ (print word d l ++ (joint_tok j ∷ (print word d r ++ (t_close ∷ a)))) ≡ print word (suc d) g ++ b → Alike (joined_by j l r) a
  pair j l r a e =
      let i = inv_open word d g b _ (sym e) in
      let h = below l i.left _ _ (sym i.reads) in
      let m = below r i.right _ _ (rest_of h.1) in
      let same = joint_same j i.joint (head_of h.1) in (
        print_joined word d j l r ∙ (λ k. t_open ∷ (h.0 k ++ (joint_tok (same k) ∷ (m.0 k ++ (t_close ∷ []))))) ∙ sym (print_joined word d i.joint i.left i.right)
            ∙ ap (print word (suc d)) (sym i.is),
        rest_of m.1,
      )

  onward : (h : Ahead) (A : ℕ) (l : Formula) (a : List Tok) → Path word d g A b (ahead_tok h ∷ (print word d l ++ a)) → Alike (ahead_by h A l) a
  onward h A l a (Path.one i k is r) =
      let m = below l k a b (sym (rest_of r)) in
      let same = ahead_same h i (sym (head_of r)) in (
        print_ahead word d h A l ∙ (λ y. group A (ahead_tok (same y) ∷ m.0 y)) ∙ sym (print_ahead word d i A k) ∙ ap (print word (suc d)) (sym is),
        m.1,
      )
  onward h A l a (Path.two k m is r) = ahead_open h (sym r)

  later : (A : ℕ) (l r : Formula) (a : List Tok) → Path word d g A b (t_open ∷ (print word d l ++ (t_until ∷ (print word d r ++ (t_close ∷ a))))) → Alike (until A l r) a
  later A l r a (Path.one i k is e) = ahead_open i e
  later A l r a (Path.two k m is e) =
      let y = below l k _ _ (sym (rest_of e)) in
      let z = below r m _ _ (rest_of y.1) in (
        (λ t. group A (t_open ∷ (y.0 t ++ (t_until ∷ (z.0 t ++ (t_close ∷ [])))))) ∙ ap (print word (suc d)) (sym is),
        rest_of z.1,
      )

  free_more : (f : Formula) (a : List Tok) → print word (suc d) f ++ a ≡ print word (suc d) g ++ b → Alike f a
  free_more verum a e = let i = inv_true word d g b _ (sym e) in (ap (print word (suc d)) (sym i.0), sym i.1)
  free_more (mark n) a e =
      let i = inv_name word d g (word n) b _ (sym e) in
      (ap (λ (w : List ℕ). t_name w ∷ []) (sym i.2) ∙ ap (print word (suc d)) (sym i.1), sym i.3)
  free_more (neg l) a e =
      let i = inv_not word d g b _ (sym e) in
      let h = below l i.0 a b (sym i.2) in
      (ap (λ (t : List Tok). t_not ∷ t) h.0 ∙ ap (print word (suc d)) (sym i.1), h.1)
  free_more (both l r) a e = pair And l r a (sym (ap (λ (t : List Tok). t_open ∷ t) (shift (print word d l) (print word d r) t_and a)) ∙ e)
  free_more (either l r) a e = pair Or l r a (sym (ap (λ (t : List Tok). t_open ∷ t) (shift (print word d l) (print word d r) t_or a)) ∙ e)
  free_more (next A l) a e = onward Next A l a (inv_path word d g A b _ (sym e ∙ group_more A _ a))
  free_more (always A l) a e = onward Always A l a (inv_path word d g A b _ (sym e ∙ group_more A _ a))
  free_more (until A l r) a e =
      later A l r a (inv_path word d g A b _ (sym e ∙ group_more A _ a ∙ ap (λ (t : List Tok). group A (t_open ∷ t)) (shift (print word d l) (print word d r) t_until a)))

pub print_free : (word : ℕ → List ℕ) (d : ℕ) → Free word d
print_free word zero f g a b e = (refl, rest_of e)
print_free word (suc d) f g a b e = free_more word d (print_free word d) g b f a e
