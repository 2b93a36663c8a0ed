-- Tokens without a gap spell one formula at most.
use Rattle.std.proofs.Common.{◌≡◌, ℕ, zero, suc, ◌^◌, ◌<◌, List, [], ◌∷◌, ◌++◌, sym, refl, ap, ◌∙◌, subst, append-nil}
use Rattle.logic.specs.Logic.{Formula, verum, mark, neg, both, either, next, always, until}
use Rattle.grammar.specs.declared.Joint.{Joint}
use Rattle.grammar.specs.declared.Joint.TheVariants.{And, Or}
use Rattle.grammar.specs.declared.Ahead.{Ahead}
use Rattle.grammar.specs.declared.Ahead.TheVariants.{Next, Always}
use Rattle.grammar.specs.Tokens.{Tok, t_open, t_close, t_until, t_gap, Lexes}
use Rattle.grammar.specs.Grammar.{Vocabulary, Over, members, print, joined_by, joint_tok, ahead_by, ahead_tok}
use Rattle.grammar.proofs.Prints.{
  rest_of,
  head_of,
  Pairs,
  inv_open,
  inv_true,
  inv_name,
  inv_not,
  Path,
  inv_path,
  ahead_open,
  joint_same,
  ahead_same,
  print_free,
}
use Rattle.grammar.proofs.Lexing.{spells_real}

-- no gap among these tokens
abbrev pub Real : List Tok → Type 0
Real [] = Unit {0}
Real (t ∷ ts) = (t ≡ t_gap → ⊥) × Real ts

pub real_left : (xs ys : List Tok) → Real (xs ++ ys) → Real xs
real_left [] ys h = tt
real_left (t ∷ xs) ys h = (h.0, real_left xs ys h.1)

real_right : (xs ys : List Tok) → Real (xs ++ ys) → Real ys
real_right [] ys h = h
real_right (t ∷ xs) ys h = real_right xs ys h.1

pub lexes_real : (text : List ℕ) (from to : ℕ) (ts : List Tok) → Lexes text from ts to → Real ts
lexes_real text from to [] l = tt
lexes_real text from to (t ∷ ts) l = (spells_real l.2.spells, lexes_real text l.1 to ts l.3)

over_joined : (V : Vocabulary) (j : Joint) (f g : Formula) → Over V (joined_by j f g) → Over V f × Over V g
over_joined V And f g h = h
over_joined V Or f g h = h

over_ahead : (V : Vocabulary) (h : Ahead) (A : ℕ) (f : Formula) → Over V (ahead_by h A f) → (A < 2 ^ V.agents) × Over V f
over_ahead V Next A f h = h
over_ahead V Always A f h = h

-- different marks have different words
abbrev pub Apart : Vocabulary → Type 0
Apart V = (i j : ℕ) → i < V.marks → j < V.marks → V.word i ≡ V.word j → i ≡ j

abbrev pub One : Vocabulary → ℕ → Type 0
One V d = (f g : Formula) → Over V f → Over V g → print V.word d f ≡ print V.word d g → Real (print V.word d f) → f ≡ g

module _ (V : Vocabulary) (differ : Apart V) (d : ℕ) (below : One V d) (g : Formula) (over : Over V g) where
  abbrev W : Formula → List Tok
  W = print V.word d

  pair : (j : Joint) (l r : Formula) → Over V l → Over V r → Real (W l ++ (joint_tok j ∷ (W r ++ (t_close ∷ [])))) → Pairs V.word d g [] (W l ++ (joint_tok j ∷ (W r ++ (t_close ∷ [])))) → joined_by j l r ≡ g
  pair j l r a b real i =
      let k = over_joined V i.joint i.left i.right (subst (Over V) i.is over) in
      let h = print_free V.word d i.left l _ _ i.reads in
      let m = print_free V.word d i.right r _ _ (rest_of h.1) in
      let same = joint_same j i.joint (sym (head_of h.1)) in
      let left = below l i.left a k.0 (sym h.0) (real_left (W l) _ real) in
      let right = below r i.right b k.1 (sym m.0) (real_left (W r) _ (real_right (W l) _ real).1) in
      (λ x. joined_by (same x) (left x) (right x)) ∙ sym i.is

  onward : (h : Ahead) (A : ℕ) (l : Formula) → Over V l → Real (W l) → Path V.word d g A [] (ahead_tok h ∷ W l) → ahead_by h A l ≡ g
  onward h A l a real (Path.one i k is e) =
      let same = ahead_same h i (sym (head_of e)) in
      let m : W k ≡ W l = sym (append-nil (W k)) ∙ rest_of e in
      let left = below l k a (over_ahead V i A k (subst (Over V) is over)).1 (sym m) real in
      (λ x. ahead_by (same x) A (left x)) ∙ sym is
  onward h A l a real (Path.two k m is e) = ahead_open h (sym e)

  later : (A : ℕ) (l r : Formula) → Over V l → Over V r → Real (W l ++ (t_until ∷ (W r ++ (t_close ∷ [])))) →
      Path V.word d g A [] (t_open ∷ (W l ++ (t_until ∷ (W r ++ (t_close ∷ []))))) → until A l r ≡ g
  later A l r a b real (Path.one i k is e) = ahead_open i e
  later A l r a b real (Path.two k n is e) =
      let o = subst (Over V) is over in
      let h = print_free V.word d k l _ _ (rest_of e) in
      let m = print_free V.word d n r _ _ (rest_of h.1) in
      let left = below l k a o.1 (sym h.0) (real_left (W l) _ real) in
      let right = below r n b o.2 (sym m.0) (real_left (W r) _ (real_right (W l) _ real).1) in
      (λ x. until A (left x) (right x)) ∙ sym is

  one_more : (f : Formula) → Over V f → print V.word (suc d) g ++ [] ≡ print V.word (suc d) f → Real (print V.word (suc d) f) → f ≡ g
  one_more verum o e real = sym (inv_true V.word d g [] _ e).0
  one_more (mark n) o e real =
      let i = inv_name V.word d g (V.word n) [] _ e in
      ap mark (sym (differ i.0 n (subst (Over V) i.1 over) o i.2)) ∙ sym i.1
  one_more (neg l) o e real =
      let i = inv_not V.word d g [] _ e in
      ap neg (below l i.0 o (subst (Over V) i.1 over) (sym i.2 ∙ append-nil _) real.1) ∙ sym i.1
  one_more (both l r) o e real = pair And l r o.0 o.1 real.1 (inv_open V.word d g [] _ e)
  one_more (either l r) o e real = pair Or l r o.0 o.1 real.1 (inv_open V.word d g [] _ e)
  one_more (next A l) o e real = onward Next A l o.1 (real_right (members A) _ real.1).1.1 (inv_path V.word d g A [] _ e)
  one_more (always A l) o e real = onward Always A l o.1 (real_right (members A) _ real.1).1.1 (inv_path V.word d g A [] _ e)
  one_more (until A l r) o e real = later A l r o.1 o.2 (real_right (members A) _ real.1).1.1 (inv_path V.word d g A [] _ e)

pub print_one : (V : Vocabulary) → Apart V → (d : ℕ) → One V d
print_one V differ zero f g a b e real = absurd (real.0 refl)
print_one V differ (suc d) f g a b e real = one_more V differ d (print_one V differ d) g b f a (append-nil _ ∙ sym e) real
