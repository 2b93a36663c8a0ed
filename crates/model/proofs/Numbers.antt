-- The law of the numbering: choices and numbers determine each other.
use Rattle.std.proofs.Common.{◌≡◌, ℕ, zero, suc, ◌+◌, ◌*◌, ◌/◌, ◌%◌, ◌<◌, ◌≤◌, Bool, true, false, cond, T, ◌↔◌, sym, refl, ap, ◌∙◌, subst, inl, inr, add-zero, mod-eq_of_lt, mul_assoc, mul_comm, mul-one, arith}
use native.Mathlib.Nat.{add-mul-div_left, add-mul-mod_self_left}
use lib.Arith.{mod-mul}
use Rattle.std.proofs.lemmas.Nat.{mod_below, div-add-mod', div-mul-add}
use Rattle.std.proofs.lemmas.Bool.{cases_eq}
use Rattle.sets.specs.Sets.{Set, bit}
use Rattle.model.specs.Model.{Model, Ranged, Numbering, moves, everyone, choice, number, own, own_of, owns}
use Rattle.model.proofs.Moving.{moves_pos, number_lt, own_lt}

-- a further agent's factor, kept or left out
factor : (b : Bool) (m d x q : ℕ) → m ≡ x * q → (p : ℕ) × (m * cond b d 1 ≡ x * p)
factor true m d x q e = (q * d, rw (e, mul_assoc))
factor false m d x q e = (q, mul-one m ∙ e)

factor_self : (b : Bool) (m d : ℕ) → T b → (p : ℕ) × (m * cond b d 1 ≡ m * d * p)
factor_self true m d t = (1, sym (mul-one (m * d)))
factor_self false m d t = absurd t

-- the count of the first agents is a multiple of the count up to any member
multiple : (A : Set) (d : ℕ → ℕ) (i a : ℕ) → i < a → T (A i) → (p : ℕ) × (moves A d a ≡ moves A d i * d i * p)
multiple A d i zero l t = absurd (omega arith)
multiple A d i (suc a) l t =
    elim (cases_eq i a) [
      | inl e ↦ subst (λ (z : ℕ). (p : ℕ) × (moves A d (suc a) ≡ moves A d z * d z * p)) (sym e)
          (factor_self (A a) (moves A d a) (d a) (subst (λ (z : ℕ). T (A z)) e t))
      | inr n ↦ let r = multiple A d i a (omega arith) t in factor (A a) (moves A d a) (d a) (moves A d i * d i) r.0 r.1
    ]

-- the choice of the last agent in a sum, and that of a lower one
top : (b : Bool) (o x m d : ℕ) → T b → o < m → x < d → (o + cond b (x * m) 0) / m % d ≡ x
top true o x m d t h l =
    let e : o + x * m ≡ x * m + o = omega arith in
    rw (e, div-mul-add x m o h) (mod-eq_of_lt l)
top false o x m d t h l = absurd t

deep : (b : Bool) (o x m n d p : ℕ) → m ≡ n * d * p → 0 < n → (o + cond b (x * m) 0) / n % d ≡ o / n % d
deep true o x m n d p e pos =
    let z : x * m ≡ n * (d * (p * x)) = mul_comm x m ∙ ap (λ (y : ℕ). y * x) e ∙ mul_assoc (n * d) p x ∙ mul_assoc n d (p * x) in
    rw (z, add-mul-div_left o (d * (p * x)) pos) (add-mul-mod_self_left (o / n) d (p * x))
deep false o x m n d p e pos = rw add-zero

module _ (A : Set) (d : ℕ → ℕ) where
  -- the number of some choices has these choices
  pub digit : (f : ℕ → ℕ) (i a : ℕ) → ((b : ℕ) → b < a → f b < d b) → i < a → T (A i) → choice A d i (number A d f a) ≡ f i
  digit f i zero h l t = absurd (omega arith)
  digit f i (suc a) h l t =
      let less : (b : ℕ) → b < a → f b < d b = λ b q. h b (omega arith) in
      elim (cases_eq i a) [
        | inl e ↦ subst (λ (z : ℕ). choice A d z (number A d f (suc a)) ≡ f z) (sym e)
            (top (A a) (number A d f a) (f a) (moves A d a) (d a) (subst (λ (z : ℕ). T (A z)) e t) (number_lt A d f a less) (h a (omega arith)))
        | inr n ↦
            let r = multiple A d i a (omega arith) t in
            deep (A a) (number A d f a) (f a) (moves A d a) (moves A d i) (d i) r.0 r.1 (moves_pos d a (λ b q. omega (arith, less b q)) A i (omega arith))
            ∙ digit f i a less (omega arith) t
      ]

  sum_more : (b : Bool) (j m e : ℕ) → 0 < m → 0 < e → j % m + cond b (j / m % e * m) 0 ≡ j % (m * cond b e 1)
  sum_more true j m e p q = rw (mul_comm m e) (omega (arith, mod-mul j {m = e} {c = m} q p))
  sum_more false j m e p q = rw (mul-one, add-zero)

  -- a number is that of its choices
  pub sum : (j a : ℕ) → ((b : ℕ) → b < a → 1 ≤ d b) → number A d (λ i. choice A d i j) a ≡ j % moves A d a
  sum j zero h = omega arith
  sum j (suc a) h =
      let less : (b : ℕ) → b < a → 1 ≤ d b = λ b q. h b (omega arith) in
      rw (sum j a less) (sum_more (A a) j (moves A d a) (d a) (moves_pos d a less A a (omega arith)) (h a (omega arith)))

  same_more : (b : Bool) (x y m : ℕ) → (T b → x ≡ y) → cond b (x * m) 0 ≡ cond b (y * m) 0
  same_more true x y m h = rw (h tt)
  same_more false x y m h = refl

  -- equal choices of the members have the same number
  pub number_same : (f g : ℕ → ℕ) (a : ℕ) → ((i : ℕ) → i < a → T (A i) → f i ≡ g i) → number A d f a ≡ number A d g a
  number_same f g zero h = refl
  number_same f g (suc a) h =
      let before = number_same f g a (λ i l. h i (omega arith)) in
      let here = same_more (A a) (f a) (g a) (moves A d a) (h a (omega arith)) in
      cc

  pub sum_below : (j a : ℕ) → ((b : ℕ) → b < a → 1 ≤ d b) → j < moves A d a → number A d (λ i. choice A d i j) a ≡ j
  sum_below j a h l = sum j a h ∙ mod-eq_of_lt l

-- what the first agents choose depends on a joint move's number modulo the count of theirs
pub own_periodic : (A : Set) (d : ℕ → ℕ) (a j : ℕ) → ((b : ℕ) → b < a → 1 ≤ d b) → own A d a (j % moves everyone d a) ≡ own A d a j
own_periodic A d a j pos =
    number_same A d (λ b. choice everyone d b (j % moves everyone d a)) (λ b. choice everyone d b j) a
    (λ b l t.
    let m = moves everyone d a in
    let r = multiple everyone d b a l tt in
    let whole : j % m + j / m * m ≡ j = omega (arith, div-add-mod' j m) in
    sym (deep true (j % m) (j / m) m (moves everyone d b) (d b) r.0 r.1 (moves_pos d a pos everyone b (omega arith)))
    ∙ ap (choice everyone d b) whole)

-- the choices of an own choice of A; the others take their first
within : (b : Bool) (x d : ℕ) → 1 ≤ d → x < d → cond b x 0 < d
within true x d p l = l
within false x d p l = omega arith

member_of : (b : Bool) (x : ℕ) → T b → cond b x 0 ≡ x
member_of true x t = refl
member_of false x t = absurd t

pub numbering : (M : Model) → Ranged M → (A s : ℕ) → s < M.n → Numbering M A s
numbering M r A s h =
    let d = M.d s in
    let k = M.k in
    let B = bit A in
    let pos : (b : ℕ) → b < k → 1 ≤ d b = λ b l. (r.choices s b h l).0 in
    let less : (j a : ℕ) → a < k → choice everyone d a j < d a = λ j a l. mod_below _ (d a) (pos a l) in
    let agrees : (j c : ℕ) → c < owns M A s → (own_of M A s j ≡ c) ↔ ((a : ℕ) → a < k → T (B a) → choice everyone d a j ≡ choice B d a c) =
    λ j c l. (
      λ e a q t. sym (digit B d (λ i. choice everyone d i j) a k (less j) q t) ∙ ap (choice B d a) e,
      λ f. number_same B d (λ i. choice everyone d i j) (λ i. choice B d i c) k f ∙ sum_below B d c k pos l,
    ) in
    record {
      choices = less;
      sum = λ j l. sum_below everyone d j k pos l;
      below = λ j. own_lt d k pos B j k (omega arith);
      agrees = agrees;
      met = λ c l.
          let f : ℕ → ℕ = λ a. cond (B a) (choice B d a c) 0 in
          let small : (b : ℕ) → b < k → f b < d b = λ b q. within (B b) (choice B d b c) (d b) (pos b q) (mod_below _ (d b) (pos b q)) in
          let j = number everyone d f k in
          (j, number_lt everyone d f k small, (agrees j c l).1 (λ a q t. digit everyone d f a k small q tt ∙ member_of (B a) (choice B d a c) t));
    }
