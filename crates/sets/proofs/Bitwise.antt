-- The bits of what the operators on numbers give.
use Rattle.std.proofs.Common.{◌≡◌, ℕ, zero, suc, ◌-◌, ◌/◌, ◌%◌, ◌^◌, ◌<◌, ◌≤◌, Bool, true, false, not, ◌&&◌, ◌||◌, T, eqb, ltb, ◌⊎◌, ◌↔◌, sym, refl, ap, ◌∙◌, subst, inl, inr, pow-suc, arith, eqb→eq, ltb→lt, lt→ltb}
use native.Mathlib.Nat.{sub-zero, div-eq_of_lt}
use lib.Dec.{eqb_refl, eqb-zero-suc, eqb-suc-zero, eqb-suc-suc, leb-suc-suc, leb-suc-zero}
use lib.Bits.{bit_and, bit_or, and_step, or_step}
use lib.Arith.{bin_ind}
use Rattle.std.proofs.lemmas.Nat.{shr_split, mod_below, and_shr, or_shr, shr-shr, pow_pos}
use Rattle.std.proofs.lemmas.Bool.Decides.{nat_tests}
use Rattle.std.proofs.lemmas.Bool.{eqb-false, ne_eqb, cases_lt}
use Rattle.sets.specs.Sets.{bit}

pub bit-or : (a b i : ℕ) → bit (bit_or a b) i ≡ (bit a i || bit b i)
bit-or a b i = rw or_shr (let e = or_step (a / 2 ^ i) (b / 2 ^ i) in grind (arith, nat_tests))

pub bit-and : (a b i : ℕ) → bit (bit_and a b) i ≡ (bit a i && bit b i)
bit-and a b i = rw and_shr (let e = and_step (a / 2 ^ i) (b / 2 ^ i) in grind (arith, nat_tests))

-- the bits one place on
pub bit_suc : (a i : ℕ) → bit a (suc i) ≡ bit (a / 2) i
bit_suc a i = ap (λ (x : ℕ). eqb (x % 2) 1) (ap (λ (k : ℕ). a / 2 ^ k) (omega arith) ∙ sym (shr-shr a 1 i))

pub bit_zero : (i : ℕ) → bit 0 i ≡ false
bit_zero zero = refl
bit_zero (suc i) = bit_suc 0 i ∙ bit_zero i

pub bit_high : (a w i : ℕ) → a < 2 ^ w → w ≤ i → bit a i ≡ false
bit_high a zero i h l = ap (λ (x : ℕ). bit x i) (omega arith) ∙ bit_zero i
bit_high a (suc w) zero h l = absurd (omega arith)
bit_high a (suc w) (suc i) h l = bit_suc a i ∙ bit_high (a / 2) w i (omega (arith, pow-suc 2 w)) (omega arith)

pub bit_power : (s i : ℕ) → bit (2 ^ s) i ≡ eqb i s
bit_power zero zero = refl
bit_power zero (suc i) = bit_suc 1 i ∙ bit_zero i ∙ sym (eqb-suc-zero i)
bit_power (suc s) zero = ne_eqb _ 1 (λ e. omega (arith, pow-suc 2 s)) ∙ sym (eqb-zero-suc s)
bit_power (suc s) (suc i) = bit_suc (2 ^ suc s) i ∙ ap (λ (x : ℕ). bit x i) (omega (arith, pow-suc 2 s)) ∙ bit_power s i ∙ sym (eqb-suc-suc i s)

pub bit_not : (w b i : ℕ) → b < 2 ^ w → bit (2 ^ w - 1 - b) i ≡ (ltb i w && not (bit b i))
bit_not zero b i h = ap (λ (x : ℕ). bit x i) (omega arith) ∙ bit_zero i ∙ rw leb-suc-zero
bit_not (suc w) b zero h = let e = pow-suc 2 w in let p = pow_pos w in grind (arith, nat_tests)
bit_not (suc w) b (suc i) h =
    bit_suc _ i ∙ ap (λ (x : ℕ). bit x i) (omega (arith, pow-suc 2 w)) ∙ bit_not w (b / 2) i (omega (arith, pow-suc 2 w)) ∙ rw (leb-suc-suc, bit_suc)

-- a number is 0 when none of its bits is set
pub bits_none : (a : ℕ) → ((i : ℕ) → bit a i ≡ false) → a ≡ 0
bits_none =
    bin_ind (λ (n : ℕ). ((i : ℕ) → bit n i ≡ false) → n ≡ 0) (λ h. refl)
    (λ n ih h. let z : n / 2 ≡ 0 = ih (λ i. sym (bit_suc n i) ∙ h (suc i)) in let o = eqb-false _ 1 (h 0) in omega (arith, o))

-- the same as statements

pub T_or : (x y : Bool) → T (x || y) ↔ (T x ⊎ T y)
T_or true y = (λ h. inl tt, λ h. tt)
T_or false y = (inr, λ h. elim h [ inl z ↦ absurd z | inr k ↦ k ])

pub T_and : (x y : Bool) → T (x && y) ↔ (T x × T y)
T_and true y = (λ h. (tt, h), λ h. h.1)
T_and false y = (λ h. absurd h, λ h. h.0)

pub T_not : (x : Bool) → T (not x) ↔ (T x → ⊥)
T_not true = (λ z h. z, λ f. f tt)
T_not false = (λ h z. z, λ f. tt)

-- a test that doesn't fail holds
pub tested : (x : Bool) → ((T x → ⊥) → ⊥) → T x
tested true n = tt
tested false n = n (λ z. z)

none : (x : Bool) → (T x → ⊥) → x ≡ false
none true f = absurd (f tt)
none false f = refl

pub or_holds : (a b i : ℕ) → T (bit (bit_or a b) i) ↔ (T (bit a i) ⊎ T (bit b i))
or_holds a b i = rw bit-or (T_or (bit a i) (bit b i))

pub and_holds : (a b i : ℕ) → T (bit (bit_and a b) i) ↔ (T (bit a i) × T (bit b i))
and_holds a b i = rw bit-and (T_and (bit a i) (bit b i))

pub below_holds : (a w i : ℕ) → a < 2 ^ w → T (bit a i) → i < w
below_holds a w i h t = elim (cases_lt i w) [ inl k ↦ k | inr k ↦ absurd (subst T (bit_high a w i h k) t) ]

pub not_holds : (w b i : ℕ) → b < 2 ^ w → T (bit (2 ^ w - 1 - b) i) ↔ ((i < w) × (T (bit b i) → ⊥))
not_holds w b i h =
    rw (bit_not w b i h)
    (λ t. (ltb→lt i w ((T_and _ _).0 t).0, (T_not _).0 ((T_and _ _).0 t).1), λ p. (T_and _ _).1 (lt→ltb i w p.0, (T_not _).1 p.1))

pub power_holds : (s i : ℕ) → T (bit (2 ^ s) i) ↔ (i ≡ s)
power_holds s i = rw bit_power (eqb→eq i s, λ e. rw e (eqb_refl s))

pub ones_holds : (w i : ℕ) → T (bit (2 ^ w - 1) i) ↔ (i < w)
ones_holds w i =
    let all : T (bit (2 ^ w - 1) i) ↔ ((i < w) × (T (bit 0 i) → ⊥)) = rw sub-zero at (not_holds w 0 i (pow_pos w)) in
    (λ t. (all.0 t).0, λ h. all.1 (h, λ t. subst T (bit_zero i) t))

pub none_hold : (a : ℕ) → (a ≡ 0) ↔ ((i : ℕ) → T (bit a i) → ⊥)
none_hold a = (λ e i t. subst T (bit_zero i) (subst (λ (x : ℕ). T (bit x i)) e t), λ f. bits_none a (λ i. none (bit a i) (f i)))

pub shifted_out : (a k : ℕ) → T (eqb (a / 2 ^ k) 0) ↔ (a < 2 ^ k)
shifted_out a k = (
  λ t. let e = eqb→eq (a / 2 ^ k) 0 t in let m = mod_below a (2 ^ k) (pow_pos k) in omega (arith, rw e at (shr_split a k)),
  λ h. rw (div-eq_of_lt h) tt,
)
