-- How long a row of parts is.
use Rattle.std.proofs.Common.{◌≡◌, ℕ, zero, suc, ◌+◌, ◌*◌, ◌<◌, ◌≤◌, List, ◌++◌, length, refl, inl, inr, add-one, arith, length-append}
use Rattle.std.proofs.lemmas.Bool.{cases_eq}
use Rattle.model.specs.Model.{Model, joint}
use Rattle.legend.specs.Legends.{names_of}
use Rattle.legend.specs.declared.Legend.{Legend}
use Rattle.legend.proofs.Holding.{name_eight}
use Rattle.file.specs.File.{upto, encode, begin, state, finish, counts_at, name_bytes, out_bytes, state_bytes, outcomes, file_of}

pub upto_more : {X : Type 0} (f : ℕ → List X) (n : ℕ) → upto f (n + 1) ≡ upto f n ++ f n
upto_more f n = rw add-one

pub length-upto : {X : Type 0} (f : ℕ → List X) (w n : ℕ) → ((i : ℕ) → i < n → length (f i) ≡ w) → length (upto f n) ≡ n * w
length-upto f w zero h = omega arith
length-upto f w (suc n) h = omega (arith, length-append (upto f n) (f n), length-upto f w n (λ i l. h i (omega arith)), h n (omega arith))

pub upto_grows : {X : Type 0} (f : ℕ → List X) (m n : ℕ) → m ≤ n → length (upto f m) ≤ length (upto f n)
upto_grows f m zero h = let e : m ≡ 0 = omega arith in rw e (omega arith)
upto_grows f m (suc n) h =
    elim (cases_eq m (suc n)) [
      | inl e ↦ rw e (omega arith)
      | inr q ↦ omega (arith, upto_grows f m n (omega arith), length-append (upto f n) (f n))
    ]

module _ (M : Model) where
  pub outs_length : (s n : ℕ) → length (upto (out_bytes M s) n) ≡ n * 2
  outs_length s n = length-upto (out_bytes M s) 2 n (λ i l. refl)

  pub state_length : (s : ℕ) → length (state_bytes M s) ≡ 9 + joint M s * 2
  state_length s = omega (arith, length-append (encode (state (M.marks s) (counts_at M s))) (upto (out_bytes M s) (joint M s)), outs_length s (joint M s))

  pub states-length : (n : ℕ) → length (upto (state_bytes M) n) ≡ n * 9 + outcomes M n * 2
  states-length zero = omega arith
  states-length (suc n) = omega (arith, length-append (upto (state_bytes M) n) (state_bytes M n), states-length n, state_length n)

-- each name fills ten bytes
pub names_length : (l : Legend) (n : ℕ) → n ≤ length (names_of l) → length (upto (name_bytes (names_of l)) n) ≡ n * 10
names_length l n h = length-upto (name_bytes (names_of l)) 10 n (λ i k. omega (arith, name_eight l i (omega arith)))

pub parts_length : (M : Model) (names : List (List ℕ)) → length (file_of M names) ≡ 7 + length (upto (name_bytes names) (length names)) + length (upto (state_bytes M) M.n)
unfolding file_of
parts_length M names =
    let states = upto (state_bytes M) M.n in
    let end = encode (finish (outcomes M M.n)) in
    omega (arith, length-append (upto (name_bytes names) (length names)) (states ++ end), length-append states end)

pub length_file_of : (M : Model) (l : Legend) → length (file_of M (names_of l)) ≡ 7 + 10 * length (names_of l) + 9 * M.n + 2 * outcomes M M.n
length_file_of M l = omega (arith, parts_length M (names_of l), names_length l (length (names_of l)) (omega arith), states-length M M.n)

pub outcomes_more : (M : Model) (s : ℕ) → outcomes M (s + 1) ≡ outcomes M s + joint M s
outcomes_more M s = rw add-one

-- the parts of a file
pub file_parts : (M : Model) (names : List (List ℕ)) →
    encode (begin M.k M.n (length names)) ++ (upto (name_bytes names) (length names) ++ (upto (state_bytes M) M.n ++ encode (finish (outcomes M M.n)))) ≡ file_of M names
unfolding file_of
file_parts M names = refl
