-- From what was read to the one answer.
use Rattle.std.proofs.Common.{◌≡◌, ℕ, zero, suc, ◌+◌, ◌^◌, ◌<◌, ◌≤◌, ltb, List, [], ◌∷◌, ◌++◌, length, sym, refl, ap, ◌∙◌, subst, ap₂, inl, inr, arith}
use Rattle.std.proofs.lemmas.Bool.{cases_lt, cond-true, cond-false, lt-ltb, le-ltb}
use Rattle.model.specs.Model.{Model, Same, everyone, joint}
use Rattle.model.proofs.Same.{moves_at, same_ranged, state_in}
use Rattle.file.specs.File.{begin, finish, state, encode, upto, count_of, name_bytes, out_bytes, state_bytes, outcomes, file_of}
use Rattle.file.specs.Reading.{Begins, Fileable, Refused}
use Rattle.file.proofs.Once.{refused_once}
use Rattle.file.proofs.Filing.{begins_same, no_file}
use Rattle.file.proofs.Spanning.{file_parts}
use Rattle.reader.specs.Whole.{Accepts, Rejects}
use Rattle.reader.proofs.Naming.{upto_same}

-- the same model has the same file
module _ {M N : Model} (same : Same M N) where
  count_same : (s a : ℕ) → s < M.n → count_of M s a ≡ count_of N s a
  count_same s a l =
      elim (cases_lt a M.k) [
        | inl h ↦ cond-true (ltb a M.k) (M.d s a) 0 (lt-ltb a M.k h) ∙ same.counted s a l h ∙ sym (cond-true (ltb a N.k) (N.d s a) 0 (lt-ltb a N.k (omega (arith, same.agents))))
        | inr h ↦ cond-false (ltb a M.k) (M.d s a) 0 (le-ltb a M.k h) ∙ sym (cond-false (ltb a N.k) (N.d s a) 0 (le-ltb a N.k (omega (arith, same.agents))))
      ]

  state_bytes_lem : (s : ℕ) → s < M.n → state_bytes M s ≡ state_bytes N s
  state_bytes_lem s l =
      ap₂ ◌++◌
      (ap₂ (λ (x : ℕ) (c : List ℕ). encode (state x c)) (same.marked s l) (upto_same (λ a. count_of M s a ∷ []) (λ a. count_of N s a ∷ []) 6 (λ a h. ap (λ (x : ℕ). x ∷ []) (count_same s a l))))
      (upto_same (out_bytes M s) (out_bytes N s) (joint M s) (λ j h. ap (λ (x : ℕ). 4 ∷ x ∷ []) (same.leads s j l h)) ∙ ap (upto (out_bytes N s)) (moves_at same everyone s l))

  outcomes_same : (n : ℕ) → n ≤ M.n → outcomes M n ≡ outcomes N n
  outcomes_same zero h = refl
  outcomes_same (suc n) h = ap₂ ◌+◌ (outcomes_same n (omega arith)) (moves_at same everyone n (omega arith))

  pub file_same : (names : List (List ℕ)) → file_of M names ≡ file_of N names
  file_same names =
      let m = length names in
      let states : upto (state_bytes M) M.n ≡ upto (state_bytes N) N.n = upto_same (state_bytes M) (state_bytes N) M.n state_bytes_lem ∙ ap (upto (state_bytes N)) same.states in
      let total : outcomes M M.n ≡ outcomes N N.n = outcomes_same M.n (omega arith) ∙ ap (outcomes N) same.states in
      sym (file_parts M names)
      ∙ ap₂ (λ (k n : ℕ). encode (begin k n m) ++ (upto (name_bytes names) m ++ (upto (state_bytes M) M.n ++ encode (finish (outcomes M M.n))))) same.agents same.states
      ∙ ap₂ (λ (l : List ℕ) (x : ℕ). encode (begin N.k N.n m) ++ (upto (name_bytes names) m ++ (l ++ encode (finish x)))) states total
      ∙ file_parts N names

pub accepts : {input : List ℕ} {M T : Model} {names : List (List ℕ)} {rest : List ℕ} → Begins input M names rest → Same M T → Accepts input T names rest
accepts {input} {M} {T} {names} {rest} b same =
    let fit : Fileable T names = record {
      ranged = same_ranged same b.0.ranged;
      lawful = b.0.lawful;
      named = λ s l. let h = state_in same s l in subst (λ (x : ℕ). x < 2 ^ length names) (same.marked s h) (b.0.named s h);
    } in
    let mine : Begins input T names rest = (fit, b.1 ∙ ap (λ (l : List ℕ). l ++ rest) (file_same same names)) in
    record { begins = mine; only = λ N others r other. begins_same other mine }

pub rejects : {input : List ℕ} {a p : ℕ} → Refused input a p → Rejects input a p
rejects r = record { refused = r; only = λ b q other. refused_once other r; none = λ N others rest b. no_file rest r b }
