-- Runs of bytes, by a test and by what it decides.
use Rattle.std.proofs.Common.{◌≡◌, ℕ, ◌+◌, ◌-◌, ◌<◌, ◌≤◌, List, length, get_or, take, drop, Bool, true, false, Option, None, Some, MatchOption, Decides, refl, subst, ap, ◌∙◌, arith, length-drop, get_or-drop}
use Rattle.std.proofs.lemmas.Bool.Decides.{not_from_Decides}
use Rattle.std.proofs.lemmas.List.{take_all}
use Rattle.std.specs.List.{AllWithin, HoldsAt}
use Rattle.std.specs.Option.{unwrap_or}
use Rattle.grammar.specs.Tokens.{Run}
use Rattle.text.specs.Runs.{Passes}

-- the bytes from a place on
pub rest_of : (text : List ℕ) (from : ℕ) → take (length text - from) (drop from text) ≡ drop from text
rest_of text from = take_all (length text - from) (drop from text) (omega (arith, length-drop from text))

module _ (text : List ℕ) (from : ℕ) (h : from ≤ length text) where
  -- a byte past a place, in the bytes from there on
  past : (Q : ℕ → Type 0) (k : ℕ) → from ≤ k → Q (get_or (drop from text) (k - from) 0) → Q (get_or text k 0)
  past Q k l q =
      let same : from + (k - from) ≡ k = omega arith in
      subst Q (get_or-drop from text (k - from) 0 ∙ ap (λ n. get_or text n 0) same) q

  -- the first byte at which a test fails, or none
  pub passes_first : (Test : ℕ → Bool → Type 0) (r : Option ℕ) →
      MatchOption r (AllWithin (λ b. Test b true) (drop from text) 0 (length (drop from text))) (λ i. (i < length (drop from text)) × HoldsAt (λ b. Test b false) (drop from text) i × AllWithin (λ b. Test b true) (drop from text) 0 i) →
      Passes Test text from (from + unwrap_or r (length (drop from text)))
  passes_first Test None a =
      let size = length-drop from text in
      record {
        ordered = omega arith;
        within = omega arith;
        all = λ k l m. past (λ b. Test b true) k l (a (k - from) 0 (omega arith) (omega arith));
        ends = λ l. absurd (omega arith);
      }
  passes_first Test (Some i) a =
      let size = length-drop from text in
      record {
        ordered = omega arith;
        within = omega (arith, a.0);
        all = λ k l m. past (λ b. Test b true) k l (a.2 (k - from) 0 (omega arith) (omega arith));
        ends = λ l. subst (λ b. Test b false) (get_or-drop from text i 0) (a.1 0);
      }

-- a test that decides a class
pub run_of : {Test : ℕ → Bool → Type 0} {P : ℕ → Type 0} {text : List ℕ} {p q : ℕ} → ((b : ℕ) (r : Bool) → Test b r → Decides r (P b)) → Passes Test text p q → Run P text p q
run_of {Test} {P} {text} {p} {q} decides h = record {
  ordered = h.ordered;
  within = h.within;
  all = λ k l m. (decides _ true (h.all k l m)).0 refl;
  longest = λ l. not_from_Decides _ (decides _ false (h.ends l)) refl;
}
