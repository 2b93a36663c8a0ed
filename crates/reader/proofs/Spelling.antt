-- The bytes of a command, from its operands.
use Rattle.std.proofs.Common.{◌≡◌, ℕ, ◌+◌, ◌*◌, ◌/◌, ◌%◌, ◌<◌, ◌≤◌, List, [], ◌∷◌, ◌++◌, length, get_or, take, drop, Result, Ok, MatchResult, sym, ap, ap₂, ◌∙◌, arith, length-drop, length-take-le}
use Rattle.std.proofs.lemmas.Nat.{div-mul-add, mod-mul-add}
use Rattle.std.specs.Array.{IsWholeChunk}
use Rattle.std.proofs.lemmas.Result.{MatchResult-at_ok}
use Rattle.std.proofs.lemmas.List.{drop_all, drop_more, take_all, take-append-drop}
use Rattle.file.specs.File.{begin, name, state, out, finish, encode}

module _ (xs : List ℕ) where
  first : 1 ≤ length xs → xs ≡ get_or xs 0 0 ∷ drop 1 xs
  first h = drop_more xs 0 0 (omega arith)

  two : 2 ≤ length xs → xs ≡ get_or xs 0 0 ∷ get_or xs 1 0 ∷ drop 2 xs
  two h = first (omega arith) ∙ ap (λ (l : List ℕ). get_or xs 0 0 ∷ l) (drop_more xs 1 0 (omega arith))

  pub spells_out : length xs ≡ 1 → 4 ∷ xs ≡ encode (out (get_or xs 0 0))
  spells_out h = ap (λ (l : List ℕ). 4 ∷ l) (first (omega arith)) ∙ ap (λ (l : List ℕ). 4 ∷ get_or xs 0 0 ∷ l) (drop_all 1 xs (omega arith))

  pub spells_begin : length xs ≡ 3 → 1 ∷ xs ≡ encode (begin (get_or xs 0 0) (get_or xs 1 0) (get_or xs 2 0))
  spells_begin h =
      ap (λ (l : List ℕ). 1 ∷ l) (two (omega arith)) ∙ ap (λ (l : List ℕ). 1 ∷ get_or xs 0 0 ∷ get_or xs 1 0 ∷ l) (drop_more xs 2 0 (omega arith))
      ∙ ap (λ (l : List ℕ). 1 ∷ get_or xs 0 0 ∷ get_or xs 1 0 ∷ get_or xs 2 0 ∷ l) (drop_all 3 xs (omega arith))

  pub spells_name : length xs ≡ 9 → 2 ∷ xs ≡ encode (name (get_or xs 0 0) (take 8 (drop 1 xs)))
  spells_name h = ap (λ (l : List ℕ). 2 ∷ l) (first (omega arith)) ∙ ap (λ (l : List ℕ). 2 ∷ get_or xs 0 0 ∷ l) (sym (take_all 8 (drop 1 xs) (omega (arith, length-drop 1 xs))))

-- two bytes of a number, the high one first
halves : (b : List ℕ) (x : ℕ) → length b ≡ 2 → get_or b 1 0 < 256 → x ≡ get_or b 0 0 * 256 + get_or b 1 0 → b ≡ x / 256 ∷ x % 256 ∷ []
halves b x h low e =
    two b (omega arith) ∙ ap (λ (l : List ℕ). get_or b 0 0 ∷ get_or b 1 0 ∷ l) (drop_all 2 b (omega arith))
    ∙ ap₂ (λ (i j : ℕ). i ∷ j ∷ []) (sym (ap (λ (y : ℕ). y / 256) e ∙ div-mul-add (get_or b 0 0) 256 (get_or b 1 0) low))
    (sym (ap (λ (y : ℕ). y % 256) e ∙ mod-mul-add (get_or b 0 0) 256 (get_or b 1 0) low))

pub spells_end : (b : List ℕ) (x : ℕ) → length b ≡ 2 → get_or b 1 0 < 256 → x ≡ get_or b 0 0 * 256 + get_or b 1 0 → 5 ∷ b ≡ encode (finish x)
spells_end b x h low e = ap (λ (l : List ℕ). 5 ∷ l) (halves b x h low e)

pub spells_state : (xs b counts : List ℕ) (x : ℕ) → length xs ≡ 8 → b ≡ take 2 xs → get_or b 1 0 < 256 → x ≡ get_or b 0 0 * 256 + get_or b 1 0 → counts ≡ take 6 (drop 2 xs) →
    3 ∷ xs ≡ encode (state x counts)
spells_state xs b counts x h front low e rest =
    ap (λ (l : List ℕ). 3 ∷ l)
    (sym (take-append-drop 2 xs) ∙ ap₂ (λ (l m : List ℕ). l ++ m) (sym front ∙ halves b x (ap length front ∙ length-take-le 2 xs (omega arith)) low e)
    (sym (rest ∙ take_all 6 (drop 2 xs) (omega (arith, length-drop 2 xs)))))

-- `bytes.try_into().unwrap()`: the bytes as they are
pub same_chunk : {E : Type 0} (r : Result (List ℕ) E) (xs ys : List ℕ) (n : ℕ) (Q : E → Type 0) → r ≡ Ok ys → MatchResult r (λ y. IsWholeChunk xs y n) Q → ys ≡ xs
same_chunk r xs ys n Q is told = (MatchResult-at_ok _ _ ys is told).same
