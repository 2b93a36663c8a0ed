-- Where the word of a name ends.
use Rattle.std.proofs.Common.{◌≡◌, ℕ, ◌<◌, ◌≤◌, List, length, get_or, take, sym, ◌∙◌, arith, length-take-le}
use Rattle.std.proofs.lemmas.Grind.{common_steps}
use Rattle.std.proofs.lemmas.List.{get_or_default, same_lists}
use Rattle.legend.specs.Names.{Letter, LetterOrDigit, Name, padded, reserved}

-- equal bytes at each place
pub same_bytes : (xs ys : List ℕ) (n : ℕ) → length xs ≡ n → length ys ≡ n → ((k : ℕ) → k < n → get_or xs k 0 ≡ get_or ys k 0) → xs ≡ ys
same_bytes xs ys n a b h = same_lists xs ys (a ∙ sym b) (λ k d l. get_or_default xs k d 0 l ∙ h k (omega arith) ∙ get_or_default ys k 0 d (omega arith))

module _ (w : List ℕ) where
  pub padded_word : (i : ℕ) → i < length w → get_or (padded w) i 0 ≡ get_or w i 0
  padded_word i h = grind (arith, common_steps)

  pub padded_space : (i : ℕ) → length w ≤ i → i < 8 → get_or (padded w) i 0 ≡ 32
  padded_space i h l = grind (arith, common_steps)

  pub padded-length : length w ≤ 8 → length (padded w) ≡ 8
  padded-length h = grind (arith, common_steps)

pub name_length : {bytes : List ℕ} → Name bytes → length bytes ≡ 8
name_length n = grind (arith, n.spelled, padded-length n.word n.is.short)

-- the first letters and digits of a name are its word
module _ (bytes : List ℕ) (end : ℕ) (within : end ≤ 8) (inner : (i : ℕ) → i < end → LetterOrDigit (get_or bytes i 0))
    (longest : end < 8 → LetterOrDigit (get_or bytes end 0) → ⊥) where
  pub word_ends : (n : Name bytes) → length n.word ≡ end
  word_ends n = grind (arith, n.spelled, n.is.short, n.is.each end, padded_word n.word end, padded_space n.word (length n.word), inner (length n.word), longest)

  pub spaces_after : Name bytes → (i : ℕ) → end ≤ i → i < 8 → get_or bytes i 0 ≡ 32
  spaces_after n i h l = grind (arith, word_ends n, n.spelled, padded_space n.word i)

  pub first_letter : Name bytes → Letter (get_or bytes 0 0)
  first_letter n = grind (arith, n.spelled, n.is.first, n.is.some, padded_word n.word 0)

  pub name_made : length bytes ≡ 8 → ((i : ℕ) → end ≤ i → i < 8 → get_or bytes i 0 ≡ 32) → Letter (get_or bytes 0 0) → (bytes ≡ reserved → ⊥) → Name bytes
  name_made eight spaces letter free =
      let w = take end bytes in
      let long : length w ≡ end = length-take-le end bytes (omega arith) in
      record {
        word = w;
        is = grind (arith, common_steps, inner, longest);
        spelled = same_bytes bytes (padded w) 8 eight (padded-length w (omega arith)) (λ k h. grind (arith, common_steps, spaces k));
        free = free;
      }
