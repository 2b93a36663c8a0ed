-- The names of a file, one after another.
use Rattle.std.proofs.Common.{◌≡◌, ℕ, zero, suc, ◌<◌, List, [], ◌∷◌, ◌++◌, length, sym, refl, ap, ◌∙◌, ap₂, arith}
use Rattle.std.proofs.lemmas.List.{get_or_append_left, get_or_push, length_push}
use Rattle.file.specs.File.{Command, begin, name, upto}
use Rattle.file.specs.Reading.{due}
use Rattle.file.proofs.Filing.{due_name}
use Rattle.reader.specs.declared.header.Header.{Header}
use Rattle.reader.specs.Sofar.{name_command, named, opening}

pub upto_same : {X : Type 0} (f g : ℕ → List X) (n : ℕ) → ((i : ℕ) → i < n → f i ≡ g i) → upto f n ≡ upto g n
upto_same f g zero h = refl
upto_same f g (suc n) h =
    let before = upto_same f g n (λ i l. h i (omega arith)) in
    let here = h n (omega arith) in
    cc

pub name_due : (h : Header) (names : List (List ℕ)) → length names < h.marks → due (named h names) ≡ 2
name_due h names l = due_name (named h names) refl h.agents_ranged.0 l

-- one name more
pub names_more : (h : Header) (names : List (List ℕ)) (b : List ℕ) → opening h names ++ name (length names) b ∷ [] ≡ opening h (names ++ b ∷ [])
names_more h names b =
    let i = length names in
    let longer : suc i ≡ length (names ++ b ∷ []) = omega (arith, length_push names b) in
    ap (λ (l : List Command). begin h.agents h.states h.marks ∷ l)
    (ap₂ ◌++◌
    (upto_same (name_command names) (name_command (names ++ b ∷ [])) i (λ j l. ap (λ (x : List ℕ). name j x ∷ []) (sym (get_or_append_left names (b ∷ []) [] j l))))
    (ap (λ (x : List ℕ). name i x ∷ []) (sym (get_or_push names b [] i refl)))
    ∙ ap (upto (name_command (names ++ b ∷ []))) longer)
