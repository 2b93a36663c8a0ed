-- Rows of parts put on a list of bytes, and a whole file.
use Rattle.std.proofs.Common.{◌≡◌, ℕ, [], ◌∷◌, ◌+◌, ◌/◌, ◌%◌, ◌^◌, ◌<◌, ◌≤◌, ◌++◌, length, take, drop, sym, ap, ◌∙◌, arith, length-append}
use mathlib.Core.List as L
use Rattle.list.specs.declared.List.{List}
use Rattle.list.specs.Lists.{Puts, room}
use Rattle.list.proofs.Joins.{puts_more, puts_room, puts_same}
use Rattle.model.specs.Model.{Model, marks_of}
use Rattle.file.specs.File.{Named, file_of, upto}
use Rattle.file.specs.Writing.{Written}
use Rattle.file.proofs.Spanning.{upto_more, upto_grows}

-- one part more of a row
pub puts_upto : {s t u : List ℕ} (f : ℕ → L.List ℕ) (n : ℕ) → Puts s t (upto f n) → Puts t u (f n) → Puts s u (upto f (n + 1))
puts_upto f n a b = puts_same (sym (upto_more f n)) (puts_more a b)

-- for which there is room, if there was room for the row
pub room_upto : {s t : List ℕ} (f : ℕ → L.List ℕ) (n i : ℕ) → length (upto f n) ≤ room s → Puts s t (upto f i) → i < n → length (f i) ≤ room t
room_upto f n i fits put l = omega (arith, puts_room put, upto_grows f (i + 1) n (omega arith), length-append (upto f i) (f i), ap length (upto_more f i))

-- a code, and then a number of two bytes, high byte first
pub puts_number : {s t u : List ℕ} {code kind x n : ℕ} {bytes : L.List ℕ} → Puts s t (code ∷ []) → code ≡ kind → Puts t u bytes → x ≡ n → x < 2 ^ 16 → bytes ≡ x / 256 % 256 ∷ x % 256 ∷ [] →
    Puts s u (kind ∷ n / 256 ∷ n % 256 ∷ [])
puts_number {code = code} {kind} {x} {n} {bytes} a is b same small spelled =
    let high : x / 256 % 256 ≡ x / 256 = omega arith in
    let both : (code ∷ []) ++ bytes ≡ kind ∷ n / 256 ∷ n % 256 ∷ [] = cc in
    puts_same both (puts_more a b)

-- a file put on an empty list stands at the front of its places
pub written : {M : Model} {names : L.List (L.List ℕ)} {before after : L.List ℕ} {len : ℕ} (s t : List ℕ) → Named (marks_of M) (length names) → s.count ≡ 0 →
    s.places.now ≡ before → Puts s t (file_of M names) → after ≡ t.places.now → len ≡ length (file_of M names) → Written M names before after len
written {M} {names} {before} {after} {len} s t named none from put to long =
    let count : t.count ≡ len = omega (arith, put.extends.count) in
    record {
      named = named;
      len = long;
      file = ap (λ (n : ℕ). take n after) (sym count) ∙ ap (take t.count) to ∙ put.extends.items ∙ ap (λ (n : ℕ). take n s.places.now ++ file_of M names) none;
      rest = ap (λ (n : ℕ). drop n after) (sym count) ∙ ap (drop t.count) to ∙ put.extends.rest ∙ ap (drop t.count) from ∙ ap (λ (n : ℕ). drop n before) count;
    }
