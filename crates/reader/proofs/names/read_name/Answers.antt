use Rattle.std.proofs.Common.{◌≡◌, ℕ, List, [], ◌∷◌, ◌++◌, length, get_or, take, drop, sym, ap, ap₂, ◌∙◌, ◌+◌, subst, arith, length-drop, length-take-le}
use Rattle.std.proofs.lemmas.Option.{MatchOption-at_none, MatchOption-at_some}
use Rattle.std.proofs.lemmas.Result.{err_from_is_err_and}
use Rattle.legend.specs.Names.{Lawful}
use Rattle.legend.specs.Legends.{names_of}
use Rattle.file.specs.File.{Command, name, encode}
use Rattle.file.specs.Reading.{Seen, Keeps, Refused, after, due}
use Rattle.reader.specs.Sofar.{Sofar}
use Rattle.reader.proofs.Failing.{error}
use Rattle.reader.proofs.Going.{sofar_more, breaks}
use Rattle.reader.proofs.Spelling.{same_chunk, spells_name}
use Rattle.reader.proofs.names.read_name.Goals as goal

module _ {input rest : List ℕ} {place : ℕ} {cs : List Command} {s : Seen} (so : Sofar input rest place cs s) (d : due s ≡ 2) (xs rest' : List ℕ) (took : rest ≡ 2 ∷ xs ++ rest') (nine : length xs ≡ 9) where
  eight : length (take 8 (drop 1 xs)) ≡ 8
  eight = omega (arith, length-take-le 8 (drop 1 xs) (omega (arith, length-drop 1 xs)))

  wrong : {at : ℕ} → (Keeps s (name (get_or xs 0 0) (take 8 (drop 1 xs))) → ⊥) → at ≡ place → Refused input 4 at
  wrong never p = breaks so (name (get_or xs 0 0) (take 8 (drop 1 xs))) rest' eight (sym d) took (spells_name xs nine) never p

  added : {place' : ℕ} (names : List (List ℕ)) (bytes : List ℕ) → bytes ≡ take 8 (drop 1 xs) → get_or xs 0 0 ≡ length names → s.names ≡ names → Lawful (names ++ bytes ∷ []) →
      place' ≡ place + 1 + 9 → Sofar input rest' place' (cs ++ name (length names) bytes ∷ []) (after s (name (length names) bytes))
  added names bytes b number is law p =
      sofar_more so (name (length names) bytes) (ap length b ∙ eight) (sym d) (sym (ap length is), subst (λ (l : List (List ℕ)). Lawful (l ++ bytes ∷ [])) (sym is) law) took
      (spells_name xs nine ∙ ap₂ (λ (i : ℕ) (l : List ℕ). encode (name i l)) number (sym b)) (omega (arith, p, nine))

pub returns-then-operands-count : goal.returns-then-operands-count
returns-then-operands-count c input cs s so d is law =
    let took = c.in_ok-operands.ensures in
    rw c.at.ensures.0 (wrong so d _ _ took.0 took.1 (λ keeps. c.if-operands-count.true (keeps.0 ∙ ap length is ∙ sym c.count.ensures)) c.at.ensures.1)

pub returns-in_err-ok_or : goal.returns-in_err-ok_or
returns-in_err-ok_or c input cs s so d is law =
    let took = c.in_ok-operands.ensures in
    let p = err_from_is_err_and c.from_residual-in_err-ok_or.result c.from_residual-in_err-ok_or.ensures.1 in
    let told = MatchOption-at_none _ _ c.in_err-ok_or.ensures.ok_part c.add.ensures in
    let bytes = same_chunk _ _ _ _ _ c.unwrap-bytes.ensures c.try_into.ensures.1 in
    rw (p.1, p.2, error c.add.result _ _ c.in_err-ok_or.ensures.value, c.at-2.ensures.0) (wrong so d _ _ took.0 took.1 (λ keeps. told.1 (subst (λ (b : List ℕ). Lawful (names_of c.args.legend.now ++ b ∷ [])) (sym bytes)
    (subst (λ (l : List (List ℕ)). Lawful (l ++ take 8 (drop 1 c.in_ok-operands.operands) ∷ [])) is keeps.1))) c.at-2.ensures.1)

pub returns : goal.returns
returns c input cs s so d is law =
    let took = c.in_ok-operands.ensures in
    let told = MatchOption-at_some _ _ c.in_ok-ok_or.field-0 c.in_ok-ok_or.ensures.ok_part c.add.ensures in
    let bytes = same_chunk _ _ _ _ _ c.unwrap-bytes.ensures c.try_into.ensures.1 in
    let names = names_of c.args.legend.now in
    (c.unwrap-bytes.result, added so d _ _ took.0 took.1 names c.unwrap-bytes.result bytes (c.if-operands-count.false ∙ c.count.ensures) is (told.2 law) took.2, told.1, subst Lawful (sym told.1) (told.2 law))
