use Rattle.std.proofs.Common.{◌≡◌, ℕ, ◌+◌, List, [], ◌∷◌, ◌++◌, length, get_or, Option, Some, None, MatchOption, MatchResult, refl, ◌∙◌, arith}
use Rattle.std.specs.Option.{ok_or}
use Rattle.file.specs.File.{begin, encode}
use Rattle.file.specs.Reading.{Keeps, Refused, nothing}
use Rattle.reader.specs.Sofar.{Sofar, named, opening}
use Rattle.reader.specs.Faults.{FileFault, rule_number}
use Rattle.reader.specs.declared.fault.FileRule.TheVariants as rule
use Rattle.reader.specs.declared.header.Header.{Header}
use Rattle.reader.proofs.Going.{sofar_more, breaks}
use Rattle.reader.proofs.Spelling.{spells_begin}
use Rattle.reader.proofs.header.begin.read_begin.Goals as goal

module _ {input rest : List ℕ} {place : ℕ} (so : Sofar input rest place [] nothing) (xs rest' : List ℕ) (place' : ℕ) (f : FileFault) (took : rest ≡ 1 ∷ xs ++ rest') (three : length xs ≡ 3) (moved : place' ≡ place + 1 + 3)
    (fault : (f.rule ≡ rule.Begin) × (f.place ≡ place)) where
  begun : (o : Option Header) → MatchOption o (Keeps nothing (begin (get_or xs 0 0) (get_or xs 1 0) (get_or xs 2 0)) → ⊥)
      (λ h. (h.agents ≡ get_or xs 0 0) × (h.states ≡ get_or xs 1 0) × (h.marks ≡ get_or xs 2 0)) →
      MatchResult (ok_or o f) (λ h. Sofar input rest' place' (opening h []) (named h [])) (λ g. Refused input (rule_number g.rule) g.place)
  begun None never =
      rw fault.0 (breaks so (begin (get_or xs 0 0) (get_or xs 1 0) (get_or xs 2 0)) rest' tt refl took (spells_begin xs three) never fault.1)
  begun (Some h) same =
      let spelled : 1 ∷ xs ≡ encode (begin h.agents h.states h.marks) = spells_begin xs three ∙ grind arith in
      sofar_more so (begin h.agents h.states h.marks) tt refl (h.agents_ranged, h.states_ranged, h.marks_ranged) took spelled (omega (arith, moved, three))

pub returns : goal.returns
returns c input so =
    let took = c.in_ok-agents.ensures in
    rw c.ok_or.ensures.value (begun so _ _ _ _ took.0 took.1 took.2 c.at.ensures c.new.result c.new.ensures)
