use Rattle.std.proofs.Common.{◌≡◌, ℕ, List, [], length}
use Rattle.legend.specs.Names.{Lawful}
use Rattle.legend.specs.Legends.{names_of}
use Rattle.reader.specs.Sofar.{Reached, named, opening}
use Rattle.reader.proofs.body.Body.read_names.Given as goal

abbrev pub invariant-loop : goal.invariant-loop
invariant-loop l =
    let h = l.initial.self.header in
    (l.self.header ≡ h) ×
    ((input : List ℕ) → Reached input l.initial.self.cursor (opening h []) (named h []) →
    Reached input l.self.cursor (opening h (names_of l.legend)) (named h (names_of l.legend)) × (length (names_of l.legend) ≡ l.counter) × Lawful (names_of l.legend))
