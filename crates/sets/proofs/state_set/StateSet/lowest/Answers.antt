use Rattle.std.proofs.Common.{rules, T}
use Rattle.std.proofs.lemmas.Iterator.{first_from_Range}
use Rattle.sets.specs.Sets.{member}
use Rattle.sets.proofs.Members.{lowest_of}
use Rattle.sets.proofs.state_set.StateSet.lowest.Goals as goal

pub returns : goal.returns
returns c =
    lowest_of c.args.self c.find.result (first_from_Range _ _ _ _ (λ s. T (member c.args.self s)) (λ s. T (member c.args.self s) → ⊥) c.find.ensures.ran (λ s q k. search rules) (λ s q k. search rules))
