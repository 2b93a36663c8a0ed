use Rattle.std.proofs.Common.{◌+◌, rules, of_calls, true, false, length, drop, sym, ap, subst, ◌∙◌}
use Rattle.std.proofs.lemmas.Iterator.{IsFirst-from_position, YieldsList-from_slice}
use Rattle.std.specs.Option.{unwrap_or}
use Rattle.text.specs.Runs.{Passes}
use Rattle.text.proofs.Passing.{rest_of, passes_first}
use Rattle.text.proofs.cursor.Cursor.run.Goals as goal

pub returns : goal.returns
returns g c =
    let rest = drop c.args.self.at c.args.self.text.now in
    let first = IsFirst-from_position _ _ c.position.result (λ b. goal.F-post g c.args.is_in b false) (λ b. goal.F-post g c.args.is_in b true) c.position.ensures.ran
    (YieldsList-from_slice rest (c.iter.ensures.rest ∙ rest_of c.args.self.text.now c.args.self.at)) (λ x q k. search (rules, of_calls)) (λ x q k. search (rules, of_calls)) in
    let done = passes_first c.args.self.text.now c.args.self.at c.args.self.within (λ b r. goal.F-post g c.args.is_in b r) c.position.result first in
    subst (λ n. Passes (λ b r. goal.F-post g c.args.is_in b r) c.args.self.text.now c.args.self.at (c.args.self.at + n)) (sym (c.unwrap_or.ensures ∙ ap (λ l. unwrap_or c.position.result (length l)) (rest_of c.args.self.text.now c.args.self.at))) done
