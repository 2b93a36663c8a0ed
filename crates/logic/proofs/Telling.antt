-- From sets that tell where formulas hold to the set that tells of a larger formula.
use Rattle.std.proofs.Common.{ℕ, ◌<◌, T, ◌↔◌}
use Rattle.sets.specs.Sets.{Set}
use Rattle.model.specs.Model.{Model}
use Rattle.logic.specs.Logic.{Formula, Closed, until}
use Rattle.sets.specs.Sets.{member}
use Rattle.logic.specs.Questions.{Tells}
use Rattle.sets.specs.declared.state_set.StateSet.{StateSet}

pub until_tells : (M : Model) (A : ℕ) (f h : Formula) (x y r : StateSet) → Tells M x f → Tells M y h →
    ((s : ℕ) → T (member r s) ↔ ((s < M.n) × ((X : Set) → Closed M A (λ t. T (member x t)) (λ t. T (member y t)) X → T (X s)))) →
    Tells M r (until A f h)
until_tells M A f h x y r tf th is s = (
  λ t. (((is s).0 t).0, λ X closed. ((is s).0 t).1 X (λ u m. closed.0 u ((th u).0 m), λ u m e. closed.1 u ((tf u).0 m) e)),
  λ p. (is s).1 (p.0, λ X closed. p.1 X (λ u k. closed.0 u ((th u).1 k), λ u k e. closed.1 u ((tf u).1 k) e)),
)
