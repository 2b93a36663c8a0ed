-- States that keep the ranges make a model that does, and the row of a state.
use Rattle.std.proofs.Common.{ℕ, ◌<◌, ◌≤◌, List, get_or}
use Rattle.sets.specs.Sets.{limit}
use Rattle.model.specs.Model.{Ranged, everyone, moves}
use Rattle.model.specs.Kinds.{StateRanged, counts_at, nowhere, table_of}
use Rattle.model.specs.declared.state.State.{State}
use Rattle.model.specs.declared.table.row.Row.{Row}

module _ (n k : ℕ) (states : List State) (some : (1 ≤ n) × (n ≤ limit)) (few : 1 ≤ k) where
  pub states_ranged : k ≤ 6 → ((s : ℕ) → s < n → StateRanged n k (get_or states s nowhere)) → Ranged (table_of n k states)
  states_ranged most each = record {
    states = some;
    agents = (few, most);
    sixteen = λ s l. (each s l).sixteen;
    choices = λ s a l i. (each s l).counts.choices a i;
    product = λ s l. (each s l).counts.product;
    inside = λ s j l i. (each s l).inside j i;
  }

abbrev pub row_of : ℕ → State → Row
row_of k x = record { state = x; joint = moves everyone (counts_at x) k }
