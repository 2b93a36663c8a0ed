-- The commands of the states of a file.
use Rattle.std.specs.Prelude.{ℕ, List, slice_index_or}
use Rattle.model.specs.Kinds.{nowhere}
use Rattle.model.specs.declared.state.State.{State}
use Rattle.file.specs.File.{Command}
use Rattle.reader.specs.Heads.{state_commands}

abbrev pub row_commands : ℕ → List State → ℕ → List Command
row_commands k states t = state_commands k (slice_index_or states t nowhere)
