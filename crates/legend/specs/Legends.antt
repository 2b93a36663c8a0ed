-- What a legend holds.
use Rattle.std.specs.Prelude.{ℕ, List, take}
use Rattle.legend.specs.declared.Legend.{Legend}

-- the names, in the order of their marks
abbrev pub names_of : Legend → List (List ℕ)
names_of l = take l.count l.names
