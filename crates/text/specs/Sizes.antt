-- How long a text may be.
use Rattle.std.specs.Prelude.{ℕ}

-- no text is longer, and so no question from it has more lines
abbrev pub most_bytes : ℕ
most_bytes = 4096
