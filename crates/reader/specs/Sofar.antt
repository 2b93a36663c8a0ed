-- How far the reading of a file has come.
use Rattle.std.specs.Prelude.{◌≡◌, ℕ, false, List, [], ◌∷◌, ◌++◌, length, slice_index_or}
use Rattle.std.specs.List.{flat_map}
use Rattle.file.specs.File.{Command, begin, name, encode, upto}
use Rattle.file.specs.Reading.{Seen, Leads, nothing}
use Rattle.reader.specs.declared.cursor.Cursor.{Cursor}
use Rattle.reader.specs.declared.header.Header.{Header}

-- the input is the commands cs, up to a place, and the rest
pub record Sofar (input rest : List ℕ) (place : ℕ) (cs : List Command) (s : Seen) : Type 0 where
  pub leads : Leads nothing cs s
  pub bytes : input ≡ flat_map encode cs ++ rest
  pub long : place ≡ length (flat_map encode cs)

-- the commands cs stand before the cursor
abbrev pub Reached : List ℕ → Cursor → List Command → Seen → Type 0
Reached input cursor cs s = Sofar input cursor.rest.now cursor.place cs s

-- the command that names a mark
abbrev pub name_command : List (List ℕ) → ℕ → List Command
name_command names i = name i (slice_index_or names i []) ∷ []

-- BEGIN and some names, and the moment after them
abbrev pub opening : Header → List (List ℕ) → List Command
opening h names = begin h.agents h.states h.marks ∷ upto (name_command names) (length names)

abbrev pub named : Header → List (List ℕ) → Seen
named h names = record { k = h.agents; n = h.states; m = h.marks; names = names; states = 0; left = 0; outs = 0; ended = false }
