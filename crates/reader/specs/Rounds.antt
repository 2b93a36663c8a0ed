-- What a read and a write after it, or a write and a read after it, give back.
use Rattle.std.specs.Prelude.{◌≡◌, ℕ, List, length, take, drop}
use Rattle.model.specs.Model.{Model, Same}
use Rattle.file.specs.File.{file_of}
use Rattle.file.specs.Reading.{Begins}
use Rattle.file.specs.Writing as writing
use Rattle.reader.specs.Faults.{rule_number}
use Rattle.reader.specs.Whole.{Rejects}
use Rattle.reader.specs.declared.round.CopyFault.{CopyFault}
use Rattle.reader.specs.declared.round.CopyFault.TheVariants.{Read, Write}

-- the input begins with a file of so many bytes, which now stands at the front of the bytes; those past it are as before
pub record Copied (input before after : List ℕ) (len : ℕ) : Type 0 where
  pub model : Model
  pub names : List (List ℕ)
  pub others : List ℕ
  pub begins : Begins input model names others
  pub long : len ≡ length (file_of model names)
  pub same : take len after ≡ take len input
  pub rest : drop len after ≡ drop len before

-- the file of a model and its names now stands at the front of the bytes, those past it are as before, and it gives both back
pub record Restored (M : Model) (names : List (List ℕ)) (before after : List ℕ) (back : Model) (back_names : List (List ℕ)) : Type 0 where
  pub written : writing.Written M names before after (length (file_of M names))
  pub same : Same M back
  pub named : back_names ≡ names

-- a file that can't be read, or has more bytes than there are
abbrev pub Uncopied : List ℕ → ℕ → CopyFault → Type 0
Uncopied input room (Read f) = Rejects input (rule_number f.rule) f.place
Uncopied input room (Write w) = (M : Model) × (names : List (List ℕ)) × (rest : List ℕ) × Begins input M names rest × writing.Refused M names room w
