-- What writing a model's file answers.
use Rattle.std.specs.Prelude.{◌≡◌, ℕ, ◌<◌, List, length, take, drop}
use Rattle.model.specs.Model.{Model, marks_of}
use Rattle.file.specs.File.{file_of, Named}
use Rattle.file.specs.declared.write.WriteFault as fault

-- when each refusal comes
abbrev pub Refused : Model → List (List ℕ) → ℕ → fault.WriteFault → Type 0
Refused M names room fault.TheVariants.Unnamed = Named (marks_of M) (length names) → ⊥
Refused M names room fault.TheVariants.Bytes = Named (marks_of M) (length names) × (room < length (file_of M names))

-- the file stands at the front of the bytes, and those past it are as before
pub record Written (M : Model) (names : List (List ℕ)) (before after : List ℕ) (r : ℕ) : Type 0 where
  pub named : Named (marks_of M) (length names)
  pub len : r ≡ length (file_of M names)
  pub file : take r after ≡ file_of M names
  pub rest : drop r after ≡ drop r before

-- the numbers of the refusals
abbrev pub fault_number : fault.WriteFault → ℕ
fault_number fault.TheVariants.Unnamed = 35
fault_number fault.TheVariants.Bytes = 36
