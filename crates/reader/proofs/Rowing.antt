-- The states of a file, one after another.
use Rattle.std.proofs.Common.{◌≡◌, ℕ, ◌+◌, ◌<◌, ◌≢◌, List, ◌++◌, length, set, sym, refl, ap, ◌∙◌, ap₂, add-one, arith, get_or-set_other, get_or-set_same}
use Rattle.model.specs.Kinds.{nowhere}
use Rattle.model.specs.declared.state.State.{State}
use Rattle.file.specs.File.{upto}
use Rattle.reader.specs.Bodies.{row_commands}
use Rattle.reader.specs.declared.header.Header.{Header}
use Rattle.reader.specs.Heads.{Naming, body_seen, state_commands}
use Rattle.reader.proofs.Naming.{upto_same}

-- one state more
pub rows_more : (k : ℕ) (xs : List State) (s : ℕ) (x : State) → s < length xs → upto (row_commands k xs) s ++ state_commands k x ≡ upto (row_commands k (set xs s x)) (s + 1)
rows_more k xs s x h =
    ap₂ ◌++◌
    (upto_same (row_commands k xs) (row_commands k (set xs s x)) s (λ i l. let n : i ≢ s = λ e. omega arith in ap (state_commands k) (sym (get_or-set_other xs s i x nowhere n))))
    (ap (state_commands k) (sym (get_or-set_same xs s x nowhere h)))
    ∙ rw add-one

-- between two states all names have come
pub body_naming : (h : Header) (names : List (List ℕ)) (s total : ℕ) → length names ≡ h.marks → Naming (body_seen h names s total)
body_naming h names s total e = record { going = refl; some = h.agents_ranged.0; all = omega arith }
