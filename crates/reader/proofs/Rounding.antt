-- The bytes, and the model, come back.
use Rattle.std.proofs.Common.{◌≡◌, ℕ, List, ◌++◌, take, drop, sym, ap, ◌∙◌, subst, arith}
use mathlib.Core.Logic.{∥∥₁_elim}
use mathlib.Core.HLevel.{⊥_prop}
use mathlib.Core.List.{is_set}
use native.Mathlib.Nat.{ℕ_set}
use Rattle.std.proofs.lemmas.List.{take_all, take-append-drop, take-append-le}
use Rattle.model.specs.Model.{Model, Ranged, Same}
use Rattle.legend.specs.Names.{Lawful}
use Rattle.file.specs.File.{file_of}
use Rattle.file.specs.Reading.{Begins}
use Rattle.file.specs.Writing.{Written}
use Rattle.reader.specs.Whole.{Accepts, Rejects}
use Rattle.reader.specs.Rounds.{Copied, Restored}

pub copied : {input before after : List ℕ} {M : Model} {names : List (List ℕ)} {len : ℕ} (rest : List ℕ) → Begins input M names rest → Written M names before after len → Copied input before after len
copied {input} {before} {after} {M} {names} {len} rest b w = record {
  model = M;
  names = names;
  others = rest;
  begins = b;
  long = w.len;
  same = w.file ∙ sym (ap (take len) b.1 ∙ take-append-le len (file_of M names) rest (omega (arith, w.len)) ∙ take_all len (file_of M names) (omega (arith, w.len)));
  rest = w.rest;
}

-- what was written begins with the file that was written
pub written_begins : {before after : List ℕ} {M : Model} {names : List (List ℕ)} {len : ℕ} → Ranged M → Lawful names → Written M names before after len → Begins after M names (drop len after)
written_begins {after = after} {len = len} ranged law w =
    (record { ranged = ranged; lawful = law; named = w.named }, sym (take-append-drop len after) ∙ ap (λ (l : List ℕ). l ++ drop len after) w.file)

-- a legend's names are lawful, and so there is nothing to choose
pub unwritten : {before after : List ℕ} {M : Model} {names : List (List ℕ)} {len a p : ℕ} → Ranged M → ∥ Lawful names ∥₁ → Written M names before after len → Rejects after a p → ⊥
unwritten {M = M} {names = names} ranged law w r = ∥∥₁_elim law ⊥_prop (λ l. r.none M names _ (written_begins ranged l w))

module _ {before after rest : List ℕ} {M T : Model} {names others : List (List ℕ)} {len : ℕ} (ranged : Ranged M) (law : ∥ Lawful names ∥₁) (w : Written M names before after len)
    (accepts : Accepts after T others rest) where
  back : Lawful names → Same M T × (names ≡ others) × (drop len after ≡ rest)
  back l = accepts.only M names (drop len after) (written_begins ranged l w)

  same_back : Same M T
  same_back = record {
    states = ∥∥₁_elim law (ℕ_set _ _) (λ l. (back l).0.states);
    agents = ∥∥₁_elim law (ℕ_set _ _) (λ l. (back l).0.agents);
    marked = λ s i. ∥∥₁_elim law (ℕ_set _ _) (λ l. (back l).0.marked s i);
    counted = λ s a i j. ∥∥₁_elim law (ℕ_set _ _) (λ l. (back l).0.counted s a i j);
    leads = λ s a i j. ∥∥₁_elim law (ℕ_set _ _) (λ l. (back l).0.leads s a i j);
  }

  names_back : others ≡ names
  names_back = ∥∥₁_elim law (is_set (is_set ℕ_set) others names) (λ l. sym (back l).1)

  pub restored : Restored M names before after T others
  restored = record {
    written = subst (Written M names before after) w.len w;
    same = same_back;
    named = names_back;
  }
