-- The outcomes of a state, one after another.
use Rattle.std.proofs.Common.{◌≡◌, ℕ, ◌+◌, ◌-◌, ◌<◌, ◌≤◌, ◌≢◌, List, [], ◌∷◌, ◌++◌, length, get_or, set, sym, ap, ◌∙◌, subst, ap₂, append_assoc, add-one, arith, get_or-set_other, get_or-set_same}
use Rattle.file.specs.File.{Command, out, upto}
use Rattle.file.specs.Reading.{Fails, Refused, Seen, after, due}
use Rattle.file.proofs.Filing.{due_out}
use Rattle.reader.specs.Heads.{Naming, out_command, outs_seen}
use Rattle.reader.specs.Sofar.{Sofar}
use Rattle.reader.proofs.Going.{sofar_more, breaks, refused}
use Rattle.reader.proofs.Naming.{upto_same}
use Rattle.reader.proofs.Spelling.{spells_out}

-- one outcome more
pub outs_more : (xs : List ℕ) (j t : ℕ) → j < length xs → upto (out_command xs) j ++ (out t ∷ []) ≡ upto (out_command (set xs j t)) (j + 1)
outs_more xs j t h =
    ap₂ ◌++◌
    (upto_same (out_command xs) (out_command (set xs j t)) j (λ i l. let n : i ≢ j = λ e. omega arith in ap (λ (x : ℕ). out x ∷ []) (sym (get_or-set_other xs j i t 0 n))))
    (ap (λ (x : ℕ). out x ∷ []) (sym (get_or-set_same xs j t 0 h)))
    ∙ rw add-one

-- an outcome is due while one is left
module _ {input rest : List ℕ} {place : ℕ} (cs : List Command) (xs : List ℕ) (s : Seen) (n : Naming s) (j : ℕ) (so : Sofar input rest place (cs ++ upto (out_command xs) j) (outs_seen s j)) (l : j < s.left) where
  pub outs_due : due (outs_seen s j) ≡ 4
  outs_due = due_out (outs_seen s j) n.going n.some n.all (omega arith)

  pub outs_refused : {number at : ℕ} → at ≡ place → ((u : Seen) → due u ≡ 4 → Fails u rest number) → Refused input number at
  outs_refused here fails = refused so n.going here (fails _ outs_due)

  module _ (ts rest' : List ℕ) (took : rest ≡ 4 ∷ ts ++ rest') (one : length ts ≡ 1) where
    pub outs_wrong : {at : ℕ} → s.n ≤ get_or ts 0 0 → at ≡ place → Refused input 7 at
    outs_wrong outside here = breaks so (out (get_or ts 0 0)) rest' tt (sym outs_due) took (spells_out ts one) (λ inside. omega (arith, inside)) here

    pub outs_next : {place' : ℕ} → get_or ts 0 0 < s.n → j < length xs → place' ≡ place + 1 + 1 → Sofar input rest' place' (cs ++ upto (out_command (set xs j (get_or ts 0 0))) (j + 1)) (outs_seen s (j + 1))
    outs_next {place'} inside within p =
        let t = get_or ts 0 0 in
        let next : Sofar input rest' place' ((cs ++ upto (out_command xs) j) ++ out t ∷ []) (after (outs_seen s j) (out t)) = sofar_more so (out t) tt (sym outs_due) inside took (spells_out ts one) (omega (arith, p, one)) in
        let same : (cs ++ upto (out_command xs) j) ++ out t ∷ [] ≡ cs ++ upto (out_command (set xs j t)) (j + 1) =
        append_assoc cs (upto (out_command xs) j) (out t ∷ []) ∙ ap (λ (x : List Command). cs ++ x) (outs_more xs j t within) in
        let left : s.left - j - 1 ≡ s.left - (j + 1) = omega arith in
        let outs : s.outs + j + 1 ≡ s.outs + (j + 1) = omega arith in
        subst (λ (x : List Command). Sofar input rest' place' x (outs_seen s (j + 1))) same
        (subst (λ (x : ℕ). Sofar input rest' place' ((cs ++ upto (out_command xs) j) ++ out t ∷ []) (record s { left = x; outs = s.outs + (j + 1) })) left
        (subst (λ (x : ℕ). Sofar input rest' place' ((cs ++ upto (out_command xs) j) ++ out t ∷ []) (record s { left = s.left - j - 1; outs = x })) outs next))
