use Rattle.std.proofs.Common.{◌≡◌, ℕ, ◌+◌, ◌^◌, ◌<◌, ◌≤◌, cond, ltb, List, [], ◌∷◌, ◌++◌, length, sym, ap, subst, inl, inr, arith}
use Rattle.std.proofs.lemmas.Bool.{cases_lt, cond-true, cond-false, lt-ltb, le-ltb}
use Rattle.std.proofs.lemmas.Result.{err_from_is_err_and}
use Rattle.file.specs.File.{Command, state, encode}
use Rattle.file.specs.Reading.{Seen, Keeps, Refused, Counts, after, due}
use Rattle.reader.specs.Sofar.{Sofar}
use Rattle.reader.proofs.Failing.{error, proved, refuted}
use Rattle.reader.proofs.Going.{sofar_more, breaks}
use Rattle.reader.proofs.body.Body.read_head.Goals as goal

module _ {input rest : List ℕ} {place : ℕ} {cs : List Command} {s : Seen} (so : Sofar input rest place cs s) (d : due s ≡ 3) (m : ℕ) (mark : s.m ≡ m) (x : ℕ) (counts rest' : List ℕ) (six : length counts ≡ 6)
    {bytes : List ℕ} (stands : rest ≡ bytes ++ rest') (spelled : bytes ≡ encode (state x counts)) where
  fails : {at : ℕ} → (Keeps s (state x counts) → ⊥) → at ≡ place → Refused input (cond (ltb x (2 ^ s.m)) 6 5) at
  fails never here = breaks so (state x counts) rest' six (sym d) stands spelled never here

  -- an undeclared mark
  pub undeclared : {at : ℕ} → (x < 2 ^ m → ⊥) → at ≡ place → Refused input 5 at
  undeclared {at} never here =
      let high : 2 ^ s.m ≤ x = elim (cases_lt x (2 ^ s.m)) [ inl l ↦ absurd (never (subst (λ (i : ℕ). x < 2 ^ i) mark l)) | inr l ↦ l ] in
      subst (λ (n : ℕ). Refused input n at) (cond-false (ltb x (2 ^ s.m)) 6 5 (le-ltb x (2 ^ s.m) high)) (fails (λ keeps. never (subst (λ (i : ℕ). x < 2 ^ i) mark keeps.0)) here)

  -- counts out of range
  pub uncounted : {at : ℕ} (k : ℕ) → s.k ≡ k → x < 2 ^ m → (Counts k counts → ⊥) → at ≡ place → Refused input 6 at
  uncounted {at} k e low never here =
      let below : x < 2 ^ s.m = subst (λ (i : ℕ). x < 2 ^ i) (sym mark) low in
      subst (λ (n : ℕ). Refused input n at) (cond-true (ltb x (2 ^ s.m)) 6 5 (lt-ltb x (2 ^ s.m) below)) (fails (λ keeps. never (subst (λ (i : ℕ). Counts i counts) e keeps.1)) here)

  pub told : {place' : ℕ} (k : ℕ) → s.k ≡ k → x < 2 ^ m → Counts k counts → place' ≡ place + 1 + 8 → Sofar input rest' place' (cs ++ state x counts ∷ []) (after s (state x counts))
  told k e low ranged p =
      sofar_more so (state x counts) six (sym d) (subst (λ (i : ℕ). x < 2 ^ i) (sym mark) low, subst (λ (i : ℕ). Counts i counts) (sym e) ranged) stands spelled (omega (arith, p, six, ap length spelled))

pub returns-then-not-among-clause-reads : goal.returns-then-not-among-clause-reads
returns-then-not-among-clause-reads c input cs s so going d k m =
    let took = c.in_ok-take.ensures in
    let x = c.state_of-state.result in
    let spelled = c.state_of-state.ensures in
    rw c.at.ensures.0 (undeclared so d c.args.self.now.header.marks m x.marks x.counts _ spelled.0 took.0 spelled.1 c.if-not-among.ensures.1 c.at.ensures.1)

pub returns-in_err-joint-clause-reads : goal.returns-in_err-joint-clause-reads
returns-in_err-joint-clause-reads c input cs s so going d k m =
    let took = c.in_ok-take.ensures in
    let x = c.state_of-state.result in
    let spelled = c.state_of-state.ensures in
    let p = err_from_is_err_and c.from_residual-in_err-joint.result c.from_residual-in_err-joint.ensures.1 in
    let never = refuted _ _ c.in_err-joint.ensures.ok_part c.joint_of.ensures in
    rw (p.1, p.2, error c.joint_of.result _ _ c.in_err-joint.ensures.value, c.at-2.ensures.0) (uncounted so d c.args.self.now.header.marks m x.marks x.counts _ spelled.0 took.0 spelled.1 c.args.self.now.header.agents k (c.if-not-among.ensures.0 tt) never c.at-2.ensures.1)

pub returns-clause-reads : goal.returns-clause-reads
returns-clause-reads c input cs s so going d k m =
    let took = c.in_ok-take.ensures in
    let x = c.state_of-state.result in
    let spelled = c.state_of-state.ensures in
    let joint = proved _ _ _ c.in_ok-joint.ensures.ok_part c.joint_of.ensures in
    told so d c.args.self.now.header.marks m x.marks x.counts _ spelled.0 took.0 spelled.1 c.args.self.now.header.agents k (c.if-not-among.ensures.0 tt) joint.0 took.2
