use Rattle.std.proofs.Common.{◌≡◌, ℕ, ◌+◌, ◌<◌, List, ◌++◌, length, set, sym, refl, ap, ◌∙◌, subst, append_assoc, arith}
use Rattle.std.proofs.lemmas.Result.{err_from_is_err_and}
use Rattle.model.specs.Kinds.{counts_at, nowhere}
use Rattle.model.proofs.Filling.{fill_more}
use Rattle.file.specs.File.{Command, upto}
use Rattle.reader.specs.Bodies.{row_commands}
use Rattle.model.specs.Model.{everyone, moves}
use Rattle.reader.specs.declared.header.Header.{Header}
use Rattle.reader.specs.Heads.{Kept, body_seen, state_commands}
use Rattle.reader.specs.Sofar.{Sofar}
use Rattle.reader.proofs.Rowing.{body_naming, rows_more}
use Rattle.reader.proofs.body.Body.read_states.Goals as goal

pub returns-in_err-head-clause-reads : goal.returns-in_err-head-clause-reads
returns-in_err-head-clause-reads c input cs names e so =
    let p = err_from_is_err_and c.from_residual.result c.from_residual.ensures.1 in
    let s = c.loop-state.state-index in
    rw (p.1, p.2) (c.in_err-head.ensures.reads input _ _ (c.loop-state.invariant.3 input cs names e so) (body_naming c.args.self.now.header names s c.loop-state.total e) refl (omega (arith, c.loop-state-test.true, c.requires))
    (sym (ap (λ (g : Header). g.agents) c.loop-state.invariant.0)) (sym (ap (λ (g : Header). g.marks) c.loop-state.invariant.0)) (sym (ap (λ (g : Header). g.states) c.loop-state.invariant.0)))

pub returns-in_err-head-clause-header : goal.returns-in_err-head-clause-header
returns-in_err-head-clause-header c = c.in_err-head.ensures.header ∙ c.loop-state.invariant.0

pub returns-clause-header : goal.returns-clause-header
returns-clause-header c = c.loop-state.invariant.0

pub loop-state-preserved : goal.loop-state-preserved
loop-state-preserved c =
    let h = c.args.self.now.header in
    let s = c.loop-state.state-index in
    let xs = c.loop-state.states in
    let total = c.loop-state.total in
    let x = c.in_ok-head.head.state in
    let joint = c.in_ok-head.head.joint in
    let inv = c.loop-state.invariant in
    let told = c.in_ok-head.ensures in
    let agents = ap (λ (g : Header). g.agents) inv.0 in
    let kept = subst (λ (g : Header). Kept g x × (joint ≡ moves everyone (counts_at x) g.agents)) inv.0 told.kept in
    let within : s < length xs = omega (arith, c.loop-state-test.true, c.loop-state.auto.states) in (
      told.header ∙ inv.0,
      omega (arith, inv.1, c.from-total.ensures, kept.1, kept.0.counts.ranged.product),
      fill_more nowhere xs s x (λ _ y. Kept h y) within inv.2 kept.0,
      λ input cs names e so.
          let so1 = told.reads input _ _ (inv.3 input cs names e so) (body_naming h names s total e) refl (omega (arith, c.loop-state-test.true, c.requires)) (sym agents) (sym (ap (λ (g : Header). g.marks) inv.0)) (sym (ap (λ (g : Header). g.states) inv.0)) in
          let same = append_assoc cs (upto (row_commands h.agents xs) s) _ ∙ ap (λ (l : List Command). cs ++ l) (rows_more h.agents xs s x within) in
          let P : List Command → ℕ → Type 0 = λ l i. Sofar input c.read_state.new.self.cursor.rest.now c.read_state.new.self.cursor.place l (body_seen h names (s + 1) (total + i)) in
          subst (P (cs ++ upto (row_commands h.agents (set xs s x)) (s + 1))) (sym c.from-total.ensures) (subst (λ (l : List Command). P l joint) same (subst (λ (k : ℕ). P ((cs ++ upto (row_commands h.agents xs) s) ++ state_commands k x) joint) agents so1)),
    )

pub returns-clause-reads : goal.returns-clause-reads
returns-clause-reads c input cs names e so =
    let done : c.loop-state.state-index ≡ c.args.self.now.header.states = omega (arith, c.loop-state-test.false, c.loop-state.auto.state-index-end, c.requires) in
    subst (λ (s : ℕ). Sofar input c.loop-state.self.cursor.rest.now c.loop-state.self.cursor.place (cs ++ upto (row_commands c.args.self.now.header.agents c.loop-state.states) s)
    (body_seen c.args.self.now.header names s c.loop-state.total)) done (c.loop-state.invariant.3 input cs names e so)
