-- Own choices that lead into a set, and what a coalition can do.
use Rattle.std.proofs.Common.{◌≡◌, ℕ, ◌<◌, T, ◌↔◌, get_or, sym, ◌∙◌, arith}
use Rattle.sets.specs.Sets.{Set, bit, member}
use Rattle.sets.specs.declared.state_set.StateSet.{StateSet}
use Rattle.sets.proofs.Members.{some_member}
use Rattle.model.specs.Model.{Can, Exists, Model, joint, own_of}
use Rattle.ability.specs.Ability.{Leads, PartsOf}
use Rattle.ability.specs.declared.parts.Parts.{Parts}

module _ (M : Model) (A s : ℕ) (X : Set) (p : Parts) (exists : Exists M A) (here : s < M.n) (of : PartsOf (bit A) (M.d s) M.k p) where
  agree : (j : ℕ) → j < joint M s → get_or p.own j 0 ≡ own_of M A s j
  agree j l = of.own j (omega (arith, of.width))

  pub can_leads : (free : StateSet) → ((c : ℕ) → T (member free c) ↔ Leads M s X p (joint M s) c) → (((c : ℕ) → T (member free c) → ⊥) → ⊥) ↔ Can M A s (λ t. T (X t))
  can_leads free is = (
    λ some.
        let one = some_member free some in
        let leads = (is one.0).0 one.1 in
        record {
          coalition = exists;
          state = here;
          with = one.0;
          below = omega (arith, leads.below, of.count);
          leads = λ j l e. leads.into j l (agree j l ∙ e);
        },
    λ can none. none can.with ((is can.with).1 (record {
      below = omega (arith, can.below, of.count);
      into = λ j l e. can.leads j l (sym (agree j l) ∙ e);
    })),
  )
