use Rattle.std.proofs.Common.{ℕ, T, not, ◌↔◌, subst}
use Rattle.sets.specs.Sets.{bit, member, who}
use Rattle.sets.proofs.Bitwise.{T_not}
use Rattle.model.specs.Model.{Can, Exists}
use Rattle.model.proofs.Numbers.{numbering}
use Rattle.ability.specs.Ability.{PartsOf}
use Rattle.ability.proofs.Leading.{can_leads}
use Rattle.ability.proofs.enforce.can.Goals as goal

pub returns-in_default-clause-numbering : goal.returns-in_default-clause-numbering
returns-in_default-clause-numbering g c = numbering _ (g.met.G.Game.ranged c.args.g.now) (who c.args.a) c.args.s

pub returns-clause-can : goal.returns-clause-can
returns-clause-can g c =
    let at = c.in-Some.at in
    let M = g.G.Game.model at.game.now in
    let A = who c.args.a in
    let told = c.in-Some.ensures in
    let of : PartsOf (bit A) (M.d at.state) M.k c.own_parts-parts.result = c.own_parts-parts.ensures in
    let exists : Exists M A = rw told.0 told.2 in
    let able = can_leads M A at.state (member c.args.x) c.own_parts-parts.result exists at.exists of c.leading.result c.leading.ensures in
    let here : T (not c.is_empty.result) ↔ Can M A at.state (λ t. T (member c.args.x t)) = (
      λ t. able.0 (λ none. (T_not c.is_empty.result).0 t (c.is_empty.ensures.1 none)),
      λ can. (T_not c.is_empty.result).1 (λ t. able.1 can (c.is_empty.ensures.0 t)),
    ) in
    subst (λ x. T (not c.is_empty.result) ↔ Can (g.G.Game.model x) A c.args.s (λ t. T (member c.args.x t))) told.0
    (subst (λ (s : ℕ). T (not c.is_empty.result) ↔ Can M A s (λ t. T (member c.args.x t))) told.1 here)

pub returns-clause-numbering : goal.returns-clause-numbering
returns-clause-numbering g c = numbering _ (g.met.G.Game.ranged c.args.g.now) (who c.args.a) c.args.s
