use Rattle.sets.specs.Sets.{member, who}
use Rattle.std.proofs.Common.{T}
use Rattle.logic.proofs.Shrinking.{shrinks, can_more}
use Rattle.logic.proofs.fixpoint.always.Goals as goal

pub rounds-smaller : goal.rounds-smaller
rounds-smaller g c = shrinks c.rounds.x c.able-next.result (λ s t. ((c.able-next.ensures s).0 t).0) c.if-is_subset.ensures.1

pub rounds-preserved : goal.rounds-preserved
rounds-preserved g c =
    let M = g.G.Game.model c.args.g.now in (
      λ s t. c.rounds.invariant.0 s ((c.able-next.ensures s).0 t).0,
      λ X stays s t. (c.able-next.ensures s).1 (
        c.rounds.invariant.1 X stays s t,
        can_more M (who c.args.a) s (λ u. T (X u)) (λ u. T (member c.rounds.x u)) (c.rounds.invariant.1 X stays) (stays s t).1,
      ),
    )

pub returns-then-is_subset : goal.returns-then-is_subset
returns-then-is_subset g c s = (
  λ t. (member c.rounds.x, (t, λ u h. (c.rounds.invariant.0 u h, ((c.able-next.ensures u).0 (c.if-is_subset.ensures.0 tt u h)).1))),
  λ p. c.rounds.invariant.1 p.0 p.1.1 s p.1.0,
)
