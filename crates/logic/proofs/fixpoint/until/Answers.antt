use Rattle.std.proofs.Common.{T, ap, inl, inr, arith}
use Rattle.model.specs.Model.{Marks}
use Rattle.sets.specs.Sets.{member, who}
use Rattle.logic.proofs.Shrinking.{shrinks, can_more, tested}
use Rattle.logic.proofs.fixpoint.until.Goals as goal

pub rounds-smaller : goal.rounds-smaller
rounds-smaller g c =
    shrinks c.rounds.rest c.difference-rest.result (λ s t. ((c.difference-rest.ensures s).0 t).0)
    (λ all. c.if-is_empty.ensures.1 (λ s t. ((c.difference-rest.ensures s).0 (all s ((c.able-more.ensures s).0 t).0)).1 t))

pub rounds-preserved : goal.rounds-preserved
rounds-preserved g c =
    let M = g.G.Game.model c.args.g.now in
    let old = c.rounds.invariant in (
      λ s t. (c.union-x.ensures s).1 (inl (old.0 s t)),
      λ s t. old.1 s ((c.difference-rest.ensures s).0 t).0,
      λ s t. elim (tested (member c.able-more.result s)) [
        | inl h ↦ inl ((c.union-x.ensures s).1 (inr h))
        | inr n ↦ elim (old.2 s t) [ inl h ↦ inl ((c.union-x.ensures s).1 (inl h)) | inr h ↦ inr ((c.difference-rest.ensures s).1 (h, n)) ]
      ],
      λ X closed s t. elim ((c.union-x.ensures s).0 t) [
        | inl h ↦ old.3 X closed s h
        | inr h ↦ let p = (c.able-more.ensures s).0 h in
            closed.1 s (old.1 s p.0) (can_more M (who c.args.a) s (λ u. T (member c.rounds.x u)) (λ u. T (X u)) (old.3 X closed) p.1)
      ],
    )

pub returns-then-is_empty : goal.returns-then-is_empty
returns-then-is_empty g c s =
    let old = c.rounds.invariant in
    let tied = ap (λ (m : Marks). m.n) (g.met.G.Game.tied c.args.g.now) in (
      λ t. let p = (c.intersection.ensures s).0 t in
          (omega (arith, ((c.below.ensures s).0 p.1).0, c.states.ensures, tied), λ X closed. old.3 X closed s p.0),
      λ p. (c.intersection.ensures s).1 (
        p.1 (member c.rounds.x) (old.0, λ u h e. elim (old.2 u h) [ inl k ↦ k | inr k ↦ absurd (c.if-is_empty.ensures.0 tt u ((c.able-more.ensures u).1 (k, e))) ]),
        (c.below.ensures s).1 (omega (arith, p.0, c.states.ensures, tied), omega (arith, p.0, (g.met.G.Marked.in_range c.args.g.now).states.1, tied)),
      ),
    )
