-- The lines of a formula break no rule and say it.
use Rattle.std.proofs.Common.{◌≡◌, ℕ, suc, ◌<◌, ◌≤◌, ◌↔◌, List, [], ◌∷◌, length, sym, refl, ap, ◌∙◌, subst, ap₂, le_refl, not-suc-le-zero, arith}
use mathlib.Core.Logic.Iff
use Rattle.model.specs.Model.{Model}
use Rattle.logic.specs.Logic.{
  Formula,
  verum,
  mark,
  neg,
  both,
  either,
  next,
  always,
  until,
  Holds,
  Line,
  True,
  Mark,
  Not,
  And,
  Or,
  Next,
  Always,
  Until,
  formula_by,
  said,
  Rule,
  Ruled,
  Answer,
}
use Rattle.logic.specs.Lines.{last, flatten, Plain, Fit}
use Rattle.logic.proofs.Asking.{said_new, said_old}

module _ (U : Type 0) (k : ℕ) where
  -- w goes on from q and breaks no rule
  record Grows (q w : List Line) : Type 0 where
    ruled : Ruled k q → Ruled k w
    plain : (U → ⊥) → Plain q → Plain w
    longer : length q ≤ length w
    kept : (p : ℕ) → p < length q → said w p ≡ said q p

  -- and its newest line says f
  record Says (q : List Line) (f : Formula) (w : List Line) : Type 0 where
    grows : Grows q w
    top : last w < length w
    says : said w (last w) ≡ f

  push : {q w : List Line} {f : Formula} (l : Line) → Grows q w → Rule k (length w) l → ((U → ⊥) → Plain w → Plain (l ∷ w)) → formula_by (said w) l ≡ f → Says q f (l ∷ w)
  push {w = w} l g rule allowed is = record {
    grows = record {
      ruled = λ r. (rule, g.ruled r);
      plain = λ no b. allowed no (g.plain no b);
      longer = omega arith;
      kept = λ p h. said_old l w p (omega arith) ∙ g.kept p h;
    };
    top = le_refl (suc (length w));
    says = said_new l w ∙ is;
  }

  same : {q : List Line} → Grows q q
  same {q} = record { ruled = λ r. r; plain = λ _ b. b; longer = le_refl (length q); kept = λ p h. refl }

  -- two operands, one after the other
  record Two (q : List Line) (f g : Formula) (v w : List Line) : Type 0 where
    grows : Grows q w
    places : (last v < length w) × (last w < length w)
    left : said w (last v) ≡ f
    right : said w (last w) ≡ g

  two : {q v w : List Line} {f g : Formula} → Says q f v → Says v g w → Two q f g v w
  two {v = v} a b = record {
    grows = record {
      ruled = λ r. b.grows.ruled (a.grows.ruled r);
      plain = λ no r. b.grows.plain no (a.grows.plain no r);
      longer = omega arith;
      kept = λ p h. b.grows.kept p (omega arith) ∙ a.grows.kept p h;
    };
    places = omega arith;
    left = b.grows.kept (last v) a.top ∙ a.says;
    right = b.says;
  }

  flattened : (f : Formula) (q : List Line) → Fit U k f → Says q f (flatten f q)
  flattened verum q h = push True same tt (λ _ b. b) refl
  flattened (mark i) q h = push (Mark i) same h (λ _ b. b) refl
  flattened (neg f) q h = let a = flattened f q h in push (Not _) a.grows a.top (λ _ b. b) (ap neg a.says)
  flattened (both f g) q h = let t = two (flattened f q h.0) (flattened g (flatten f q) h.1) in push (And _ _) t.grows t.places (λ _ b. b) (ap₂ both t.left t.right)
  flattened (either f g) q h = let t = two (flattened f q h.0) (flattened g (flatten f q) h.1) in push (Or _ _) t.grows t.places (λ _ b. b) (ap₂ either t.left t.right)
  flattened (next A f) q h = let a = flattened f q h.1 in push (Next A _) a.grows (h.0, a.top) (λ _ b. b) (ap (next A) a.says)
  flattened (always A f) q h = let a = flattened f q h.2 in push (Always A _) a.grows (h.1, a.top) (λ no _. no h.0) (ap (always A) a.says)
  flattened (until A f g) q h =
      let t = two (flattened f q h.2) (flattened g (flatten f q) h.3) in
      push (Until A _ _) t.grows (h.1, t.places.0, t.places.1) (λ no _. no h.0) (ap₂ (until A) t.left t.right)

-- a formula has lines, that hold where it holds
pub lines_of : {U : Type 0} (M : Model) (f : Formula) → Fit U M.k f → Ruled M.k (flatten f []) × ((U → ⊥) → Plain (flatten f [])) × ((s : ℕ) → Answer M (flatten f []) s ↔ Holds M f s)
lines_of {U} M f h =
    let a = flattened U M.k f [] h in
    (a.grows.ruled tt, λ no. a.grows.plain no tt, λ s. subst (λ g. Answer M (flatten f []) s ↔ Holds M g s) a.says (go (flatten f []) a.top s))
  where
    go : (w : List Line) → last w < length w → (s : ℕ) → Answer M w s ↔ Holds M (said w (last w)) s
    go [] l s = absurd (not-suc-le-zero l)
    go (l ∷ ls) _ s = subst (λ g. Holds M (formula_by (said ls) l) s ↔ Holds M g s) (sym (said_new l ls)) Iff.rfl

-- and it has some
pub flatten_some : (f : Formula) (q : List Line) → 1 ≤ length (flatten f q)
flatten_some verum q = omega arith
flatten_some (mark i) q = omega arith
flatten_some (neg f) q = omega arith
flatten_some (both f g) q = omega arith
flatten_some (either f g) q = omega arith
flatten_some (next A f) q = omega arith
flatten_some (always A f) q = omega arith
flatten_some (until A f g) q = omega arith
