use Rattle.std.proofs.Common.{ℕ, ◌^◌, ◌<◌, T, ◌↔◌, refl, ap, subst, rules, tests, arith}
use Rattle.std.proofs.lemmas.Iterator.{cases_from_all, YieldsList-from_range}
use Rattle.model.specs.Model.{Marks, marks_of}
use Rattle.file.specs.File.{Named}
use Rattle.file.proofs.Every.{all_below}
use Rattle.file.proofs.contents.is_covered.Goals as goal

pub returns : goal.returns
returns g c =
    let M = g.G.Game.model c.args.game.now in
    let n = c.states.result in
    let tied = ap (λ (m : Marks). m.n) (g.met.G.Game.tied c.args.game.now) in
    let P = λ (s : ℕ). s < M.n → M.marks s < 2 ^ c.count-names.result in
    let told = cases_from_all _ _ c.all.result P (λ (s : ℕ). P s → ⊥) c.all.ensures.ran (YieldsList-from_range 0 n n refl (omega arith)) (λ x q k. search (rules, tests)) (λ x q k. search (rules, tests)) in
    let (so, back) = all_below P n c.all.result told in
    subst (λ (m : ℕ). T c.all.result ↔ Named (marks_of M) m) c.count-names.ensures (λ t s h. so t s (omega (arith, tied, c.states.ensures)) h, λ named. back (λ s _ h. named s h))
