-- Joint moves of one more agent: those of the agents before, over and over.
use Rattle.std.proofs.Common.{◌≡◌, ℕ, ◌+◌, ◌-◌, ◌*◌, ◌/◌, ◌%◌, ◌<◌, ◌≤◌, cond, List, get_or, sym, refl, ap, ◌∙◌, mod-eq_of_lt, add-one, arith}
use native.Mathlib.Nat.{add-mul-div_left, add-mul-mod_self_left, div-eq_of_lt}
use Rattle.std.proofs.lemmas.Nat.{div_below, mod_below}
use Rattle.sets.specs.Sets.{Set}
use Rattle.model.specs.Model.{Model, Ranged, everyone, moves, own, choice}
use Rattle.model.proofs.Moving.{moves_fit, moves_with, own_lt}
use Rattle.model.proofs.Numbers.{own_periodic}
use Rattle.ability.specs.Ability.{PartsOf, Extends, Small}
use Rattle.ability.specs.declared.parts.Parts.{Parts}

-- the first time round, and once more
pub repeat_first : (xs : List ℕ) (w step i : ℕ) → i < w → get_or xs i 0 ≡ get_or xs (i % w) 0 + i / w * step
repeat_first xs w step i h = rw (mod-eq_of_lt h, div-eq_of_lt h) (omega arith)

pub repeat_more : (xs : List ℕ) (w step j : ℕ) → 1 ≤ w → w ≤ j → get_or xs ((j - w) % w) 0 + (j - w) / w * step + step ≡ get_or xs (j % w) 0 + j / w * step
repeat_more xs w step j p h =
    let e : j - w + w * 1 ≡ j = omega arith in
    let q : j / w ≡ (j - w) / w + 1 = sym (ap (λ (x : ℕ). x / w) e) ∙ add-mul-div_left (j - w) 1 p in
    let r : j % w ≡ (j - w) % w = sym (ap (λ (x : ℕ). x % w) e) ∙ add-mul-mod_self_left (j - w) w 1 in
    rw (q, r) (omega arith)

-- one agent more
pub parts_more : (A : Set) (d : ℕ → ℕ) (i : ℕ) (p q : Parts) → ((b : ℕ) → b < i + 1 → 1 ≤ d b) → PartsOf A d i p → Extends p q (d i) (A i) → PartsOf A d (i + 1) q
parts_more A d i p q pos of more = record {
  width = let e = moves_with everyone d i refl in cc;
  count = rw (add-one, ← of.count) more.count;
  own = λ j h.
      let w = p.width in
      let few : (b : ℕ) → b < i → 1 ≤ d b = λ b l. pos b (omega arith) in
      let some : 0 < w = p.some in
      let turn : j / w < d i = div_below j w (d i) some (omega (arith, more.width)) in
      let chosen : choice everyone d i j ≡ j / w = rw (← of.width) (mod-eq_of_lt turn) in
      let before : get_or p.own (j % w) 0 ≡ own A d i j = of.own (j % w) (mod_below j w some) ∙ ap (λ (m : ℕ). own A d i (j % m)) of.width ∙ own_periodic A d i j few in
      let step : own A d (i + 1) j ≡ own A d i j + cond (A i) (choice everyone d i j * moves A d i) 0 = rw add-one in
      let here = more.own j h in
      cc;
}

-- in a model, one more agent fits
pub parts_small : (M : Model) → Ranged M → (s : ℕ) → s < M.n → (A : Set) (i : ℕ) (p : Parts) → i < M.k → PartsOf A (M.d s) i p → Small p (M.d s i)
parts_small M r s h A i p l of =
    let d = M.d s in
    let pos : (b : ℕ) → b < M.k → 1 ≤ d b = λ b q. (r.choices s b h q).0 in
    record {
      some = pos i l;
      few = omega (arith, ap (λ (w : ℕ). w * d i) of.width, moves_with everyone d i refl, moves_fit M r s h everyone (i + 1) (omega arith));
      own = λ j q. omega (arith, of.own j q, of.count, own_lt d M.k pos A j i (omega arith));
    }
