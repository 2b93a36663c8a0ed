-- What a coalition chooses in each joint move, and the own choices that lead into a set.
use Rattle.std.specs.Prelude.{◌≡◌, ℕ, ◌+◌, ◌*◌, ◌/◌, ◌%◌, ◌<◌, ◌≤◌, Bool, cond, T, slice_index}
use Rattle.sets.specs.Sets.{Set}
use Rattle.model.specs.Model.{Model, everyone, most, moves, own}
use Rattle.ability.specs.declared.parts.Parts.{Parts}

-- what the first i agents have, those in A alone, by their counts d
pub record PartsOf (A : Set) (d : ℕ → ℕ) (i : ℕ) (p : Parts) : Type 0 where
  pub width : p.width ≡ moves everyone d i
  pub count : p.count ≡ moves A d i
  pub own : (j : ℕ) → j < p.width → slice_index p.own j ≡ own A d i j

-- one more agent with d choices fits
pub record Small (p : Parts) (d : ℕ) : Type 0 where
  pub some : 1 ≤ d
  pub few : p.width * d ≤ most
  pub own : (j : ℕ) → j < p.width → slice_index p.own j < p.count

-- q is p with one more agent, who has d choices and is a member or isn't
pub record Extends (p q : Parts) (d : ℕ) (member : Bool) : Type 0 where
  pub width : q.width ≡ p.width * d
  pub count : q.count ≡ p.count * cond member d 1
  pub own : (j : ℕ) → j < q.width → slice_index q.own j ≡ slice_index p.own (j % p.width) + cond member (j / p.width * p.count) 0

-- the own choice c is one of p, and each of the first m joint moves at s that agrees with it leads into X
pub record Leads (M : Model) (s : ℕ) (X : Set) (p : Parts) (m c : ℕ) : Type 0 where
  pub below : c < p.count
  pub into : (j : ℕ) → j < m → slice_index p.own j ≡ c → T (X (M.out s j))
