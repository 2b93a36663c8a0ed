-- What a list over borrowed places holds.
use Rattle.std.specs.Prelude.{◌≡◌, ℕ, ◌+◌, ◌-◌, ◌++◌, length, take, drop}
use mathlib.Core.List as L
use Rattle.list.specs.declared.List.{List}

-- the number of the refusal of an item where every place is taken
abbrev pub full_number : ℕ
full_number = 51

-- the items: the first `count` places
abbrev pub items : {T : Type 0} → List T → L.List T
items s = take s.count s.places.now

-- how many more items there is a place for
abbrev pub room : {T : Type 0} → List T → ℕ
room s = length s.places.now - s.count

-- t is s with xs added after its items: the items of s stand as they did, and so does each place past the new ones
pub record Extends {T : Type 0} (s t : List T) (xs : L.List T) : Type 0 where
  pub items : items t ≡ items s ++ xs
  pub count : t.count ≡ s.count + length xs
  pub size : length t.places.now ≡ length s.places.now
  pub rest : drop t.count t.places.now ≡ drop t.count s.places.now

-- and over the same places
pub record Puts {T : Type 0} (s t : List T) (xs : L.List T) : Type 0 where
  pub extends : Extends s t xs
  pub named : t.places.ghost_name ≡ s.places.ghost_name

-- t is s, also past its items
pub record Kept {T : Type 0} (s t : List T) : Type 0 where
  pub named : t.places.ghost_name ≡ s.places.ghost_name
  pub count : t.count ≡ s.count
  pub places : t.places.now ≡ s.places.now

-- t is empty, over the places of s as they were
pub record Emptied {T : Type 0} (s t : List T) : Type 0 where
  pub named : t.places.ghost_name ≡ s.places.ghost_name
  pub count : t.count ≡ 0
  pub places : t.places.now ≡ s.places.now

-- t holds just xs, over the places of s: those past them are as before
pub record Refilled {T : Type 0} (s t : List T) (xs : L.List T) : Type 0 where
  pub named : t.places.ghost_name ≡ s.places.ghost_name
  pub items : items t ≡ xs
  pub count : t.count ≡ length xs
  pub size : length t.places.now ≡ length s.places.now
  pub rest : drop t.count t.places.now ≡ drop t.count s.places.now
