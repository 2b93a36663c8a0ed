-- Runs of bytes that a test tells.
use Rattle.std.specs.Prelude.{ℕ, ◌<◌, ◌≤◌, List, length, slice_index, Bool, true, false}

-- the test holds of the bytes of text from p to q, and does not of the byte at q, if there is one
pub record Passes (Test : ℕ → Bool → Type 0) (text : List ℕ) (p q : ℕ) : Type 0 where
  pub ordered : p ≤ q
  pub within : q ≤ length text
  pub all : (k : ℕ) → p ≤ k → k < q → Test (slice_index text k) true
  pub ends : q < length text → Test (slice_index text q) false
