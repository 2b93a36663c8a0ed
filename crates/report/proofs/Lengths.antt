-- How many bytes the states of a set fill.
use Rattle.std.proofs.Common.{ℕ, zero, suc, ◌*◌, ◌<◌, ◌≤◌, length, decimal, arith, length-append}
use Rattle.std.proofs.lemmas.Fmt.{length-decimal-le}
use Rattle.sets.specs.Sets.{Set}
use Rattle.file.specs.File.{upto}
use Rattle.report.specs.Listings.{spaced}

-- a byte has three digits at most
pub three : (n : ℕ) → n < 256 → length (decimal n) ≤ 3
three n byte = length-decimal-le 3 n (omega arith) (omega arith) (omega arith)

-- a state and its space fill at most four bytes
spaced-length : (X : Set) (s : ℕ) → s < 256 → length (spaced X s) ≤ 4
spaced-length X s h = let k = three s h in grind arith

pub states-length : (X : Set) (n : ℕ) → n ≤ 256 → length (upto (spaced X) n) ≤ 4 * n
states-length X zero h = omega arith
states-length X (suc n) h = omega (arith, length-append (upto (spaced X) n) (spaced X n), states-length X n (omega arith), spaced-length X n (omega arith))
