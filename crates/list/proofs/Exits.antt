-- The exit of a `?`.
use Rattle.std.proofs.Common.{◌≡◌, IsErrAnd, IfOk, Ok, Err, Result, sym, subst, MatchResult}

pub at_exit : {T E : Type 0} (P : T → Type 0) (Q : E → Type 0) (r : Result T E) (d : E) → IsErrAnd r (λ y. y ≡ d) → Q d → MatchResult r P Q
at_exit P Q (Ok x) d h q = absurd h
at_exit P Q (Err e) d h q = subst Q (sym h) q

pub at_exit_made : {T E : Type 0} (P : T → Type 0) (r : Result T E) (d : E) → IsErrAnd r (λ y. y ≡ d) → IfOk r P
at_exit_made P (Ok x) d h = absurd h
at_exit_made P (Err e) d h = tt
