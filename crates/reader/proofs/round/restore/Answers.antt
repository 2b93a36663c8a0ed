use Rattle.std.proofs.Common.{Result, Ok, Err, IsOk, MatchResult, refl}
use Rattle.std.proofs.lemmas.Result.{MatchResult-at_ok}
use Rattle.reader.proofs.Rounding.{unwritten, restored}
use Rattle.reader.proofs.round.restore.Goals as goal

is_read : {T E : Type 0} (P : T → Type 0) (Q : E → Type 0) (r : Result T E) → MatchResult r P Q → ((e : E) → Q e → ⊥) → IsOk r
is_read P Q (Ok x) p never = refl
is_read P Q (Err e) q never = absurd (never e q)

pub unwrap-requires : goal.unwrap-requires
unwrap-requires g c = is_read _ _ c.read.result c.read.ensures (λ f rejects. unwritten (g.met.G.Game.ranged c.args.g.now) c.args.legend.now.lawful c.in_ok-write.ensures rejects.0)

pub returns : goal.returns
returns g c = restored (g.met.G.Game.ranged c.args.g.now) c.args.legend.now.lawful c.in_ok-write.ensures (MatchResult-at_ok _ _ c.unwrap.result c.unwrap.ensures c.read.ensures)
