use Rattle.std.proofs.Common.{◌≡◌, ℕ, List, ◌∷◌, ◌++◌, [], length, get_or, ap, arith}
use Rattle.list.proofs.Joins.{puts_more, puts_room, puts_same}
use Rattle.legend.specs.Legends.{names_of}
use Rattle.file.specs.File.{name_bytes}
use Rattle.file.proofs.Putting.{puts_upto, room_upto}
use Rattle.file.proofs.put.put_names.Goals as goal

pub put-requires : goal.put-requires
put-requires c =
    let names = names_of c.args.legend.now in
    omega (arith, room_upto (name_bytes names) (length names) c.loop-i.i c.requires c.loop-i.invariant (omega (arith, ap length c.names-name-items.ensures)))

pub put-requires-in-loop-i : goal.put-requires-in-loop-i
put-requires-in-loop-i c =
    let names = names_of c.args.legend.now in
    let fits = room_upto (name_bytes names) (length names) c.loop-i.i c.requires c.loop-i.invariant (omega (arith, ap length c.names-name-items.ensures)) in
    omega (arith, fits, puts_room c.put.ensures, ap (λ (x : List (List ℕ)). length (get_or x c.loop-i.i [])) c.names-name-items.ensures)

pub loop-i-preserved : goal.loop-i-preserved
loop-i-preserved c =
    let names = names_of c.args.legend.now in
    let i = c.loop-i.i in
    let part : (c.code.result ∷ i ∷ []) ++ get_or c.names-name-items.result.now i [] ≡ name_bytes names i = cc in
    puts_upto (name_bytes names) i c.loop-i.invariant (puts_same part (puts_more c.put.ensures c.put-in-loop-i.ensures))
