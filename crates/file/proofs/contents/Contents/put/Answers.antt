use Rattle.std.proofs.Common.{◌≡◌, ◌∷◌, [], length, ap, arith}
use Rattle.list.proofs.Joins.{puts_more, puts_same}
use Rattle.model.specs.Model.{Marks}
use Rattle.legend.specs.Legends.{names_of}
use Rattle.file.specs.File.{begin, encode}
use Rattle.file.proofs.Putting.{puts_number}
use Rattle.file.proofs.Spanning.{file_parts}
use Rattle.file.proofs.contents.Contents.put.Goals as goal

pub returns : goal.returns
returns g c =
    let M = g.G.Game.model c.args.self.now.game.now in
    let names = names_of c.args.self.now.legend.now in
    let tied = ap (λ (m : Marks). m.n) (g.met.G.Game.tied c.args.self.now.game.now) in
    let n : c.states.result ≡ M.n = omega (arith, tied, c.states.ensures) in
    let begun : c.code.result ∷ c.agents.result ∷ c.states.result ∷ c.count.result ∷ [] ≡ encode (begin M.k M.n (length names)) = cc in
    let ended = puts_number c.put-2.ensures c.code-2.ensures c.put-3.ensures c.args.self.now.counted (omega arith) c.to_be_bytes.ensures in
    puts_same (file_parts M names) (puts_more (puts_same begun c.put.ensures) (puts_more c.put_names.ensures (puts_more c.put_states.ensures ended)))
