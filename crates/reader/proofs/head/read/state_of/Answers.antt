use Rattle.std.proofs.Common.{◌<◌, length, get_or, drop, ap, ◌∙◌, arith, rules, length-drop, length-take-le}
use Rattle.reader.proofs.Spelling.{same_chunk, spells_state}
use Rattle.reader.proofs.head.read.state_of.Goals as goal

pub returns : goal.returns
returns c =
    let front = same_chunk _ _ _ _ _ c.unwrap.ensures c.try_into.ensures.1 in
    let counts = same_chunk _ _ _ _ _ c.unwrap-2.ensures c.try_into-2.ensures.1 in
    let low : get_or c.unwrap.result 1 0 < 256 = search rules in (
      ap length counts ∙ length-take-le 6 (drop 2 c.args.operands) (omega (arith, length-drop 2 c.args.operands)),
      spells_state c.args.operands c.unwrap.result c.unwrap-2.result c.from_be_bytes.result (omega arith) front low c.from_be_bytes.ensures counts,
    )
