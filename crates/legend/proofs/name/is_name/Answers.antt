use Rattle.std.proofs.Common.{◌+◌, ◌-◌, arith}
use Rattle.std.proofs.lemmas.Grind.{common_steps}
use Rattle.legend.proofs.Spelling.{name_made, spaces_after}
use Rattle.legend.proofs.name.is_name.Goals as goal

pub returns-then-is_letter : goal.returns-then-is_letter
returns-then-is_letter c =
    let end = c.word_length-end in
    let bytes = c.args.bytes.now in
    let is = c.word_length-end.ensures in (
      λ t. name_made bytes end.result is.within is.inner is.longest (omega arith)
          (λ i h l. let k = c.is_blank.ensures.0 t (i - end.result) (grind (arith, common_steps)) in grind (arith, common_steps, k)) (c.if-is_letter.ensures.0 tt) c.if-same.ensures.1,
      λ n. c.is_blank.ensures.1 (λ i h. let k = spaces_after bytes end.result is.within is.inner is.longest n (end.result + i) (omega arith) (grind (arith, common_steps, h)) in grind (arith, common_steps, k)),
    )
