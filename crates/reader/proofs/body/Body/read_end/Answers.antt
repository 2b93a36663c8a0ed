use Rattle.std.proofs.Common.{◌<◌, get_or, sym, ◌∙◌, arith, rules}
use Rattle.file.specs.File.{finish}
use Rattle.file.proofs.Filing.{due_end}
use Rattle.reader.proofs.Going.{sofar_more, breaks}
use Rattle.reader.proofs.Spelling.{spells_end}
use Rattle.reader.proofs.body.Body.read_end.Goals as goal

pub returns-then-told-total-clause-reads : goal.returns-then-told-total-clause-reads
returns-then-told-total-clause-reads c input cs s so n left states outs =
    let took = c.in_ok-take.ensures in
    let x = c.from_be_bytes-told.result in
    let low : get_or c.in_ok-take.field-0 1 0 < 256 = search rules in
    let spelled = spells_end c.in_ok-take.field-0 x took.1 low c.from_be_bytes-told.ensures in
    rw c.at.ensures.0 (breaks so (finish x) _ tt (sym (due_end s n.going n.some n.all left states)) took.0 spelled
    (λ keeps. c.if-told-total.true (keeps ∙ outs)) c.at.ensures.1)

pub returns-clause-reads : goal.returns-clause-reads
returns-clause-reads c input cs s so n left states outs =
    let took = c.in_ok-take.ensures in
    let x = c.from_be_bytes-told.result in
    let low : get_or c.in_ok-take.field-0 1 0 < 256 = search rules in
    let spelled = spells_end c.in_ok-take.field-0 c.args.total took.1 low (sym c.if-told-total.false ∙ c.from_be_bytes-told.ensures) in
    sofar_more so (finish c.args.total) tt (sym (due_end s n.going n.some n.all left states)) (sym outs) took.0 spelled (omega (arith, took.1, took.2))
