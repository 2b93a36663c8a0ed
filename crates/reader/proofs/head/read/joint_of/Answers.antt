use Rattle.std.proofs.Common.{◌≡◌, ◌-◌, ◌≢◌, length, take, drop, rules, tests, arith}
use Rattle.std.proofs.lemmas.Iterator.{cases_from_all, YieldsList-from_slice}
use Rattle.reader.proofs.Counting.{counted}
use Rattle.reader.proofs.head.read.joint_of.Goals as goal

pub returns : goal.returns
returns c =
    let k = c.args.agents in
    let xs = c.args.x.counts in
    let told = c.in_ok-joint.ensures in
    let all = cases_from_all _ _ c.all.result (λ d. d ≡ 0) (λ d. d ≢ 0) c.all.ensures.ran (YieldsList-from_slice (take (length xs - k) (drop k xs)) c.iter.ensures.rest)
    (λ x q h. search (rules, tests)) (λ x q h. search (rules, tests)) in
    rw c.then_some.ensures (counted k xs (omega arith) told.0 c.all.result c.in_ok-joint.joint _ told.1 all)
