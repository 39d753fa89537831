use Rattle.mp_report.proofs.Names.{arith, level}
use Rattle.mp_report.proofs.AheadLemmas.{level_before}
use Rattle.mp_report.proofs.bundles.found_now.Goals as goal

pub returns : goal.returns
returns c =
    let n = c.args.netlist.now in
    let b = c.args.bundle.now in
    let ahead = c.requires.ahead in
    let request = c.changes_at-request.ensures _ _ ahead.request c.requires.within in
    let payload = c.changes_at-payload.ensures _ _ ahead.payload c.requires.within in
    let acknowledge = c.changes_at-acknowledge.ensures _ _ ahead.acknowledge c.requires.within in
    let before = level_before (level n b.request.0) n.horizon c.args.time c.args.watch.request ahead.request (omega arith) in
    let after = level_before (level n b.acknowledge.0) n.horizon c.args.time c.args.watch.acknowledge ahead.acknowledge (omega arith) in
    cc
