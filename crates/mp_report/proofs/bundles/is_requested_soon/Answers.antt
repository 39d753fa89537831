use Rattle.mp_report.proofs.Names.{arith, level}
use Rattle.mp_report.proofs.BundleLemmas.{soon_is}
use Rattle.mp_report.proofs.bundles.is_requested_soon.Goals as goal

pub overflow_sub-result : goal.overflow_sub-result
overflow_sub-result c =
    c.next-event.ensures.later (level c.args.netlist.now c.args.bundle.now.request.0) c.args.netlist.now.horizon c.args.time c.requires.ahead (omega (arith, c.horizon-horizon.ensures.value, c.requires.within))

pub returns : goal.returns
returns c =
    let f = level c.args.netlist.now c.args.bundle.now.request.0 in
    let h = c.args.netlist.now.horizon in
    let next = c.next-event.ensures in
    grind (
      arith,
      c.horizon-horizon.ensures.value,
      (soon_is f c.args.time c.args.bundle.now.setup h c.next-event.result
          (next.later f h c.args.time c.requires.ahead (omega (arith, c.horizon-horizon.ensures.value, c.requires.within)))
          (λ less. next.event f h c.args.time c.requires.ahead (omega (arith, c.horizon-horizon.ensures.value, less))) (λ u. next.quiet f h c.args.time u c.requires.ahead)),
    )
