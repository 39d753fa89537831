use Rattle.mp_report.proofs.Names.{◌-◌, ◌<◌, ℕ, sym, ◌∙◌, ap, ◌++◌, arith, flat_map, range_with_len, findings_of, bundle_set}
use Rattle.mp_report.proofs.TimeLemmas.{told_more}
use Rattle.mp_report.proofs.BundleLemmas.{quiet_upto}
use Rattle.mp_report.proofs.bundles.found_by.Goals as goal

pub returns-then-time-horizon : goal.returns-then-time-horizon
returns-then-time-horizon c =
    let h = c.loop-from.invariant in
    let n = c.args.netlist.now in
    let b = c.args.bundle.now in
    let ends = c.horizon-horizon.ensures.value in
    h.found ∙ sym (quiet_upto n b c.loop-from.from n.horizon h.low h.high (λ u low high. c.next-time.ensures.quiet n b c.loop-from.from u h.ahead low (omega (arith, high, ends, c.if-time-horizon.true)) high))

pub found_now-requires-clause-ahead : goal.found_now-requires-clause-ahead
found_now-requires-clause-ahead c =
    let h = c.loop-from.invariant in
    let next = c.next-time.ensures in
    next.still c.args.netlist.now c.args.bundle.now c.loop-from.from h.ahead (next.later c.args.netlist.now c.args.bundle.now c.loop-from.from h.ahead (omega arith)) (omega (arith, next.within))

pub loop-from-smaller : goal.loop-from-smaller
loop-from-smaller c = omega (arith, c.next-time.ensures.within, c.next-time.ensures.later c.args.netlist.now c.args.bundle.now c.loop-from.from c.loop-from.invariant.ahead (omega arith))

pub loop-from-preserved : goal.loop-from-preserved
loop-from-preserved c =
    let h = c.loop-from.invariant in
    let n = c.args.netlist.now in
    let b = c.args.bundle.now in
    let next = c.next-time.ensures in
    let time = c.next-time.result in
    let later = next.later n b c.loop-from.from h.ahead (omega arith) in
    let below : time < n.horizon = omega (arith, next.within) in
    let told = λ (t : ℕ). findings_of t (bundle_set n b t) in
    record {
      low = omega arith;
      high = omega (arith, below);
      ahead = c.since-watch.ensures n b (next.still n b c.loop-from.from h.ahead later (omega (arith, below))) below;
      found = c.in_ok-extend.ensures.ok ∙ ap (λ l. l ++ findings_of time c.found_now.result) (h.found ∙ sym (quiet_upto n b c.loop-from.from time h.low later (λ u low high. next.quiet n b c.loop-from.from u h.ahead low high (omega (arith, high, below)))))
          ∙ ap (λ set. flat_map told (range_with_len 1 (time - 1)) ++ findings_of time set) c.found_now.ensures
          ∙ sym (told_more told 1 (time - 1) time (omega (arith, h.low, later))) ∙ ap (λ k. flat_map told (range_with_len 1 k)) (omega (arith, h.low, later));
    }
