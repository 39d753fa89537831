use Rattle.mp_report.proofs.Names.{◌-◌, ◌≡◌, ◌≤◌, flat_map, range_with_len, AreAhead, bundle_set, findings_of}
use Rattle.mp_report.proofs.bundles.found_by.Given as goal

-- what is found before the time that is next to be looked from
abbrev pub invariant-loop-from : goal.invariant-loop-from
invariant-loop-from l = record {
  low : 1 ≤ l.from;
  high : l.from ≤ l.netlist.horizon;
  ahead : AreAhead l.netlist l.bundle l.from l.watch;
  found : l.found ≡ flat_map (λ t. findings_of t (bundle_set l.netlist l.bundle t)) (range_with_len 1 (l.from - 1));
}

abbrev pub decreases-loop-from : goal.decreases-loop-from
decreases-loop-from l = l.horizon - l.from
