use Rattle.std.proofs.Common.{Ok, flat_map, take, length}
use Rattle.std.specs.List.{range_with_len}
use Rattle.mp_streams.specs.Outgoing.{Writes}
use Rattle.mp_check.specs.Over.{busy_note}
use Rattle.mp_check.specs.Selections.{keeps_bundle, selected}
use Rattle.mp_check.proofs.SelectedLemmas.{kept}
use Rattle.mp_check.proofs.busy.put_bundles.Given as goal

-- the notes on the bundles so far are written
abbrev pub invariant-loop-number : goal.invariant-loop-number
invariant-loop-number g l =
    Writes {T = Unit {0}} (Ok tt) l.fn.out l.out
    (flat_map (kept (keeps_bundle l.end.at.netlist.now (selected l.selection)) (busy_note l.end.at.netlist.now)) (take l.number (range_with_len 0 (length l.end.at.netlist.now.bundles))))
