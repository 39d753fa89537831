use Rattle.std.proofs.Common.{◌≡◌, not, Ok, take}
use Rattle.std.specs.List.{flat_map}
use Rattle.mp_streams.specs.WriteErrors.{Writes}
use Rattle.mp_picture.specs.wave_json.WaveJson.{has_some, signal_item, without_first}
use Rattle.mp_picture.proofs.wave_json.wave_json.put_signals.Given as goal

-- the signals so far are written, and the next one is the first if there was none
abbrev pub invariant-loop-wire : goal.invariant-loop-wire
invariant-loop-wire g l =
    let picture = l.picture in
    let so_far = flat_map (signal_item picture.netlist.now picture.columns picture.numerals) (take l.wire-index picture.wires.now) in
    Writes {T = Unit {0}} (Ok tt) l.fn.out l.out (without_first so_far) × (l.is_first ≡ not (has_some so_far))
