use Rattle.std.proofs.Common.{List, Option, length, sym, subst}
use Rattle.mp_wave.specs.Waveform.{Waveform}
use Rattle.mp_netlist.specs.Circuit.{wire_at}
use Rattle.mp_model.specs.Waves.{slot_wave}
use Rattle.mp_partition.specs.runs.Outcomes.{AreSlots}
use Rattle.mp_partition.specs.runs.Runs.{IsRun}
use Rattle.mp_redo.proofs.lemmas.apart.RunSlotLemmas.{runs_are_by_slots}
use Rattle.mp_near.proofs.runs.before.run_before.Goals as goal

pub returns : goal.returns
returns c =
    let n = c.args.small.now.was in
    let waves = subst (λ (xs : List (Option Waveform)). AreSlots (length n.wires) (λ w. slot_wave n w (wire_at n w)) xs) (sym c.new.ensures) c.in_ok-waves.ensures in
    subst (IsRun n) (sym c.new-2.ensures) (runs_are_by_slots n _ (record { horizon = c.horizon.ensures.value; waves = waves; ends = c.in_ok-ends.ensures; kept = c.in_ok-kept.ensures }))
