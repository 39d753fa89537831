use Rattle.std.proofs.Common.{List, Option, length, sym, subst}
use Rattle.mp_wave.specs.Waveform.{Waveform}
use Rattle.mp_netlist.specs.Circuit.{wire_at}
use Rattle.mp_model.specs.Waves.{slot_wave, AreWavesOf}
use Rattle.mp_partition.proofs.lemmas.runs.OutcomeLemmas.{slot_is, no_wave}
use Rattle.mp_partition.proofs.merging.merging.merged_waves.Goals as goal

pub returns : goal.returns
returns c =
    let n = c.args.netlist.now in
    subst (λ (xs : List (Option Waveform)). AreWavesOf n xs) (sym c.new.ensures) (slot_is (length n.wires) (λ w. slot_wave n w (wire_at n w)) _ (no_wave n) c.in_ok-wave_list.ensures)
