use Rattle.std.proofs.Common.{◌≡◌, ℕ, ◌-◌, ◌<◌, ◌≤◌, length, take, map}
use Rattle.mp_wave.specs.Waveform.{level_of}
use Rattle.mp_records.specs.declared.ports.Input.{Input}
use Rattle.mp_model.specs.response.Pieces.{levels_at}
use Rattle.mp_active.specs.compare.Comparing.{old_wave}
use Rattle.mp_redo.proofs.rerun.old_state.old_pieces.Given as goal

-- a piece for each input so far
abbrev pub invariant-loop-input : goal.invariant-loop-input
invariant-loop-input l = record {
  places : length l.pieces.items ≡ l.input-index;
  levels : (t : ℕ) → l.from ≤ t → t < l.to → levels_at l.pieces.items t ≡ map (λ (i : Input). level_of (old_wave l.run i.wire.0) (t - i.delay)) (take l.input-index l.inputs);
}
