use Rattle.std.proofs.Common.{◌≡◌, ℕ, ◌<◌, ◌≤◌, map, take, vec_len}
use Rattle.mp_records.specs.declared.ports.Input.{Input}
use Rattle.mp_model.specs.Levels.{input_by}
use Rattle.mp_model.specs.Waves.{level}
use Rattle.mp_model.specs.response.Pieces.{levels_at}
use Rattle.mp_steady.proofs.states.pieces.Given as goal

-- the pieces so far are those of the inputs so far
abbrev pub invariant-loop-input : goal.invariant-loop-input
invariant-loop-input l = record {
  count : vec_len l.pieces ≡ l.input-index;
  levels : (t : ℕ) → l.from ≤ t → t < l.to → levels_at l.pieces.items t ≡ map (λ (i : Input). input_by l.set.of.netlist.now (level l.set.of.netlist.now) i t) (take l.input-index l.inputs);
}
