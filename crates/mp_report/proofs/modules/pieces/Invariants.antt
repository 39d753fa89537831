use Rattle.mp_report.proofs.Names.{◌≡◌, ◌<◌, ℕ, map, take, vec_len, input_by, level, levels_at}
use Rattle.mp_report.proofs.modules.pieces.Given as goal

-- the pieces so far are those of the inputs so far
abbrev pub invariant-loop-input : goal.invariant-loop-input
invariant-loop-input l = record {
  count : vec_len l.pieces ≡ l.input-index;
  levels : (t : ℕ) → t < l.netlist.horizon → levels_at l.pieces.items t ≡ map (λ i. input_by l.netlist (level l.netlist) i t) (take l.input-index l.inputs);
}
