use Rattle.std.proofs.Common.{◌≡◌, ℕ, ◌<◌, true, length, take}
use Rattle.std.specs.List.{list_any}
use Rattle.mp_records.specs.declared.ports.Output.{Output}
use Rattle.mp_records.specs.NamedWires.{is_wire}
use Rattle.mp_netlist.specs.Around.{HasGrown, is_in, row_at}
use Rattle.mp_netlist.proofs.around.Around.note_outputs.Given as goal

-- the module is noted at the wires so far
abbrev pub invariant-loop-p : goal.invariant-loop-p
invariant-loop-p l = record {
  grown : HasGrown l.fn.self l.self;
  noted : (w : ℕ) → w < length l.fn.self → list_any (λ (o : Output). is_wire o.wire w) (take l.p l.outputs) ≡ true → is_in l.number (row_at l.self w) ≡ true;
}
