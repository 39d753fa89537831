-- Parts that have the least delay of their netlist.
use Rattle.std.proofs.Common.{◌≡◌, ℕ, ◌<◌, List, Some, None, length, get_or, ap, sym, ◌∙◌}
use Rattle.std.proofs.lemmas.List.{get_or_default}
use Rattle.mp_records.specs.declared.ports.Output.{Output}
use Rattle.mp_records.specs.Outputs.{output_in}
use Rattle.mp_records.specs.declared.module_record.ModuleRecord.{ModuleRecord}
use Rattle.mp_netlist.specs.Circuit.{Circuit, IsCircuit, module_at}
use Rattle.mp_netlist.specs.Delays.{least_delay}
use Rattle.mp_redo.specs.apart.Parts.{part_of}
use Rattle.mp_redo.proofs.lemmas.apart.PartWorkLemmas.{parts_have_least_delay}
use Rattle.mp_redo.specs.parts.Drivers.{DrivesAfter, HasDelay, HasOutput, IsAfter}

-- the output at a place
pub output_after : (outputs : List Output) (i delay : ℕ) (d : Output) → i < length outputs → IsAfter (get_or outputs i d) delay → HasOutput outputs delay
output_after outputs i delay d within after =
    let same : get_or outputs i d ≡ output_in outputs i = get_or_default outputs i d (record { wire = None; delay = 1 }) within in
    record {
      port = i;
      wire = after.wire;
      output = sym (ap (λ (o : Output). o.wire) same) ∙ after.at;
      same = sym (ap (λ (o : Output). o.delay) same) ∙ after.same;
    }

-- a module that has such an output drives a wire after the delay
pub drives_after : (n : Circuit) (m delay : ℕ) (r : ModuleRecord) → module_at n m ≡ Some r → HasOutput r.outputs delay → DrivesAfter n m delay
drives_after n m delay r at has = record {
  port = has.port;
  wire = has.wire;
  drives = record { part = r; stands = at; output = has.output };
  same = has.same;
}

-- so the part has the least delay
pub part_has_least : (n : Circuit) → IsCircuit n → (homes : List ℕ) (k delay : ℕ) → delay ≡ least_delay n → HasDelay n homes k delay → least_delay (part_of n homes k) ≡ least_delay n
part_has_least n ok homes k delay least has =
    parts_have_least_delay n ok homes k has.part has.after.port has.after.wire has.after.drives has.home (has.after.same ∙ least)
