-- What an input of a module reads.
use Rattle.std.proofs.Common.{◌≡◌, ℕ, ◌-◌, Some, slice_index, ap, ◌∙◌}
use Rattle.std.specs.Prelude.{slice_get, option_map}
use Rattle.std.proofs.lemmas.Option.{slice_get-map, get_or_from_slice_get}
use Rattle.mp_records.specs.declared.module_record.ModuleRecord.{ModuleRecord}
use Rattle.mp_records.specs.declared.ports.Input.{Input}
use Rattle.mp_netlist.specs.Circuit.{Circuit, IsCircuit}
use Rattle.mp_model.specs.Levels.{input_by, inputs_by}
use Rattle.mp_model.specs.Waves.{level}
use Rattle.mp_model.proofs.InputLemmas.{input_is}

-- the input of a module as the level of its wire
pub reads_wire : (n : Circuit) → IsCircuit n → (r : ModuleRecord) (q : ℕ) (i : Input) → slice_get r.inputs q ≡ Some i → (t : ℕ) → slice_index (inputs_by n (level n) r t) q ≡ level n i.wire.0 (t - i.delay)
reads_wire n ok r q i reads t =
    get_or_from_slice_get (inputs_by n (level n) r t) q (input_by n (level n) i t) 0
    (slice_get-map (λ j. input_by n (level n) j t) r.inputs q ∙ ap (option_map (λ j. input_by n (level n) j t)) reads)
    ∙ input_is n ok i t
