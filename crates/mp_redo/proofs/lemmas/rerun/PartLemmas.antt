-- A module with data in a state.
use Rattle.std.proofs.Common.{◌≡◌, ℕ, ◌<◌, ◌≤◌, Bool, true, false, cond, List, [], ◌∷◌, All, Option, Some, None, length, zero, suc, ap, sym, subst, ◌∙◌, arith, inl, inr}
use Rattle.std.specs.Prelude.{◌==◌, slice_index_or}
use Rattle.std.proofs.lemmas.Bool.{cases_lt, and_right}
use Rattle.std.proofs.lemmas.List.{get_or_past}
use Rattle.std.proofs.lemmas.Option.{none-some, same_Some}
use Rattle.mp_modules.specs.declared.memory.Memory.{Memory}
use Rattle.mp_records.specs.declared.ports.Output.{Output}
use Rattle.mp_records.specs.declared.module_record.ModuleRecord.{ModuleRecord}
use Rattle.mp_records.specs.Outputs.{output_at}
use Rattle.mp_netlist.specs.Circuit.{Circuit, IsCircuit, module_at, module_width}
use Rattle.mp_model.specs.Waves.{state}
use Rattle.mp_kernel.specs.declared.events.output_port.OutputPort.{OutputPort}
use Rattle.mp_kernel.specs.events.Firing.{no_port, HasSlot, HaveSlots}
use Rattle.mp_simulation.specs.bits.Schedules.{output_port_of}
use Rattle.mp_kernel.specs.declared.datapath.data_module.DataModule.{DataModule}
use Rattle.mp_modules.specs.storage.DataParts.{any_part, outputs_in}
use Rattle.mp_simulation.specs.units.DataSeats.{IsDataSeat, drives_data, bit_port_of, number_at}
use Rattle.mp_simulation.specs.run.Seating.{AreOutputsWithin}
use Rattle.mp_simulation.specs.run.Wirings.{AreByPort}
use Rattle.mp_active.specs.excerpt.Numberings.{Numbering, ReadsNumbers, place_in, scope_of}
use Rattle.mp_active.specs.excerpt.Activating.{with_module}
use Rattle.mp_redo.specs.rerun.Returning.{IsPartIn}
use Rattle.mp_simulation.proofs.lemmas.run.PartLemmas.{data_part_is}
use Rattle.mp_simulation.proofs.lemmas.run.WidthLemmas.{data_first}

-- ---- the wheels have slots for its outputs
port_slot : (n : Circuit) → IsCircuit n → (units m p : ℕ) (r : ModuleRecord) → module_at n m ≡ Some r → AreOutputsWithin n units → 0 < units → HasSlot units (output_port_of (output_at r p))
port_slot n ok units m p r at within some = elim (cases_lt p (length r.outputs)) as (λ _. HasSlot units (output_port_of (output_at r p))) [
  | inl inside ↦ record { some = ((ok.modules_ok m r at).delays p (record { wire = None; delay = 1 }) inside).0; room = within m r at p (record { wire = None; delay = 1 }) inside }
  | inr past ↦
      let none : output_at r p ≡ record { wire = None; delay = 1 } = get_or_past r.outputs p (record { wire = None; delay = 1 }) past in
      subst (λ (o : Output). HasSlot units (output_port_of o)) (sym none) (record { some = omega arith; room = some_room some })
]
  where
    some_room : 0 < units → 1 ≤ units
    some_room is = omega arith

slot_if : (b : Bool) (units : ℕ) (one other : OutputPort) → HasSlot units one → HasSlot units other → HasSlot units (cond b one other)
slot_if true units one other has too = has
slot_if false units one other has too = too

none_slot : (units : ℕ) → 0 < units → HasSlot units no_port
none_slot units some = record { some = omega arith; room = omega arith }

number_in : (xs : List ℕ) (P : ℕ → Type 0) → All P xs → (p x : ℕ) → number_at xs p ≡ Some x → P x
number_in [] P all p x is = absurd (none-some x is)
number_in (y ∷ xs) P all zero x is = subst P (same_Some y x is) (all 0 y (omega arith))
number_in (y ∷ xs) P all (suc p) x is = number_in xs P (λ k d within. all (suc k) d (omega arith)) p x is

-- in the state after t it can take a seat
pub is_seat : (n : Circuit) → IsCircuit n → (active : ℕ → Bool) (numbering : Numbering) (numbers events changes m t : ℕ) (r : ModuleRecord) (ports : List (Option ℕ)) (memory : Memory) (part : DataModule) →
    module_at n m ≡ Some r → (module_width n r == 1) ≡ false → memory ≡ state n m t → IsPartIn n r memory ports part → ReadsNumbers numbering m r → AreByPort (numbering.inputs m) ports →
    All (λ x. x < numbers) (numbering.inputs m) → AreOutputsWithin n events → AreOutputsWithin n changes → 0 < events → 0 < changes →
    IsDataSeat n (scope_of n (with_module active m) numbering t) numbers events changes t m part
is_seat n ok active numbering numbers events changes m t r ports memory part at wide stays is reads by_port low events_within changes_within some_events some_changes = record {
  record_of = r;
  stands = at;
  inactive = ap (place_in n (with_module active m m) m) at ∙ ap (λ b. cond b (Some m) None) (and_right (with_module active m m) (module_width n r == 1) wide);
  does = ap any_part is.does ∙ data_part_is n r wide;
  outputs = is.outputs ∙ ap outputs_in stays;
  sources = reads;
  reads = input_is;
  low = low;
  bits = is.bits;
  level = is.level;
  first = λ w p drives has. data_first n ok m p w drives has;
  fit = record {
    reads = λ p x read. number_in (numbering.inputs m) (λ x. x < numbers) low p x (sym (input_is p) ∙ read);
    bits = subst (HaveSlots events) (sym is.bits) (record { first = bit_slot 0; second = bit_slot 1; third = bit_slot 2 });
    level = subst (HasSlot changes) (sym is.level)
        (slot_if (drives_data n (output_at r 0).wire) changes (output_port_of (output_at r 0)) no_port (port_slot n ok changes m 0 r at changes_within some_changes) (none_slot changes some_changes));
  };
}
  where
    input_is : (p : ℕ) → slice_index_or part.inputs p None ≡ number_at (numbering.inputs m) p
    input_is p = ap (λ (xs : List (Option ℕ)). slice_index_or xs p None) is.inputs ∙ by_port p

    bit_slot : (p : ℕ) → HasSlot events (bit_port_of n (output_at r p))
    bit_slot p = slot_if (drives_data n (output_at r p).wire) events no_port (output_port_of (output_at r p)) (none_slot events some_events) (port_slot n ok events m p r at events_within some_events)
