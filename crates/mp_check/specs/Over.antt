-- Runs that are over, and bundles that nobody ended in them.
use Rattle.std.specs.Prelude.{ℕ, ◌+◌, ◌/◌, ◌%◌, Bool, List, [], ◌∷◌, ◌++◌, map, max, codes, Option, Some, None, is_some, length, nat_le, slice_get, suc, if◌then◌else◌}
use Rattle.std.specs.List.{flat_map, fold, range_with_len}
use Rattle.std.specs.Option.{option_to_list}
use Rattle.std.specs.Fmt.{decimal}
use Rattle.mp_modules.specs.declared.kind.Kind.{Kind}
use Rattle.mp_modules.specs.declared.kind.Kind.TheVariants as kinds
use Rattle.mp_records.specs.declared.module_record.ModuleRecord.{ModuleRecord}
use Rattle.mp_records.specs.declared.bundle_record.BundleRecord.{BundleRecord}
use Rattle.mp_records.specs.declared.ports.Input.{Input}
use Rattle.mp_records.specs.Outputs.{output_at, delay_of}
use Rattle.mp_netlist.specs.Circuit.{Circuit, module_at, bundle_at}
use Rattle.mp_model.specs.Waves.{level}
use Rattle.mp_model.specs.Findings.{is_busy}
use Rattle.mp_questions.specs.timing.Events.{since}
use Rattle.mp_check.specs.Dead.{last_unit, port_numbers, port_slots}

-- the greatest of some numbers, 0 of none
abbrev pub greatest : List ℕ → ℕ
greatest numbers = fold max 0 numbers

-- the inputs that an output depends on: of a REG those of the port itself, and all inputs for the data
abbrev pub depends_on : Kind → ℕ → List Input → List Input
depends_on kinds.Reg (suc p) inputs = option_to_list (slice_get inputs (suc p))
depends_on kind p inputs = inputs

-- the delay of a port that drives a wire, and the longest delay of the inputs that it depends on
abbrev pub port_delay : Option ModuleRecord → ℕ → ℕ
port_delay None p = 0
port_delay (Some r) p = if is_some (output_at r p).wire then delay_of r p else 0

abbrev pub port_input_delay : Option ModuleRecord → ℕ → ℕ
port_input_delay None p = 0
port_input_delay (Some r) p = if is_some (output_at r p).wire then greatest (map (λ (i : Input). i.delay) (depends_on r.kind p r.inputs)) else 0

abbrev pub delay_at : Circuit → ℕ → ℕ
delay_at n k = port_delay (module_at n (k / port_numbers)) (k % port_numbers)

abbrev pub input_delay_at : Circuit → ℕ → ℕ
input_delay_at n k = port_input_delay (module_at n (k / port_numbers)) (k % port_numbers)

abbrev pub longest_delay : Circuit → ℕ
longest_delay n = greatest (map (delay_at n) (range_with_len 0 (port_slots n)))

abbrev pub longest_input_delay : Circuit → ℕ
longest_input_delay n = greatest (map (input_delay_at n) (range_with_len 0 (port_slots n)))

-- the last time at which a wire changes, 0 where none does
abbrev pub last_change : Circuit → ℕ
last_change n = greatest (map (λ w. since (level n w) (last_unit n)) (range_with_len 0 (length n.wires)))

-- the last change has come through every port before the end
abbrev pub is_over : Circuit → Bool
is_over n = nat_le (last_change n + (longest_delay n + longest_input_delay n)) (last_unit n)

-- ---- notes

abbrev pub busy_line : Circuit → BundleRecord → List ℕ
busy_line n b = codes "note bundle " ++ (b.name ++ (codes " is busy since " ++ (decimal (since (level n b.request.0) (last_unit n)) ++ (10 ∷ []))))

abbrev pub busy_slot_note : Circuit → Option BundleRecord → List ℕ
busy_slot_note n None = []
busy_slot_note n (Some b) = if is_busy n b (last_unit n) then busy_line n b else []

abbrev pub busy_note : Circuit → ℕ → List ℕ
busy_note n b = busy_slot_note n (bundle_at n b)

-- in a run that is over, the bundles that are busy in the last unit
abbrev pub bundle_notes : Circuit → List ℕ
bundle_notes n = if is_over n then flat_map (busy_note n) (range_with_len 0 (length n.bundles)) else []
