-- Which dead ports wait for the wires of others, and for which.
use Rattle.std.specs.Prelude.{◌≡◌, ℕ, ◌/◌, ◌%◌, ◌==◌, Bool, false, ◌&&◌, List, [], ◌∷◌, Option, Some, None, option_map, option_and_then, slice_get, slice_index, zero, if◌then◌else◌}
use Rattle.std.specs.List.{list_any, filter, flat_map}
use Rattle.mp_modules.specs.declared.kind.Kind.{Kind}
use Rattle.mp_modules.specs.declared.kind.Kind.TheVariants as kinds
use Rattle.mp_modules.specs.declared.memory.Memory.{Memory}
use Rattle.mp_modules.specs.Memories.{output_of}
use Rattle.mp_modules.specs.storage.Reg.{is_open}
use Rattle.mp_records.specs.declared.ids.WireId.{WireId}
use Rattle.mp_records.specs.declared.module_record.ModuleRecord.{ModuleRecord}
use Rattle.mp_records.specs.declared.ports.Input.{Input}
use Rattle.mp_netlist.specs.declared.driver.Driver.{Driver}
use Rattle.mp_netlist.specs.declared.driver.Driver.TheVariants.{Nothing, Stimulus, Port}
use Rattle.mp_netlist.specs.Circuit.{Circuit, module_at}
use Rattle.mp_netlist.specs.Drivers.{driver}
use Rattle.mp_model.specs.Waves.{state}
use Rattle.mp_holding.specs.sets.Marks.{is_marked}
use Rattle.mp_holding.specs.sets.ClosedSets.{in_closed_set}
use Rattle.mp_check.specs.Dead.{dead, are_still, last_unit, port_numbers, port_number, port_slots}
use Rattle.mp_holding.specs.Holding.{holding_sets}
use Rattle.mp_check.specs.declared.wait.Wait.{Wait}

-- ---- what a dead port may wait for

-- the inputs of those sets that hold it
abbrev pub held_by : Circuit → ModuleRecord → List (List ℕ) → List ℕ
held_by n r sets = flat_map (λ set. set) (filter (are_still n (dead n) r) sets)

-- the data of a REG: while it is open the data only where nobody opens or closes it; data that stay while the control goes on keep nobody waiting
abbrev pub open_sets : Circuit → ModuleRecord → Memory → List (List ℕ)
open_sets n r s = if are_still n (dead n) r (1 ∷ 2 ∷ []) && slice_index s.inputs 0 == output_of s 0 then (0 ∷ []) ∷ [] else []

abbrev pub storing_waits : Circuit → ModuleRecord → Memory → List (List ℕ)
storing_waits n r s = if is_open s.inputs then open_sets n r s else (1 ∷ 2 ∷ []) ∷ []

abbrev pub waiting_sets : Circuit → ModuleRecord → Memory → Kind → ℕ → List (List ℕ)
waiting_sets n r s kinds.Reg zero = storing_waits n r s
waiting_sets n r s kind p = holding_sets kind r.params s p

-- the inputs that it may wait for, in their order
abbrev pub awaited : Circuit → ModuleRecord → Memory → ℕ → List ℕ
awaited n r s p = held_by n r (waiting_sets n r s r.kind p)

-- ---- who waits

abbrev pub has_driver : (ℕ → Bool) → Driver → Bool
has_driver set Nothing = false
has_driver set Stimulus = false
has_driver set (Port m p) = set (port_number m.0 p)

-- a port of a set drives an input's wire
abbrev pub is_port_in : Circuit → (ℕ → Bool) → Option Input → Bool
is_port_in n set None = false
is_port_in n set (Some i) = has_driver set (driver n i.wire.0)

abbrev pub may_wait_at : Circuit → (ℕ → Bool) → ℕ → ℕ → Option ModuleRecord → Bool
may_wait_at n set m p None = false
may_wait_at n set m p (Some r) =
    dead n (port_number m p) && list_any (λ q. is_port_in n set (slice_get r.inputs q)) (awaited n r (state n m (last_unit n)) p)

-- a dead port may wait for a wire that a port of a set drives
unfoldable pub may_wait : Circuit → (ℕ → Bool) → ℕ → Bool
may_wait n set k = may_wait_at n set (k / port_numbers) (k % port_numbers) (module_at n (k / port_numbers))

-- the greatest set of dead ports that may wait for each other
abbrev pub waiting : Circuit → ℕ → Bool
waiting n k = in_closed_set (may_wait n) (port_slots n) k

-- marks of the ports that wait
abbrev pub AreWaiting : Circuit → List Bool → Type 0
AreWaiting n marks = (k : ℕ) → is_marked marks k ≡ waiting n k

-- ---- for what

abbrev pub port_by : Driver → Option ℕ
port_by Nothing = None
port_by Stimulus = None
port_by (Port m p) = Some (port_number m.0 p)

-- a module that waits for a wire which a port drives
abbrev pub wait_for : Circuit → ℕ → WireId → Option Wait
wait_for n m v = option_map (λ k. record { waiter = record { 0 = m }; wire = v; next = k }) (port_by (driver n v.0))

-- the first input whose wire a waiting port drives
abbrev pub first_wait : Circuit → ℕ → ModuleRecord → List ℕ → Option Wait
first_wait n m r [] = None
first_wait n m r (q ∷ qs) =
    if is_port_in n (waiting n) (slice_get r.inputs q) then option_and_then (λ (i : Input). wait_for n m i.wire) (slice_get r.inputs q) else first_wait n m r qs

abbrev pub wait_in : Circuit → ℕ → ℕ → Option ModuleRecord → Option Wait
wait_in n m p None = None
wait_in n m p (Some r) = first_wait n m r (awaited n r (state n m (last_unit n)) p)

-- what the port of a number waits for
unfoldable pub wait_of : Circuit → ℕ → Option Wait
wait_of n k = if waiting n k then wait_in n (k / port_numbers) (k % port_numbers) (module_at n (k / port_numbers)) else None
