-- What is to be noted of wires and of bundles.
use Rattle.std.specs.Prelude.{ℕ, Bool, ◌==◌, ◌||◌, List, [], ◌∷◌, ◌++◌, length, codes, Option, Some, None, nat_lt, if◌then◌else◌}
use Rattle.std.specs.List.{flat_map, list_any, range_with_len}
use Rattle.std.specs.Fmt.{decimal}
use Rattle.mp_records.specs.declared.wire_record.WireRecord.{WireRecord}
use Rattle.mp_records.specs.declared.module_record.ModuleRecord.{ModuleRecord}
use Rattle.mp_records.specs.declared.ports.Input.{Input}
use Rattle.mp_records.specs.NamedWires.{bundle_names}
use Rattle.mp_records.specs.Outputs.{delay_of}
use Rattle.mp_netlist.specs.declared.driver.Driver.{Driver}
use Rattle.mp_netlist.specs.declared.driver.Driver.TheVariants.{Nothing, Stimulus, Port}
use Rattle.mp_netlist.specs.Circuit.{Circuit, wire_at, module_at}
use Rattle.mp_netlist.specs.Drivers.{driver}
use Rattle.mp_netlist.specs.Slots.{stands_and}
use Rattle.mp_questions.specs.timing.Waits.{given}
use Rattle.mp_check.specs.Over.{bundle_notes}

-- an input of the module reads the wire
abbrev pub module_reads : ℕ → ModuleRecord → Bool
module_reads w r = list_any (λ (i : Input). i.wire.0 == w) r.inputs

-- an input or a bundle names the wire
unfoldable pub is_read : Circuit → ℕ → Bool
is_read n w = list_any (stands_and (module_reads w)) n.modules || list_any (stands_and (bundle_names w)) n.bundles

abbrev pub note_line : List ℕ → List ℕ → List ℕ
note_line name what = codes "note wire " ++ (name ++ (what ++ (10 ∷ [])))

-- a port drives the wire, and gives another level from its delay on than the declared one
abbrev pub becomes_note : WireRecord → ℕ → ℕ → List ℕ
becomes_note r level delay =
    if level == r.initial then []
    else note_line r.name (codes " is declared " ++ (decimal r.initial ++ (codes " and becomes " ++ (decimal level ++ (codes " at " ++ decimal delay)))))

abbrev pub port_note : Circuit → WireRecord → ℕ → ℕ → Option ModuleRecord → List ℕ
port_note n r m p None = []
port_note n r m p (Some found) = if nat_lt (delay_of found p) n.horizon then becomes_note r (given n m p 0) (delay_of found p) else []

abbrev pub nothing_note : WireRecord → Bool → List ℕ
nothing_note r read = if read then note_line r.name (codes " is read, and nothing drives it") else note_line r.name (codes " is unused")

abbrev pub stimulus_note : WireRecord → Bool → List ℕ
stimulus_note r read = if read then [] else note_line r.name (codes " has a stimulus, and nothing reads it")

abbrev pub driver_note : Circuit → ℕ → WireRecord → Driver → List ℕ
driver_note n w r (Port m p) = port_note n r m.0 p (module_at n m.0)
driver_note n w r Nothing = nothing_note r (is_read n w)
driver_note n w r Stimulus = stimulus_note r (is_read n w)

abbrev pub slot_note : Circuit → ℕ → Option WireRecord → List ℕ
slot_note n w None = []
slot_note n w (Some r) = driver_note n w r (driver n w)

abbrev pub wire_note : Circuit → ℕ → List ℕ
wire_note n w = slot_note n w (wire_at n w)

-- the notes on all wires by number
abbrev pub wire_notes : Circuit → List ℕ
wire_notes n = flat_map (wire_note n) (range_with_len 0 (length n.wires))

-- the notes on wires, and then those on bundles
abbrev pub notes : Circuit → List ℕ
notes n = wire_notes n ++ bundle_notes n
