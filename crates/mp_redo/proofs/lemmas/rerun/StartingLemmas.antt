-- The simulation with which a re-evaluation begins has the active modules, and the numbers of all.
use Rattle.std.proofs.Common.{◌≡◌, ℕ, ◌<◌, ◌≤◌, Bool, true, false, cond, nat_lt, List, [], ◌∷◌, Option, Some, None, All, length, map, slice_index_or, refl, ap, sym, subst, ◌∙◌, arith}
use Rattle.std.specs.Prelude.{◌==◌}
use Rattle.std.proofs.lemmas.Bool.{lt-ltb}
use Rattle.std.proofs.lemmas.List.{get_or-map, length-map}
use Rattle.mp_records.specs.declared.ports.Input.{Input}
use Rattle.mp_records.specs.declared.module_record.ModuleRecord.{ModuleRecord}
use Rattle.mp_records.specs.Outputs.{delay_of}
use Rattle.mp_netlist.specs.Limits.{max_delay}
use Rattle.mp_netlist.specs.Circuit.{Circuit, IsCircuit, Drives, module_at, module_width}
use Rattle.mp_model.proofs.SlotLemmas.{slot_within}
use Rattle.mp_kernel.specs.declared.events.output_ports.OutputPorts.{OutputPorts}
use Rattle.mp_kernel.specs.events.Firing.{no_port, ports_at}
use Rattle.mp_simulation.specs.bits.PortEvents.{source_of}
use Rattle.mp_simulation.specs.bits.Schedules.{output_ports_of}
use Rattle.mp_simulation.proofs.lemmas.bits.ScheduleLemmas.{same_part}
use Rattle.mp_simulation.specs.declared.units.netlist_simulation.NetlistSimulation.{NetlistSimulation}
use Rattle.mp_simulation.specs.units.DataLevels.{is_data}
use Rattle.mp_simulation.specs.declared.run.layout.Layout.{Layout}
use Rattle.mp_simulation.specs.run.Settling.{ports_of}
use Rattle.mp_simulation.specs.run.Numbers.{AreLinks}
use Rattle.mp_simulation.specs.run.Seating.{AreOutputsWithin}
use Rattle.mp_simulation.specs.run.Wirings.{AreWired as AreInRows, inputs_in, reading_below, AreDelaysWithin}
use Rattle.mp_simulation.specs.run.Beginnings.{IsPartOf, IsBegun}
use Rattle.mp_simulation.proofs.lemmas.run.BegunLemmas.{numbers as as_many}
use Rattle.mp_simulation.proofs.lemmas.run.SimulatedLemmas.{IsSimulatedBy, simulated_by}
use Rattle.mp_simulation.proofs.lemmas.run.WidthLemmas.{bit_reads}
use Rattle.mp_active.specs.excerpt.Excerpts.{excerpt, ArePortsOn}
use Rattle.mp_active.specs.excerpt.Numberings.{Numbering, ReadsNumbers}
use Rattle.mp_active.specs.excerpt.Showing.{Shows}
use Rattle.mp_active.proofs.lemmas.excerpt.ExcerptLemmas.{excerpt_ok, length_active, length_on, is_here}
use Rattle.mp_active.proofs.lemmas.excerpt.ShownLemmas.{shows}
use Rattle.mp_active.proofs.lemmas.excerpt.StartingLemmas.{starts_show}
use Rattle.mp_active.specs.compare.Numbering.{AreNumbered as AreOfWires}
use Rattle.mp_active.specs.steps.Activated.{IsWired}
use Rattle.mp_redo.specs.rerun.Numbered.{AreWired}
use Rattle.mp_redo.specs.rerun.Seats.{AreSeats}
use Rattle.mp_redo.specs.rerun.Starting.{IsFirst}
use Rattle.mp_redo.proofs.lemmas.rerun.ChainLemmas.{numbered}
use Rattle.mp_redo.proofs.lemmas.rerun.ReaderLemmas.{output_within}

-- no input has a longer delay than an input may have
delays_low : (n : Circuit) → IsCircuit n → AreDelaysWithin n max_delay
delays_low n ok m r at = (ok.modules_ok m r at).input_delays

slot_delays_low : (n : Circuit) → IsCircuit n → (m : ℕ) (slot : Option ModuleRecord) → module_at n m ≡ slot → All (λ (i : Input). i.delay ≤ max_delay) (inputs_in slot)
slot_delays_low n ok m None at = λ k d within. let no : ⊥ = omega (arith, within) in absurd no
slot_delays_low n ok m (Some r) at = delays_low n ok m r at

read_delays_low : (n : Circuit) → IsCircuit n → (modules q : ℕ) (b : Bool) → nat_lt q modules ≡ b → All (λ (i : Input). i.delay ≤ max_delay) (cond b (inputs_in (module_at n q)) [])
read_delays_low n ok modules q true is = slot_delays_low n ok q (module_at n q) refl
read_delays_low n ok modules q false is = λ k d within. let no : ⊥ = omega (arith, within) in absurd no

-- nothing stands there that reads
none_read : (b : Bool) (slot : Option ModuleRecord) → slot ≡ None → cond b (inputs_in slot) [] ≡ []
none_read true slot none = ap inputs_in none
none_read false slot none = refl

empty_map : (f : ℕ → ℕ × ℕ) (xs : List ℕ) → map f xs ≡ [] → xs ≡ []
empty_map f [] is = refl
empty_map f (x ∷ xs) is = let no : ⊥ = cc in absurd no

module _ (n : Circuit) (ok : IsCircuit n) (active : ℕ → Bool) where
  abbrev all_on : ℕ → Bool
  all_on w = true

  abbrev seen : Circuit
  seen = excerpt n active all_on

  pub ports_all : ArePortsOn n active all_on
  ports_all = record { driven = λ m p w awake drives. refl; read = λ m w awake reads. refl }

  pub seen_ok : IsCircuit seen
  seen_ok = excerpt_ok n active all_on ok ports_all

  pub part_of : IsPartOf seen n
  part_of = record {
    wires = length_on n active all_on 0 n.wires;
    modules = length_active active 0 n.modules;
    same = λ m r at. (is_here n active all_on m r at).stands;
  }

  module _ (layout : Layout) (s : NetlistSimulation) (begun : IsBegun seen n layout s) where
    abbrev inputs : ℕ → List ℕ
    inputs = begun.begun.laid.wired.inputs

    simulated : IsSimulatedBy seen n layout inputs s
    simulated = simulated_by seen n seen_ok ok part_of layout s begun

    abbrev rows : AreInRows (length seen.wires) (length seen.modules) (reading_below n (length n.modules)) inputs layout.wired.wiring
    rows = simulated.wiring

    abbrev numbering : Numbering
    numbering = record { inputs = inputs; source = rows.source; before = simulated.is.before; data_before = simulated.is.data_before }

    some_units : 0 < n.horizon
    some_units = let some = ok.horizon_low in omega (arith, some)

    -- ---- it shows the active modules
    shown_all : Shows n active all_on numbering 0 s
    shown_all =
        let before = simulated.is.before in
        let data_before = simulated.is.data_before in
        subst (λ (source : ℕ → ℕ × ℕ). Shows n active all_on (record { inputs = inputs; source = source; before = before; data_before = data_before }) 0 s) simulated.source_is
        (subst (λ (ports : ℕ → List ℕ). Shows n active all_on (record { inputs = ports; source = simulated.is.scope.source; before = before; data_before = data_before }) 0 s) simulated.inputs_are
        (shows n ok active all_on ports_all 0 some_units s simulated.is))

    first_shows : (on : ℕ → Bool) → ArePortsOn n active on → Shows n active on numbering 0 s
    first_shows on ports = starts_show n ok active all_on on ports_all ports numbering s shown_all

    -- ---- and has the numbers of all
    count : length s.bits.simulator.fanout ≡ length layout.wired.wiring.next.items
    count = as_many seen n seen_ok ok part_of layout s.bits begun.begun

    reads_own : (m : ℕ) (r : ModuleRecord) → module_at n m ≡ Some r → ReadsNumbers numbering m r
    reads_own m r at =
        rows.reads m
        ∙ ap (λ b. map source_of (cond b (inputs_in (module_at n m)) [])) (lt-ltb m (length n.modules) (slot_within n.modules m r at))
        ∙ ap (λ (slot : Option ModuleRecord). map source_of (inputs_in slot)) at

    -- where no module stands, nothing is read
    reads_none : (m : ℕ) → module_at n m ≡ None → inputs m ≡ []
    reads_none m gone = empty_map rows.source (inputs m) (rows.reads m ∙ ap (map source_of) (none_read (nat_lt m (length n.modules)) (module_at n m) gone))

    low_numbers : (m : ℕ) → All (λ x. x < length s.bits.simulator.fanout) (inputs m)
    low_numbers m k d within = let low = rows.low m k d within in let same = count in omega (arith, low, same)

    -- what an input of a module of width 1 reads has width 1
    narrow_source : (m k d : ℕ) (r : ModuleRecord) → module_at n m ≡ Some r → (module_width n r == 1) ≡ true → k < length (inputs m) → is_data n (rows.source (slice_index_or (inputs m) k d)).0 ≡ false
    narrow_source m k d r at one within =
        let none : Input = record { wire = record { 0 = 0 }; delay = 0 } in
        let long : length (inputs m) ≡ length r.inputs =
        sym (length-map (inputs m) rows.source) ∙ ap (length {A = ℕ × ℕ}) (reads_own m r at) ∙ length-map r.inputs source_of in
        let inside : k < length r.inputs = omega (arith, within, long) in
        let same : rows.source (slice_index_or (inputs m) k d) ≡ source_of (slice_index_or r.inputs k none) =
        sym (get_or-map rows.source (inputs m) k d (0, 0) within)
        ∙ ap (λ (vs : List (ℕ × ℕ)). slice_index_or vs k (0, 0)) (reads_own m r at)
        ∙ get_or-map source_of r.inputs k none (0, 0) inside in
        ap (λ (v : ℕ × ℕ). is_data n v.0) same ∙ bit_reads n ok m k none r at one inside

    outputs_own : (m : ℕ) (r : ModuleRecord) → module_at n m ≡ Some r → ports_at s.bits.simulator.outputs m ≡ output_ports_of r
    outputs_own m r at =
        ap (λ (xs : List OutputPorts). ports_at xs m) begun.begun.bits.outputs
        ∙ get_or-map ports_of n.modules m None (record { first = no_port; second = no_port; third = no_port }) (slot_within n.modules m r at)
        ∙ ap ports_of at

    outputs_low : AreOutputsWithin n layout.delays.outputs
    outputs_low m r at = (begun.begun.laid.within m r (slot_within n.modules m r at) at).outputs

    room : AreOutputsWithin n (length s.bits.simulator.wheel)
    room m r at k d within = let low = outputs_low m r at k d within in let units = begun.begun.bits.units in omega (arith, low, units)

    data_room : AreOutputsWithin n (length s.wires.wheel)
    data_room m r at k d within = let low = outputs_low m r at k d within in let units = begun.outputs in omega (arith, low, units)

    driven_room : (m p w : ℕ) (r : ModuleRecord) → module_at n m ≡ Some r → Drives n m p w → delay_of r p ≤ length s.bits.simulator.wheel
    driven_room m p w r at drives =
        let same : drives.part ≡ r = same_part n m drives.part r drives.stands at in
        let inside : p < length r.outputs = subst (λ (x : ModuleRecord). p < length x.outputs) same (output_within drives.part.outputs p w drives.output) in
        room m r at p (record { wire = None; delay = 1 }) inside

    bits_wired : (m : ℕ) (r : ModuleRecord) → module_at n m ≡ Some r → (module_width n r == 1) ≡ true → IsWired n numbering m r s
    bits_wired m r at one = record {
      reads = reads_own m r at;
      numbers = λ k d within. shown_all.numbers.bits (slice_index_or (inputs m) k d) (low_numbers m k d within) (narrow_source m k d r at one within);
      drives = outputs_own m r at;
      room = λ w p drives. driven_room m p w r at drives;
    }

    wired : AreWired n numbering s
    wired = record {
      reads = reads_own;
      gone = reads_none;
      bits = bits_wired;
      low = low_numbers;
      room = room;
      data_room = data_room;
    }

    links : AreLinks max_delay layout.wired.wiring.next.items
    links = begun.begun.laid.wired.wired.links max_delay (omega arith) (delays_low n ok)

    of_wires : AreOfWires (length n.wires) rows.source layout.wired.wiring.wires.items layout.wired.wiring.next.items
    of_wires =
        subst (λ k. AreOfWires k rows.source layout.wired.wiring.wires.items layout.wired.wiring.next.items) (length_on n active all_on 0 n.wires)
        (numbered (length seen.wires) (length seen.modules) (reading_below n (length n.modules)) inputs layout.wired.wiring rows links
        (λ q. read_delays_low n ok (length n.modules) q (nat_lt q (length n.modules)) refl))

    seats : AreSeats (length n.modules) s.modules.places.items s.modules
    seats = record {
      long = begun.seated.long ∙ length_active active 0 n.modules;
      count = begun.seated.counted;
      within = begun.seated.placed.below;
      own = begun.seated.placed.own;
      placed = λ q k is. is;
    }

    pub is_first : IsFirst n active (record { simulation = s; wired = layout.wired })
    is_first = record {
      numbering = numbering;
      shows = first_shows;
      wired = wired;
      numbers = of_wires;
      count = sym count;
      modules = begun.begun.laid.wired.long;
      by_port = begun.begun.laid.wired.by_port;
      seats = seats;
    }
