-- A module that sleeps takes its place in the simulation.
use Rattle.std.proofs.Common.{◌≡◌, ◌≢◌, ℕ, ◌+◌, ◌<◌, ◌≤◌, Bool, true, false, cond, List, [], ◌∷◌, Option, Some, None, is_some, length, refl, ap, sym, subst, ◌∙◌, arith, inl, inr, get_or-set_same, get_or-set_other}
use Rattle.std.specs.Prelude.{◌==◌, slice_index_or, slice_set}
use Rattle.std.specs.List.{count_by}
use Rattle.std.proofs.lemmas.Bool.{cases_Bool, eqb-true, eqb-false, true≢false}
use Rattle.std.proofs.lemmas.List.{length-set, length-append}
use Rattle.std.proofs.lemmas.List.Sums.{sum_by-set, count_by-le-length}
use Rattle.std.proofs.lemmas.Option.{same_Some}
use Rattle.mp_modules.specs.declared.memory.Memory.{Memory}
use Rattle.mp_records.specs.declared.module_record.ModuleRecord.{ModuleRecord}
use Rattle.mp_records.specs.Outputs.{output_at}
use Rattle.mp_netlist.specs.Circuit.{Circuit, IsCircuit, Drives, module_at, module_width}
use Rattle.mp_netlist.proofs.LimitLemmas.{modules_within}
use Rattle.mp_netlist.proofs.DriverLemmas.{finds_ports}
use Rattle.mp_model.specs.Waves.{state}
use Rattle.mp_model.proofs.SlotLemmas.{slot_within}
use Rattle.mp_kernel.specs.events.Adding.{listed}
use Rattle.mp_simulation.specs.declared.bits.simulation.Simulation.{Simulation}
use Rattle.mp_kernel.specs.declared.datapath.level_change.LevelChange.{LevelChange}
use Rattle.mp_kernel.specs.declared.datapath.data_module.DataModule.{DataModule}
use Rattle.mp_kernel.specs.datapath.DataFiring.{place_at}
use Rattle.mp_simulation.specs.declared.units.data_modules.DataModules.{DataModules}
use Rattle.mp_simulation.specs.declared.units.data_wires.DataWires.{DataWires}
use Rattle.mp_simulation.specs.declared.units.netlist_simulation.NetlistSimulation.{NetlistSimulation}
use Rattle.mp_simulation.specs.units.DataLevels.{changes_of}
use Rattle.mp_simulation.specs.units.DataWheels.{data_slot}
use Rattle.mp_partition.specs.runs.Outcomes.{Outcome}
use Rattle.mp_active.specs.excerpt.Numberings.{Numbering}
use Rattle.mp_active.specs.steps.Seating.{HasTakenSeat, seated, seat_in}
use Rattle.mp_active.specs.steps.Activated.{CanTakeSeat}
use Rattle.mp_active.specs.steps.Ahead.{HasNothingAhead}
use Rattle.mp_active.proofs.lemmas.steps.RestingLemmas.{resting_have_nothing}
use Rattle.mp_redo.specs.declared.rerun.rerun.Rerun.{Rerun}
use Rattle.mp_redo.specs.rerun.Numbered.{ports_at}
use Rattle.mp_redo.specs.rerun.Seats.{seat_at, AreSeats}
use Rattle.mp_redo.specs.rerun.Reruns.{active_of, on_of, IsFollowed, IsRerunBy}
use Rattle.mp_redo.specs.rerun.Returning.{HasPlaces, IsPartIn, HasSeat, CanReturn}
use Rattle.mp_redo.proofs.lemmas.rerun.StayingLemmas.{HasSameWiring, numbered_kept}
use Rattle.mp_redo.proofs.lemmas.rerun.PartLemmas.{is_seat}
use Rattle.mp_redo.proofs.lemmas.rerun.ReaderLemmas.{delay_within}

-- ---- a module that stands has places
pub has_places : (old new : Circuit) (run : Outcome) (numbering : Numbering) (since : ℕ → ℕ) (t m : ℕ) (s : Rerun) → IsCircuit new → IsRerunBy old new run numbering since t s → m < length new.modules → HasPlaces m s
has_places old new run numbering since t m s ok is low = record {
  states = let e = is.shows.bits.places in omega (arith, low, e);
  levels = let e = is.shows.bits.places in let l = is.shows.bits.sound.simulator.levels in omega (arith, low, e, l);
  places = let e = is.shows.modules.long in omega (arith, low, e);
  inputs = let e = is.followed.numbered.modules in omega (arith, low, e);
  seats = let e = is.followed.seats.long in omega (arith, low, e);
  within = is.followed.seats.within m;
  few =
      let most = modules_within new ok in
      let e = is.followed.seats.long in
      let c = is.followed.seats.count in
      let fewer = count_by-le-length (λ (o : Option ℕ). is_some o) s.activity.seats.items in
      omega (arith, most, e, c, fewer);
}

-- ---- the seats with that of one more module
module _ (modules m place : ℕ) (seats : List (Option ℕ)) (part : DataModule) (s new : NetlistSimulation) (are : AreSeats modules seats s.modules) (low : m < length seats)
    (taken : HasTakenSeat m (seat_at seats m) part place s new) where
  abbrev xs : List DataModule
  xs = s.modules.modules.items

  abbrev now : List (Option ℕ)
  now = slice_set seats m (Some place)

  own_now : seat_at now m ≡ Some place
  own_now = get_or-set_same seats m (Some place) None low

  else_now : (q : ℕ) → q ≢ m → seat_at now q ≡ seat_at seats q
  else_now q other = get_or-set_other seats m q (Some place) None other

  counted : (seat : Option ℕ) → length xs ≡ count_by is_some seats → count_by is_some now + cond (is_some seat) 1 0 ≡ count_by is_some seats + 1 → length (seated xs seat part) ≡ count_by is_some now
  counted None was is = let long = length-append xs (part ∷ []) in omega (arith, was, is, long)
  counted (Some k) was is = let long = length-set xs k part in omega (arith, was, is, long)

  place_low : (seat : Option ℕ) → ((k : ℕ) → seat ≡ Some k → k < length xs) → seat_in xs seat < length (seated xs seat part)
  place_low None within = let long = length-append xs (part ∷ []) in omega (arith, long)
  place_low (Some k) within = let here = within k refl in let long = length-set xs k part in omega (arith, here, long)

  no_fewer : (seat : Option ℕ) → length xs ≤ length (seated xs seat part)
  no_fewer None = let long = length-append xs (part ∷ []) in omega (arith, long)
  no_fewer (Some k) = let long = length-set xs k part in omega (arith, long)

  not_there : (seat : Option ℕ) (k : ℕ) → k < length xs → (seat ≡ Some k → ⊥) → seat_in xs seat ≢ k
  not_there None k here free = λ e. omega (arith, here, e)
  not_there (Some j) k here free = λ e. free (ap (λ (i : ℕ). Some i) e)

  apart : (q k : ℕ) → q ≢ m → seat_at seats q ≡ Some k → place ≢ k
  apart q k other is = λ e. not_there (seat_at seats m) k (are.within q k is) (λ here. other (are.own q m k is here)) (sym taken.place ∙ e)

  long_now : length new.modules.modules.items ≡ length (seated xs (seat_at seats m) part)
  long_now = ap (λ (ys : List DataModule). length ys) taken.modules

  pub seats_more : AreSeats modules now new.modules
  seats_more = record {
    long = length-set seats m (Some place) ∙ are.long;
    count = long_now ∙ counted (seat_at seats m) are.count (sum_by-set (λ (o : Option ℕ). cond (is_some o) 1 0) seats m (Some place) None low);
    within = λ q k is. elim (cases_Bool (q == m)) as (λ _. k < length new.modules.modules.items) [
      | inl here ↦
          let e = same_Some place k (sym own_now ∙ sym (ap (seat_at now) (eqb-true q m here)) ∙ is) in
          let inside = place_low (seat_at seats m) (are.within m) in
          let own = taken.place in
          let long = long_now in
          omega (arith, e, inside, own, long)
      | inr other ↦
          let inside = are.within q k (sym (else_now q (eqb-false q m other)) ∙ is) in let more = no_fewer (seat_at seats m) in let long = long_now in omega (arith, inside, more, long)
    ];
    own = λ q p k one two. elim (cases_Bool (q == m)) as (λ _. q ≡ p) [
      | inl here ↦ elim (cases_Bool (p == m)) as (λ _. q ≡ p) [
        | inl too ↦ eqb-true q m here ∙ sym (eqb-true p m too)
        | inr other ↦
            absurd (apart p k (eqb-false p m other) (sym (else_now p (eqb-false p m other)) ∙ two) (same_Some place k (sym own_now ∙ sym (ap (seat_at now) (eqb-true q m here)) ∙ one)))
      ]
      | inr else ↦ elim (cases_Bool (p == m)) as (λ _. q ≡ p) [
        | inl here ↦
            absurd (apart q k (eqb-false q m else) (sym (else_now q (eqb-false q m else)) ∙ one) (same_Some place k (sym own_now ∙ sym (ap (seat_at now) (eqb-true p m here)) ∙ two)))
        | inr other ↦ are.own q p k (sym (else_now q (eqb-false q m else)) ∙ one) (sym (else_now p (eqb-false p m other)) ∙ two)
      ]
    ];
    placed = λ q k is. elim (cases_Bool (q == m)) as (λ _. seat_at now q ≡ Some k) [
      | inl here ↦
          let e = eqb-true q m here in
          ap (seat_at now) e ∙ own_now
          ∙ sym (get_or-set_same s.modules.places.items m (Some place) None (there q k e is)) ∙ sym (ap (λ (ps : List (Option ℕ)). place_at ps m) taken.places) ∙ sym (ap (place_at new.modules.places.items) e) ∙ is
      | inr other ↦
          else_now q (eqb-false q m other)
          ∙ are.placed q k (sym (get_or-set_other s.modules.places.items m q (Some place) None (eqb-false q m other)) ∙ sym (ap (λ (ps : List (Option ℕ)). place_at ps q) taken.places) ∙ is)
    ];
  }
    where
      -- a place past the last has none
      there : (q k : ℕ) → q ≡ m → place_at new.modules.places.items q ≡ Some k → m < length s.modules.places.items
      there q k e is =
          let same : place_at (slice_set s.modules.places.items m (Some place)) m ≡ Some k = sym (ap (λ (ps : List (Option ℕ)). place_at ps m) taken.places) ∙ sym (ap (place_at new.modules.places.items) e) ∙ is in
          let inside : m < length (slice_set s.modules.places.items m (Some place)) = slot_within (slice_set s.modules.places.items m (Some place)) m k same in
          let long = length-set s.modules.places.items m (Some place) in
          omega (arith, inside, long)

-- ---- a module that has taken its place
module _ (old new : Circuit) (run : Outcome) (ok : IsCircuit new) (numbering : Numbering) (since : ℕ → ℕ) (t m : ℕ) (r : ModuleRecord) (memory : Memory) (s s2 : Rerun)
    (is : IsRerunBy old new run numbering since t s) (at : module_at new m ≡ Some r) (asleep : active_of s m ≡ false) (seat : HasSeat new m r memory s s2) where
  low : m < length s.activity.seats.items
  low = let here = slot_within new.modules m r at in let e = is.followed.seats.long in omega (arith, here, e)

  -- the wheels and rows are as they were
  record IsSeatedAs : Type 0 where
    pub wiring : HasSameWiring s.simulation s2.simulation
    pub wheel : s2.simulation.bits.simulator.wheel ≡ s.simulation.bits.simulator.wheel
    pub changes : s2.simulation.wires.wheel ≡ s.simulation.wires.wheel
    pub seats : AreSeats (length new.modules) s2.activity.seats.items s2.simulation.modules

  seated_as : IsSeatedAs
  seated_as = by (module_width new r == 1) refl
    where
      by : (b : Bool) → (module_width new r == 1) ≡ b → IsSeatedAs
      by true narrow =
          let bits = seat.narrow narrow in
          record {
            wiring = record {
              fanout = ap (λ (b : Simulation). b.simulator.fanout) bits.bits;
              outputs = ap (λ (b : Simulation). b.simulator.outputs) bits.bits;
              units = ap (λ (b : Simulation). length b.simulator.wheel) bits.bits;
              change_units = ap (λ (w : DataWires). length w.wheel) bits.wires;
            };
            wheel = ap (λ (b : Simulation). b.simulator.wheel) bits.bits;
            changes = ap (λ (w : DataWires). w.wheel) bits.wires;
            seats = subst (λ (xs : List (Option ℕ)). AreSeats (length new.modules) xs s2.simulation.modules) (sym (seat.no_seat narrow))
                (subst (λ (x : DataModules). AreSeats (length new.modules) s.activity.seats.items x) (sym bits.modules) is.followed.seats);
          }
      by false wide =
          let takes = seat.wide wide in
          let taken = takes.taken in
          record {
            wiring = record {
              fanout = ap (λ (b : Simulation). b.simulator.fanout) taken.bits;
              outputs = ap (λ (b : Simulation). b.simulator.outputs) taken.bits;
              units = ap (λ (b : Simulation). length b.simulator.wheel) taken.bits;
              change_units = ap (λ (w : DataWires). length w.wheel) taken.wires;
            };
            wheel = ap (λ (b : Simulation). b.simulator.wheel) taken.bits;
            changes = ap (λ (w : DataWires). w.wheel) taken.wires;
            seats = subst (λ (xs : List (Option ℕ)). AreSeats (length new.modules) xs s2.simulation.modules) (sym takes.seats)
                (seats_more (length new.modules) m takes.place s.activity.seats.items takes.part s.simulation s2.simulation is.followed.seats low taken);
          }

  pub seat_wiring : HasSameWiring s.simulation s2.simulation
  seat_wiring = seated_as.wiring

  pub seats_now : AreSeats (length new.modules) s2.activity.seats.items s2.simulation.modules
  seats_now = seated_as.seats

  -- it can take a seat
  pub can_take : (part : DataModule) → (module_width new r == 1) ≡ false → memory ≡ state new m t → IsPartIn new r memory (ports_at s.inputs.items m) part →
      CanTakeSeat new (active_of s) numbering m t r (seat_at s.activity.seats.items m) part s.simulation
  can_take part wide stays in_state = record {
    within = is.followed.seats.within m;
    free = λ q k own there.
        let one = is.followed.seats.own m q k own (is.followed.seats.placed q k there) in
        let awake = (is.shows.modules.seats q k there).awake in
        true≢false (sym awake ∙ ap (active_of s) (sym one) ∙ asleep);
    is = is_seat new ok (active_of s) numbering (length s.simulation.bits.simulator.fanout) (length s.simulation.bits.simulator.wheel) (length s.simulation.wires.wheel) m t r (ports_at s.inputs.items m) memory part at wide stays in_state
        (is.followed.numbered.wired.reads m r at) (is.followed.numbered.by_port m (slot_within new.modules m r at)) (is.followed.numbered.wired.low m) is.followed.numbered.wired.room is.followed.numbered.wired.data_room
        is.shows.bits.sound.simulator.some is.shows.wires.some;
    room = λ w p drives.
        let same : drives.part ≡ r = (let one = drives.stands in cc) in
        delay_within new (length s.simulation.bits.simulator.wheel) m p w r is.followed.numbered.wired.room at (ap (λ (x : ModuleRecord). (output_at x p).wire) (sym same) ∙ drives.output);
  }

  -- all else stays
  abbrev made : Rerun
  made = record s { simulation = s2.simulation; activity = record (s.activity) { seats = s2.activity.seats } }

  followed_made : IsFollowed old new run numbering since t made
  followed_made = record {
    numbered = numbered_kept new numbering s.inputs.items s.comparison s.comparison s.simulation s2.simulation refl refl seat_wiring is.followed.numbered;
    modules = is.followed.modules;
    seats = seats_now;
    ports = is.followed.ports;
    lit = is.followed.lit;
    sleeping = is.followed.sleeping;
    sources = is.followed.sources;
    cursors = is.followed.cursors;
    complete = is.followed.complete;
    counted = is.followed.counted;
    pending_outputs = is.followed.pending_outputs;
    stimuli = is.followed.stimuli;
  }

  nothing_now : (p w : ℕ) → Drives new m p w → HasNothingAhead new numbering w s2.simulation
  nothing_now p w drives =
      let none = resting_have_nothing new ok (active_of s) (on_of s) numbering t w p (record { 0 = m }) s.simulation is.shows (finds_ports new ok m p w drives) asleep in
      record {
        own = none.own;
        stands = none.stands;
        events = subst (λ (wheel : List (List ℕ)). (k : ℕ) → k < length wheel → listed w (slice_index_or wheel k []) ≡ 0) (sym seated_as.wheel) none.events;
        changes = subst (λ (wheel : List (List LevelChange)). (k : ℕ) → k < length wheel → changes_of w (data_slot wheel k) ≡ 0) (sym seated_as.changes) none.changes;
      }

  pub can_return : CanReturn old new run numbering since t m s2
  can_return = record {
    followed = subst (λ (x : Rerun). IsFollowed old new run numbering since t x) (sym seat.kept) followed_made;
    asleep = ap (λ (x : Rerun). active_of x m) seat.kept ∙ asleep;
    nothing = nothing_now;
  }
