-- Modules sleep, once what the wheels had of their wires is taken out.
use Rattle.std.proofs.Common.{◌≡◌, ℕ, ◌+◌, ◌-◌, ◌<◌, ◌≤◌, Bool, true, false, not, cond, List, ◌++◌, All, Option, Some, length, slice_index_or, refl, ap, sym, subst, ◌∙◌, arith, inl, inr}
use Rattle.std.specs.Prelude.{◌&&◌, ◌==◌}
use Rattle.std.specs.List.{Contains}
use Rattle.std.specs.List.Sorted.{IsPermutation}
use Rattle.std.proofs.lemmas.Bool.{cases_Bool, both_ways, and_left, and_right}
use Rattle.std.proofs.lemmas.Option.{none-some}
use Rattle.mp_records.specs.declared.ids.ModuleId.{ModuleId}
use Rattle.mp_records.specs.declared.module_record.ModuleRecord.{ModuleRecord}
use Rattle.mp_records.specs.Outputs.{delay_of}
use Rattle.mp_netlist.specs.declared.driver.Driver.{Driver}
use Rattle.mp_netlist.specs.declared.driver.Driver.TheVariants.{Nothing, Stimulus, Port}
use Rattle.mp_netlist.specs.Circuit.{Circuit, IsCircuit}
use Rattle.mp_netlist.specs.Drivers.{driver, is_port}
use Rattle.mp_netlist.proofs.DriverLemmas.{finds_only_ports}
use Rattle.mp_modules.specs.automata.Codes.{bit}
use Rattle.mp_kernel.specs.timers.TimerWheels.{never}
use Rattle.mp_simulation.specs.declared.bits.simulation.Simulation.{Simulation}
use Rattle.mp_simulation.specs.bits.Changes.{change_at}
use Rattle.mp_simulation.specs.bits.WholeRuns.{is_stimulus}
use Rattle.mp_kernel.specs.declared.events.fanout_entry.FanoutEntry.{FanoutEntry}
use Rattle.mp_kernel.specs.events.Firing.{ports_at as outputs_at}
use Rattle.mp_kernel.specs.declared.datapath.data_module.DataModule.{DataModule}
use Rattle.mp_kernel.specs.declared.datapath.level_change.LevelChange.{LevelChange}
use Rattle.mp_kernel.specs.datapath.DataFiring.{place_at}
use Rattle.mp_partition.specs.runs.Marks.{is_marked}
use Rattle.mp_partition.specs.runs.Outcomes.{Outcome}
use Rattle.mp_simulation.specs.declared.units.data_modules.DataModules.{DataModules}
use Rattle.mp_simulation.specs.declared.run.stimuli.StimulusChange.{StimulusChange}
use Rattle.mp_simulation.specs.run.Seating.{AreOutputsWithin}
use Rattle.mp_simulation.specs.run.Stimuli.{left_of}
use Rattle.mp_simulation.specs.run.Wirings.{AreByPort}
use Rattle.mp_depend.specs.work.Revisions.{IsKept}
use Rattle.mp_active.specs.agreement.Sleeping.{IsSleeping, AreSleeping}
use Rattle.mp_active.proofs.lemmas.agreement.SleepingLemmas.{modules_fall_asleep}
use Rattle.mp_active.specs.agreement.Sources.{slept_from}
use Rattle.mp_active.specs.declared.compare.comparison.Comparison.{Comparison}
use Rattle.mp_active.specs.declared.compare.numbers.Numbers.{Numbers}
use Rattle.mp_active.specs.compare.Comparing.{wire_of, delay_of as late_by}
use Rattle.mp_active.specs.compare.Listing.{AreLinked}
use Rattle.mp_active.specs.steps.Taking.{is_gone, taken_in}
use Rattle.mp_active.specs.excerpt.Numberings.{Numbering}
use Rattle.mp_redo.specs.declared.rerun.rerun.Rerun.{Rerun}
use Rattle.mp_redo.specs.rerun.Following.{AreTails, AreSetAnew}
use Rattle.mp_redo.specs.rerun.Numbered.{ports_at, AreWired, AreNumbered}
use Rattle.mp_redo.specs.rerun.Seats.{seat_at, AreSeats}
use Rattle.mp_redo.specs.rerun.Leaving.{CanLeave, HasTakenTails, HaveLeft}
use Rattle.mp_redo.specs.rerun.Reruns.{IsFollowed, IsRerunBy, IsRerunAt, active_of, until_of}
use Rattle.mp_redo.proofs.lemmas.rerun.FallLemmas.{has_left, since_then, AreFalling}
use Rattle.mp_redo.proofs.lemmas.rerun.DecidedLemmas.{tails_more}
use Rattle.mp_redo.proofs.lemmas.rerun.GoingLemmas.{taken_alike, long_sources, left_when, slept_until, same_wheel, same_changes, taken_last, shows_last}

module _ (old new : Circuit) (ok : IsCircuit new) (run : Outcome) (numbering : Numbering) (since : ℕ → ℕ) (time units : ℕ) (leaving : List ModuleId) (s now : Rerun) (some : 0 < time) (below : time < new.horizon)
    (is : IsRerunBy old new run numbering since (time - 1) s) (are : AreFalling old new run numbering since time units leaving s now) where
  next : time - 1 + 1 ≡ time
  next = omega (arith, some)

  module _ (last : Rerun) (took : HasTakenTails units time now last) where
    -- ---- numbers and places

    same_fanout : last.simulation.bits.simulator.fanout ≡ s.simulation.bits.simulator.fanout
    same_fanout = ap (λ (b : Simulation). b.simulator.fanout) took.wheels.bits ∙ ap (λ (b : Simulation). b.simulator.fanout) are.seats.bits

    same_outputs : last.simulation.bits.simulator.outputs ≡ s.simulation.bits.simulator.outputs
    same_outputs = ap (λ (b : Simulation). b.simulator.outputs) took.wheels.bits ∙ ap (λ (b : Simulation). b.simulator.outputs) are.seats.bits

    same_units : length last.simulation.bits.simulator.wheel ≡ length s.simulation.bits.simulator.wheel
    same_units = took.wheels.long ∙ ap (length {A = List ℕ}) (same_wheel old new ok run numbering since time units leaving s now some below is are)

    same_change_units : length last.simulation.wires.wheel ≡ length s.simulation.wires.wheel
    same_change_units = took.wheels.data_long ∙ ap (length {A = List LevelChange}) (same_changes old new ok run numbering since time units leaving s now some below is are)

    same_numbers : now.comparison.numbers ≡ s.comparison.numbers
    same_numbers = ap (λ (c : Comparison). c.numbers) are.compared

    same_inputs : now.inputs.items ≡ s.inputs.items
    same_inputs = ap (λ (x : Rerun). x.inputs.items) are.kept

    wired_last : AreWired new numbering last.simulation
    wired_last =
        let was = is.followed.numbered.wired in
        record {
          reads = was.reads;
          gone = was.gone;
          bits = λ m r at one.
              let seat = was.bits m r at one in
              record {
                reads = seat.reads;
                numbers = seat.numbers;
                drives = ap (λ v. outputs_at v m) same_outputs ∙ seat.drives;
                room = λ w p drives. subst (λ (k : ℕ). delay_of r p ≤ k) (sym same_units) (seat.room w p drives);
              };
          low = λ m. subst (λ (k : ℕ). All (λ x. x < k) (numbering.inputs m)) (ap (length {A = List FanoutEntry}) (sym same_fanout)) (was.low m);
          room = subst (AreOutputsWithin new) (sym same_units) was.room;
          data_room = subst (AreOutputsWithin new) (sym same_change_units) was.data_room;
        }

    numbered_last : AreNumbered new numbering now.inputs.items now.comparison last.simulation
    numbered_last =
        let was = is.followed.numbered in
        record {
          count = ap (λ (c : Numbers). length c.wires.items) same_numbers ∙ was.count ∙ ap (length {A = List FanoutEntry}) (sym same_fanout);
          wires = long_sources old new ok run numbering since time units leaving s now some below is are;
          source = subst (λ (c : Numbers). (x : ℕ) → x < length c.wires.items → numbering.source x ≡ (wire_of c x, late_by c x)) (sym same_numbers) was.source;
          linked = subst AreLinked (sym same_numbers) was.linked;
          with_data = λ w low. ap (λ (c : Numbers). slice_index_or c.have_data.items w false) same_numbers ∙ was.with_data w low;
          modules = ap (length {A = List (Option ℕ)}) same_inputs ∙ was.modules;
          by_port = λ m low. subst (λ (inputs : List (List (Option ℕ))). AreByPort (numbering.inputs m) (ports_at inputs m)) (sym same_inputs) (was.by_port m low);
          wired = wired_last;
        }

    seats_last : AreSeats (length new.modules) now.activity.seats.items last.simulation.modules
    seats_last =
        let was = is.followed.seats in
        let same : now.activity.seats.items ≡ s.activity.seats.items = ap (λ (x : Rerun). x.activity.seats.items) are.kept in
        let list : last.simulation.modules.modules.items ≡ s.simulation.modules.modules.items = ap (λ (m : DataModules). m.modules.items) took.wheels.modules ∙ ap (λ (m : DataModules). m.modules.items) are.seats.seats in
        subst (λ (seats : List (Option ℕ)). AreSeats (length new.modules) seats last.simulation.modules) (sym same) (record {
          long = was.long;
          count = ap (length {A = DataModule}) list ∙ was.count;
          within = λ m k at. subst (λ (n : ℕ). k < n) (ap (length {A = DataModule}) (sym list)) (was.within m k at);
          own = was.own;
          placed = λ q k at. placed q k (sym (ap (λ (m : DataModules). place_at m.places.items q) took.wheels.modules) ∙ at);
        })
      where
        placed : (q k : ℕ) → place_at now.simulation.modules.places.items q ≡ Some k → seat_at s.activity.seats.items q ≡ Some k
        placed q k at = elim (cases_Bool (has_left s now q)) as (λ _. seat_at s.activity.seats.items q ≡ Some k) [
          | inl left ↦ absurd (none-some k (sym (are.seats.no_places q left) ∙ at))
          | inr stays ↦ is.followed.seats.placed q k (sym (are.seats.other_places q stays) ∙ at)
        ]

    -- ---- who sleeps, and what comes of wires

    module _ (can : CanLeave old new time leaving s) (early : (m : ℕ) → since m < time + 1) where
      sleeping_last : AreSleeping old new (active_of now) (since_then since time s now) (time - 1)
      sleeping_last m r at off = elim (cases_Bool (has_left s now m)) as (λ _. IsSleeping old new (since_then since time s now m) (time - 1) m r) [
        | inl left ↦
            let leaves = can m (are.only m left) in
            let one : Some leaves.part ≡ Some r = sym leaves.kept.after ∙ at in
            let part : leaves.part ≡ r = cc in
            subst (λ (u : ℕ). IsSleeping old new u (time - 1) m r) (next ∙ sym (ap (λ (b : Bool). cond b time (since m)) left))
            (modules_fall_asleep old new (time - 1) m r (subst (λ (x : ModuleRecord). IsKept old new m x) part leaves.kept) leaves.agree)
        | inr stays ↦
            subst (λ (u : ℕ). IsSleeping old new u (time - 1) m r) (sym (ap (λ (b : Bool). cond b time (since m)) stays))
            (is.followed.sleeping m r at (was_off m stays off))
      ]
        where
          was_off : (m : ℕ) → has_left s now m ≡ false → active_of now m ≡ false → active_of s m ≡ false
          was_off m stays off = by (active_of s m) (active_of now m) stays off
            where
              by : (a b : Bool) → (a && not b) ≡ false → b ≡ false → a ≡ false
              by true true gone is = let no : ⊥ = cc in absurd no
              by true false gone is = let no : ⊥ = cc in absurd no
              by false true gone is = refl
              by false false gone is = refl

      tails_last : AreTails new (active_of now) (until_of now) (time - 1) (left_of last.pending_outputs)
      tails_last =
          tails_more new (active_of s) (active_of now) (has_left s now) (time - 1) (taken_in (is_gone now.comparison.sources.items) (time - 1 + 1) s.simulation units)
          (taken_last old new ok run numbering since time units leaving s now some below is are)
          (until_of s) (until_of now) are.fewer (λ m on. and_right (active_of s m) (not (active_of now m)) (ap not on)) (λ m quiet. and_left (active_of s m) (not (active_of now m)) quiet) (left_when old new ok run numbering since time units leaving s now some below is are)
          (λ w p m drives quiet. same_until w p m drives quiet)
          (λ w p m r drives at was off. slept_until old new ok run numbering since time units leaving s now some below is are w p m r drives at was off ∙ ap (λ (u : ℕ). u + delay_of r p) (sym next))
          (left_of s.pending_outputs) (left_of last.pending_outputs) is.followed.pending_outputs moved took.order
        where
          same_until : (w p : ℕ) (m : ModuleId) → driver new w ≡ Port m p → active_of s m.0 ≡ false → until_of now w ≡ until_of s w
          same_until w p m drives quiet =
              let found = finds_only_ports new w p m drives in
              let off : active_of now m.0 ≡ false = still_off (active_of now m.0) (are.fewer m.0) in
              are.sources.asleep w p m found.part drives off found.stands
              ∙ ap (λ (b : Bool). slept_from (cond b time (since m.0)) (delay_of found.part p)) (and_left (active_of s m.0) (not (active_of now m.0)) quiet)
              ∙ sym (is.followed.sources.asleep w p m found.part drives quiet found.stands)
            where
              still_off : (b : Bool) → (b ≡ true → active_of s m.0 ≡ true) → b ≡ false
              still_off true fewer = absurd (both_ways (active_of s m.0) quiet (fewer refl))
              still_off false fewer = refl

          same_tails : left_of now.pending_outputs ≡ left_of s.pending_outputs
          same_tails = ap (λ (x : Rerun). left_of x.pending_outputs) are.kept

          moved : IsPermutation (left_of s.pending_outputs ++ taken_in (is_gone now.comparison.sources.items) (time - 1 + 1) s.simulation units) (left_of last.pending_outputs)
          moved =
              subst (λ (u : ℕ). IsPermutation (left_of s.pending_outputs ++ taken_in (is_gone now.comparison.sources.items) u s.simulation units) (left_of last.pending_outputs)) (sym next)
              (subst (λ (xs : List StimulusChange). IsPermutation (left_of s.pending_outputs ++ xs) (left_of last.pending_outputs)) (taken_alike (is_gone now.comparison.sources.items) time s.simulation now.simulation units (same_wheel old new ok run numbering since time units leaving s now some below is are) (same_changes old new ok run numbering since time units leaving s now some below is are))
              (subst (λ (xs : List StimulusChange). IsPermutation (xs ++ taken_in (is_gone now.comparison.sources.items) time now.simulation units) (left_of last.pending_outputs)) same_tails took.pending_outputs))

      stimuli_last : AreSetAnew new (until_of now) (time - 1) (left_of now.stimuli)
      stimuli_last =
          let was = is.followed.stimuli in
          subst (λ (ss : List StimulusChange). AreSetAnew new (until_of now) (time - 1) ss) (sym (ap (λ (x : Rerun). left_of x.stimuli) are.kept)) (record {
            listed = was.listed;
            each = λ w u after. was.each w u after ∙ ap (λ (b : Bool). bit (change_at new w u && b)) (sym (set_alike w (driver new w) refl));
            set = was.set;
          })
        where
          set_alike : (w : ℕ) (d : Driver) → driver new w ≡ d → (is_stimulus d && (until_of now w == never)) ≡ (is_stimulus d && (until_of s w == never))
          set_alike w Nothing drives = refl
          set_alike w Stimulus drives = ap (λ (u : ℕ). u == never) (are.others w (ap is_port drives))
          set_alike w (Port m p) drives = refl

      pub rerun_last : IsRerunBy old new run numbering (since_then since time s now) (time - 1) last
      rerun_last = record { shows = shows_last old new ok run numbering since time units leaving s now some below is are last took; followed = subst (λ (x : Rerun). IsFollowed old new run numbering (since_then since time s now) (time - 1) x) (sym took.kept) followed }
        where
          followed : IsFollowed old new run numbering (since_then since time s now) (time - 1) (record now { simulation = last.simulation; pending_outputs = last.pending_outputs })
          followed = record {
            numbered = numbered_last;
            modules = are.modules;
            seats = seats_last;
            ports = record {
              driven = λ m p w on drives. are.on w ∙ is.followed.ports.driven m p w (are.fewer m on) drives;
              read = λ m w on reads. are.on w ∙ is.followed.ports.read m w (are.fewer m on) reads;
            };
            lit = are.lit;
            sleeping = sleeping_last;
            sources = are.sources;
            cursors = are.cursors;
            complete = are.complete;
            counted = are.counted;
            pending_outputs = tails_last;
            stimuli = stimuli_last;
          }

      pub rerun_slept : IsRerunAt old new run time (time - 1) last
      rerun_slept = record {
        numbering = numbering;
        since = since_then since time s now;
        is = rerun_last;
        early = λ m. elim (cases_Bool (has_left s now m)) as (λ _. since_then since time s now m < time + 1) [
          | inl left ↦ subst (λ (u : ℕ). u < time + 1) (sym (ap (λ (b : Bool). cond b time (since m)) left)) (omega arith)
          | inr stays ↦ subst (λ (u : ℕ). u < time + 1) (sym (ap (λ (b : Bool). cond b time (since m)) stays)) (early m)
        ];
      }

    -- where all have fallen asleep, they have left
    pub have_left : ((m : ℕ) → Contains leaving (record { 0 = m }) → active_of now m ≡ false) → HaveLeft leaving s last
    have_left done = record {
      kept =
          took.kept
          ∙ ap (λ (x : Rerun). (let y : Rerun = record x { simulation = last.simulation; pending_outputs = last.pending_outputs } in y)) are.kept
          ∙ ap (λ (x : Rerun). (let y : Rerun = record s {
            simulation = last.simulation;
            comparison = x.comparison;
            pending_outputs = last.pending_outputs;
            activity = record (s.activity) { active = x.activity.active };
            recorder = x.recorder;
          } in y)) (sym took.kept);
      seen = ap (λ (x : Rerun). x.comparison.seen) took.kept ∙ ap (λ (c : Comparison). c.seen) are.compared;
      left = λ m has. same_active m ∙ done m has;
      others = λ m not_there. same_active m ∙ by (active_of s m) (active_of now m) (are.fewer m) (λ gone. not_there (are.only m gone));
    }
      where
        same_active : (m : ℕ) → active_of last m ≡ active_of now m
        same_active m = ap (λ (x : Rerun). is_marked x.activity.active.items m) took.kept

        by : (a b : Bool) → (b ≡ true → a ≡ true) → ((a && not b) ≡ true → ⊥) → b ≡ a
        by true true fewer none = refl
        by true false fewer none = absurd (none refl)
        by false true fewer none = let no : ⊥ = (let is_true = fewer refl in cc) in absurd no
        by false false fewer none = refl
