-- A module that has taken its place, and whose wires are back, is active in the simulation.
use Rattle.std.proofs.Common.{◌≡◌, ℕ, Bool, true, false, not, Some, nat_lt, length, refl, ap, sym, subst, ◌∙◌, inl, inr}
use Rattle.std.specs.Prelude.{◌==◌, ◌&&◌, ◌||◌}
use mathlib.Core.Path.{fun_ext}
use Rattle.std.proofs.lemmas.Bool.{eqb-true, or_cases}
use Rattle.mp_modules.specs.declared.memory.Memory.{Memory}
use Rattle.mp_records.specs.declared.module_record.ModuleRecord.{ModuleRecord}
use Rattle.mp_netlist.specs.declared.driver.Driver.{Driver}
use Rattle.mp_netlist.specs.declared.driver.Driver.TheVariants.{Nothing, Stimulus, Port}
use Rattle.mp_netlist.specs.Circuit.{Circuit, IsCircuit, Drives, module_at, module_width}
use Rattle.mp_netlist.specs.Drivers.{driver}
use Rattle.mp_model.specs.Levels.{built}
use Rattle.mp_model.specs.Waves.{state}
use Rattle.mp_simulation.specs.declared.bits.simulation.Simulation.{Simulation}
use Rattle.mp_simulation.specs.declared.units.data_modules.DataModules.{DataModules}
use Rattle.mp_partition.specs.runs.Outcomes.{Outcome}
use Rattle.mp_simulation.specs.run.Stimuli.{left_of}
use Rattle.mp_partition.specs.regions.Readers.{Reads}
use Rattle.mp_active.specs.excerpt.Excerpts.{is_followed, ArePortsOn}
use Rattle.mp_active.specs.excerpt.Numberings.{Numbering}
use Rattle.mp_active.specs.excerpt.Showing.{Shows}
use Rattle.mp_active.specs.excerpt.Leaving.{is_port_of}
use Rattle.mp_active.specs.excerpt.Activating.{with_module, IsActivated}
use Rattle.mp_active.proofs.lemmas.excerpt.ActivatingLemmas.{activating_shows}
use Rattle.mp_active.specs.steps.Seating.{IsBitSeated}
use Rattle.mp_active.proofs.lemmas.steps.BitActivatedLemmas.{bit_modules_activate}
use Rattle.mp_active.proofs.lemmas.steps.DataActivatedLemmas.{data_modules_activate}
use Rattle.mp_redo.specs.declared.rerun.rerun.Rerun.{Rerun}
use Rattle.mp_redo.specs.rerun.Following.{AreToCome, is_tail, AreTails}
use Rattle.mp_redo.specs.rerun.Seats.{seat_at, AreSeats}
use Rattle.mp_redo.specs.rerun.Reruns.{active_of, on_of, until_of, IsFollowed, IsRerunBy}
use Rattle.mp_redo.specs.rerun.Returning.{ArePortsLit, HasSeat, AreBack, HasReturned}
use Rattle.mp_redo.proofs.lemmas.rerun.StayingLemmas.{HasSameWiring, wiring_more, numbered_kept}
use Rattle.mp_redo.proofs.lemmas.rerun.SeatLemmas.{seat_wiring, seats_now, can_take}

-- the ports of one more module are on
pub ports_with : (n : Circuit) (active on : ℕ → Bool) (m : ℕ) → ArePortsOn n active on → ArePortsLit n m on → ArePortsOn n (with_module active m) on
ports_with n active on m are lit = record {
  driven = λ k p w awake drives. elim (or_cases (active k) (k == m) awake) as (λ _. on w ≡ true) [
    | inl was ↦ are.driven k p w was drives
    | inr own ↦ lit.driven p w (subst (λ j. Drives n j p w) (eqb-true k m own) drives)
  ];
  read = λ k w awake reads. elim (or_cases (active k) (k == m) awake) as (λ _. on w ≡ true) [
    | inl was ↦ are.read k w was reads
    | inr own ↦ lit.read w (subst (λ j. Reads n j w) (eqb-true k m own) reads)
  ];
}

-- of its wires no tails are left
no_more_tails : (active : ℕ → Bool) (m : ℕ) (d : Driver) (early : Bool) → ((is_followed active d && early) && not (is_port_of m d)) ≡ (is_followed (with_module active m) d && early)
no_more_tails active m Nothing early = refl
no_more_tails active m Stimulus early = refl
no_more_tails active m (Port k p) early = by (active k.0) (k.0 == m) early
  where
    by : (a b c : Bool) → ((not a && c) && not b) ≡ (not (a || b) && c)
    by true b c = refl
    by false true true = refl
    by false true false = refl
    by false false true = refl
    by false false false = refl

module _ (old new : Circuit) (run : Outcome) (ok : IsCircuit new) (numbering : Numbering) (since : ℕ → ℕ) (t m : ℕ) (r : ModuleRecord) (memory : Memory) (s s2 s3 : Rerun)
    (is : IsRerunBy old new run numbering since t s) (lit : ArePortsLit new m (on_of s)) (at : module_at new m ≡ Some r) (asleep : active_of s m ≡ false) (stays : memory ≡ state new m t)
    (seat : HasSeat new m r memory s s2) (back : AreBack new numbering t (λ w. is_port_of m (driver new w)) s2 s3) where
  abbrev made : Rerun
  made = record s { simulation = s3.simulation; pending_outputs = s3.pending_outputs; activity = record (s.activity) { seats = s2.activity.seats } }

  made_is : s3 ≡ made
  made_is = back.kept ∙ ap (λ (x : Rerun). (let y : Rerun = record x { simulation = s3.simulation; pending_outputs = s3.pending_outputs } in y)) seat.kept

  activated : IsActivated new (active_of s) numbering m t r s.simulation s3.simulation
  activated = by (module_width new r == 1) refl
    where
      by : (b : Bool) → (module_width new r == 1) ≡ b → IsActivated new (active_of s) numbering m t r s.simulation s3.simulation
      by true narrow =
          bit_modules_activate new ok (active_of s) (on_of s) numbering m t r (λ w. is_port_of m (driver new w)) s.simulation s2.simulation s3.simulation at asleep narrow (λ w. refl) is.shows
          (is.followed.numbered.wired.bits m r at narrow)
          (subst (λ (x : Memory). IsBitSeated m (built new r) x s.simulation s2.simulation) stays (seat.narrow narrow)) back.ahead
      by false wide =
          let takes = seat.wide wide in
          data_modules_activate new ok (active_of s) (on_of s) numbering m t r (seat_at s.activity.seats.items m) takes.part takes.place (λ w. is_port_of m (driver new w)) s.simulation s2.simulation s3.simulation at asleep wide
          (λ w. refl) is.shows (can_take old new run ok numbering since t m r memory s s2 is at asleep seat takes.part wide stays takes.is) takes.taken back.ahead

  shows : Shows new (with_module (active_of s) m) (on_of s) numbering t s3.simulation
  shows = activating_shows new ok (active_of s) (on_of s) numbering m t r s.simulation s3.simulation at (ports_with new (active_of s) (on_of s) m is.followed.ports lit) is.shows activated

  ahead_wiring : HasSameWiring s2.simulation s3.simulation
  ahead_wiring = record {
    fanout = ap (λ (b : Simulation). b.simulator.fanout) back.ahead.bits;
    outputs = ap (λ (b : Simulation). b.simulator.outputs) back.ahead.bits;
    units = back.ahead.units;
    change_units = back.ahead.change_units;
  }

  wiring : HasSameWiring s.simulation s3.simulation
  wiring = wiring_more s.simulation s2.simulation s3.simulation (seat_wiring old new run ok numbering since t m r memory s s2 is at asleep seat) ahead_wiring

  followed_made : IsFollowed old new run numbering since t (record made { pending_outputs = s.pending_outputs })
  followed_made = record {
    numbered = numbered_kept new numbering s.inputs.items s.comparison s.comparison s.simulation s3.simulation refl refl wiring is.followed.numbered;
    modules = is.followed.modules;
    seats = subst (λ (x : DataModules). AreSeats (length new.modules) s2.activity.seats.items x) (sym back.ahead.modules) (seats_now old new run ok numbering since t m r memory s s2 is at asleep seat);
    ports = is.followed.ports;
    lit = is.followed.lit;
    sleeping = is.followed.sleeping;
    sources = is.followed.sources;
    cursors = is.followed.cursors;
    complete = is.followed.complete;
    counted = is.followed.counted;
    pending_outputs = is.followed.pending_outputs;
    stimuli = is.followed.stimuli;
  }

  same_active : active_of s2 ≡ active_of s
  same_active = ap (λ (x : Rerun). active_of x) seat.kept

  same_until : until_of s2 ≡ until_of s
  same_until = ap (λ (x : Rerun). until_of x) seat.kept

  tails_made : AreTails new (with_module (active_of s) m) (until_of s) t (left_of s3.pending_outputs)
  tails_made = subst (λ (comes : ℕ → ℕ → Bool). AreToCome new comes t (left_of s3.pending_outputs)) (fun_ext (λ w. fun_ext (λ u. no_more_tails (active_of s) m (driver new w) (nat_lt u (until_of s w)))))
      (subst (λ (active : ℕ → Bool). AreToCome new (λ w u. is_tail new active (until_of s) w u && not (is_port_of m (driver new w))) t (left_of s3.pending_outputs)) same_active
      (subst (λ (until : ℕ → ℕ). AreToCome new (λ w u. is_tail new (active_of s2) until w u && not (is_port_of m (driver new w))) t (left_of s3.pending_outputs)) same_until back.pending_outputs))

  returned_made : HasReturned old new run numbering since t m made
  returned_made = record {
    shows = shows;
    asleep = asleep;
    lit = lit;
    were = s.pending_outputs;
    followed = followed_made;
    pending_outputs = tails_made;
  }

  pub returned : HasReturned old new run numbering since t m s3
  returned = subst (λ (x : Rerun). HasReturned old new run numbering since t m x) (sym made_is) returned_made
