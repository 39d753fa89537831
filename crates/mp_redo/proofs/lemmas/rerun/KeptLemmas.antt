-- What a unit leaves as it was.
use Rattle.std.proofs.Common.{◌≡◌, ℕ, ◌<◌, ◌≤◌, List, All, Option, length, ap, sym, subst, ◌∙◌, arith, Vec, Global}
use Rattle.mp_records.specs.declared.ids.ModuleId.{ModuleId}
use Rattle.mp_records.specs.Outputs.{delay_of}
use Rattle.mp_netlist.specs.Circuit.{Circuit}
use Rattle.mp_kernel.specs.declared.events.fanout_entry.FanoutEntry.{FanoutEntry}
use Rattle.mp_kernel.specs.events.Firing.{ports_at}
use Rattle.mp_kernel.specs.datapath.DataFiring.{place_at}
use Rattle.mp_partition.specs.runs.Outcomes.{Outcome}
use Rattle.mp_simulation.specs.declared.units.data_modules.DataModules.{DataModules}
use Rattle.mp_simulation.specs.declared.units.netlist_simulation.NetlistSimulation.{NetlistSimulation}
use Rattle.mp_simulation.specs.units.NetlistSimulations.{HasKeptNumbers}
use Rattle.mp_simulation.specs.run.Seating.{AreOutputsWithin}
use Rattle.mp_active.specs.excerpt.Numberings.{Numbering}
use Rattle.mp_active.specs.declared.compare.comparison.Comparison.{Comparison}
use Rattle.mp_depend.specs.declared.recording.rerun_recorder.RerunRecorder.{RerunRecorder}
use Rattle.mp_redo.specs.declared.rerun.rerun.Rerun.{Rerun}
use Rattle.mp_redo.specs.rerun.Numbered.{AreWired, AreNumbered}
use Rattle.mp_redo.specs.rerun.Reruns.{IsFollowed, IsRerunAt}
use Rattle.mp_redo.specs.rerun.Seats.{AreSeats}

-- ---- numbers and places

pub kept_then : (s mid new : NetlistSimulation) → HasKeptNumbers s mid → HasKeptNumbers mid new → HasKeptNumbers s new
kept_then s mid new one two = record {
  rows = two.rows ∙ one.rows;
  outputs = two.outputs ∙ one.outputs;
  next = two.next ∙ one.next;
  data_next = two.data_next ∙ one.data_next;
  units = two.units ∙ one.units;
  copy_units = two.copy_units ∙ one.copy_units;
  change_units = two.change_units ∙ one.change_units;
  places = two.places ∙ one.places;
  seats = two.seats ∙ one.seats;
}

module _ (n : Circuit) (numbering : Numbering) (s new : NetlistSimulation) (kept : HasKeptNumbers s new) where
  wired_on : AreWired n numbering s → AreWired n numbering new
  wired_on are = record {
    reads = are.reads;
    gone = are.gone;
    bits = λ m r at one.
        let is = are.bits m r at one in
        record {
          reads = is.reads;
          numbers = is.numbers;
          drives = ap (λ v. ports_at v m) kept.outputs ∙ is.drives;
          room = λ w p drives. subst (λ k. delay_of r p ≤ k) (sym kept.units) (is.room w p drives);
        };
    low = λ m. subst (λ k. All (λ x. x < k) (numbering.inputs m)) (ap (length {A = List FanoutEntry}) (sym kept.rows)) (are.low m);
    room = subst (AreOutputsWithin n) (sym kept.units) are.room;
    data_room = subst (AreOutputsWithin n) (sym kept.change_units) are.data_room;
  }

  pub numbered_on : (inputs : List (List (Option ℕ))) (c : Comparison) → AreNumbered n numbering inputs c s → AreNumbered n numbering inputs c new
  numbered_on inputs c are = record {
    count = are.count ∙ ap (length {A = List FanoutEntry}) (sym kept.rows);
    wires = are.wires;
    source = are.source;
    linked = are.linked;
    with_data = are.with_data;
    modules = are.modules;
    by_port = are.by_port;
    wired = wired_on are.wired;
  }

pub seats_on : (modules : ℕ) (seats : List (Option ℕ)) (s new : DataModules) → new.places ≡ s.places → length new.modules.items ≡ length s.modules.items → AreSeats modules seats s → AreSeats modules seats new
seats_on modules seats s new same many are = record {
  long = are.long;
  count = many ∙ are.count;
  within = λ m k at. subst (λ j. k < j) (sym many) (are.within m k at);
  own = are.own;
  placed = λ q k at. are.placed q k (ap (λ v. place_at v.items q) (sym same) ∙ at);
}

-- ---- a re-evaluation

-- what is followed with the numbers of one simulation is with those of another that has kept them
pub followed_on : (old new : Circuit) (run : Outcome) (numbering : Numbering) (since : ℕ → ℕ) (t : ℕ) (s : Rerun) (simulation : NetlistSimulation) → HasKeptNumbers s.simulation simulation
    → IsFollowed old new run numbering since t s → IsFollowed old new run numbering since t (record s { simulation = simulation })
followed_on old new run numbering since t s simulation kept is = record {
  numbered = numbered_on new numbering s.simulation simulation kept s.inputs.items s.comparison is.numbered;
  modules = is.modules;
  seats = seats_on (length new.modules) s.activity.seats.items s.simulation.modules simulation.modules kept.places kept.seats is.seats;
  ports = is.ports;
  lit = is.lit;
  sleeping = is.sleeping;
  sources = is.sources;
  cursors = is.cursors;
  complete = is.complete;
  counted = is.counted;
  pending_outputs = is.pending_outputs;
  stimuli = is.stimuli;
}

-- a re-evaluation with another recorder, other modules that have joined, another end of the window, and another time at which to look ahead
abbrev pub renewed : Rerun → Vec ModuleId Global → RerunRecorder → ℕ → ℕ → Rerun
renewed s joined recorder end look = record s { activity = record (s.activity) { joined = joined }; recorder = recorder; window_end = end; look_at = look }

pub rerun_renewed : (old new : Circuit) (run : Outcome) (latest later t : ℕ) (s : Rerun) (joined : Vec ModuleId Global) (recorder : RerunRecorder) (end look : ℕ) → latest ≤ later → IsRerunAt old new run latest t s
    → IsRerunAt old new run later t (renewed s joined recorder end look)
rerun_renewed old new run latest later t s joined recorder end look le is = record {
  numbering = is.numbering;
  since = is.since;
  is = record {
    shows = is.is.shows;
    followed = record {
      numbered = is.is.followed.numbered;
      modules = is.is.followed.modules;
      seats = is.is.followed.seats;
      ports = is.is.followed.ports;
      lit = is.is.followed.lit;
      sleeping = is.is.followed.sleeping;
      sources = is.is.followed.sources;
      cursors = is.is.followed.cursors;
      complete = is.is.followed.complete;
      counted = is.is.followed.counted;
      pending_outputs = is.is.followed.pending_outputs;
      stimuli = is.is.followed.stimuli;
    };
  };
  early = λ m. let first = is.early m in omega (arith, first, le);
}
