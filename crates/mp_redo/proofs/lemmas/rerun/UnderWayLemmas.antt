-- A re-evaluation that begins is under way.
use Rattle.std.proofs.Common.{◌≡◌, ℕ, ◌-◌, ◌<◌, Bool, List, [], Option, Some, None, length, refl, ap, sym, subst, ◌∙◌, arith}
use Rattle.std.specs.Prelude.{slice_index_or}
use Rattle.std.specs.List.{Contains}
use Rattle.mp_records.specs.declared.ids.ModuleId.{ModuleId}
use Rattle.mp_records.specs.declared.wire_record.WireRecord.{WireRecord}
use Rattle.mp_netlist.specs.Circuit.{Circuit, IsCircuit, wire_at}
use Rattle.mp_partition.specs.runs.Outcomes.{Outcome}
use Rattle.mp_partition.specs.runs.Runs.{IsRun}
use Rattle.mp_simulation.specs.units.DataLevels.{has_data as has_data_there}
use Rattle.mp_simulation.specs.declared.run.stimuli.StimulusChange.{StimulusChange}
use Rattle.mp_simulation.specs.declared.run.wiring.WiredInputs.{WiredInputs}
use Rattle.mp_simulation.specs.run.Stimuli.{left_of}
use Rattle.mp_simulation.specs.run.Wirings.{AreByPort}
use Rattle.mp_depend.specs.work.Revisions.{IsRevision}
use Rattle.mp_depend.specs.work.Work.{block_of, window_end, IsWindow}
use Rattle.mp_depend.proofs.lemmas.work.WindowLemmas.{window_within}
use Rattle.mp_depend.specs.recording.Recorders.{IsRecorder}
use Rattle.mp_depend.specs.recording.Live.{AreAtWork}
use Rattle.mp_active.specs.excerpt.Excerpts.{ArePortsOn}
use Rattle.mp_active.specs.compare.Comparing.{wire_of, delay_of as late_by, HasCursors, AreUnseen, IsComplete}
use Rattle.mp_active.specs.compare.Numbering.{AreNumbersOf, has_data}
use Rattle.mp_active.specs.compare.Reading.{ReadsAreListed, ports_of}
use Rattle.mp_active.specs.compare.First.{AreFirst}
use Rattle.mp_redo.specs.declared.rerun.rerun.Rerun.{Rerun}
use Rattle.mp_redo.specs.rerun.Numbered.{AreNumbered, AreCounted}
use Rattle.mp_redo.specs.rerun.Following.{AreTails, AreSetAnew}
use Rattle.mp_redo.specs.rerun.Seats.{AreSeats}
use Rattle.mp_redo.specs.rerun.Reruns.{active_of, on_of, until_of, IsFollowed, IsRerunAt}
use Rattle.mp_redo.specs.rerun.Starting.{IsFirst}
use Rattle.mp_redo.specs.rerun.Windows.{AreTouched, IsBegun}
use Rattle.mp_redo.proofs.lemmas.rerun.FirstReaderLemmas.{counted, wire_read}
use Rattle.mp_redo.proofs.lemmas.rerun.FirstSourceLemmas.{sources, lit, ports_on, no_tails}
use Rattle.mp_redo.proofs.lemmas.rerun.BeginningLemmas.{asleep, at_work}

same_data : (slot : Option WireRecord) → has_data slot ≡ has_data_there slot
same_data None = refl
same_data (Some r) = refl

from_zero : (k : ℕ) → 0 - k ≡ 0
from_zero k = omega arith

-- it is made of a first simulation, of a first comparison, and of what is kept before time 0
pub record IsMade (old new : Circuit) (run : Outcome) (wired : WiredInputs) (s : Rerun) : Type 0 where
  pub touched : AreTouched old new s.activity.active.items
  pub same : s.activity.touched.items ≡ s.activity.active.items
  pub seats : s.activity.seats.items ≡ s.simulation.modules.places.items
  pub joined : s.activity.joined.items ≡ []
  pub first : IsFirst new (active_of s) (record { simulation = s.simulation; wired = wired })
  pub wires : s.comparison.numbers.wires.items ≡ wired.wiring.wires.items
  pub inputs : s.inputs.items ≡ wired.inputs.items
  pub sources : (x : ℕ) → x < length wired.wiring.next.items → first.numbering.source x ≡ (wire_of s.comparison.numbers x, late_by s.comparison.numbers x)
  pub numbers : AreNumbersOf new s.comparison.numbers
  pub compared : AreFirst old new s.activity.active.items s.inputs.items s.comparison
  pub cursors : HasCursors run 0 [] s.comparison
  pub unseen : AreUnseen 1 s.comparison
  pub complete : IsComplete run 0 s.comparison
  pub stimuli : AreSetAnew new (until_of s) 0 (left_of s.stimuli)
  pub pending_outputs : left_of s.pending_outputs ≡ []
  pub recorder : IsRecorder old new run (λ m. 0) 0 (active_of s) s.recorder
  pub window : s.window_end ≡ window_end new 0

module _ (by_ports : ReadsAreListed) (old new : Circuit) (old_ok : IsCircuit old) (new_ok : IsCircuit new) (revised : IsRevision old new) (run : Outcome) (is : IsRun old run) (wired : WiredInputs) (s : Rerun)
    (made : IsMade old new run wired s) where
  count : length s.comparison.numbers.wires.items ≡ length wired.wiring.next.items
  count = ap (length {A = ℕ}) made.wires ∙ made.first.numbers.long

  by_port : (m : ℕ) → m < length new.modules → AreByPort (made.first.numbering.inputs m) (ports_of s.inputs.items m)
  by_port m low =
      subst (λ (xs : List (List (Option ℕ))). AreByPort (made.first.numbering.inputs m) (slice_index_or xs m [])) (sym made.inputs) (made.first.by_port m low)

  numbered : AreNumbered new made.first.numbering s.inputs.items s.comparison s.simulation
  numbered = record {
    count = count ∙ made.first.count;
    wires = made.compared.places;
    source = λ x low. made.sources x (let long = count in omega (arith, low, long));
    linked = made.numbers.linked;
    with_data = λ w low. made.numbers.with_data w low ∙ same_data (wire_at new w);
    modules = ap (length {A = List (Option ℕ)}) made.inputs ∙ made.first.modules;
    by_port = by_port;
    wired = made.first.wired;
  }

  number_wire : (m k d : ℕ) → k < length (made.first.numbering.inputs m) →
      (made.first.numbering.source (slice_index_or (made.first.numbering.inputs m) k d)).0 ≡ wire_of s.comparison.numbers (slice_index_or (made.first.numbering.inputs m) k d)
  number_wire m k d within =
      let low = made.first.wired.low m k d within in
      let long = made.first.count in
      ap (λ (v : ℕ × ℕ). v.0) (made.sources (slice_index_or (made.first.numbering.inputs m) k d) (omega (arith, low, long)))

  ports : ArePortsOn new (active_of s) (on_of s)
  ports =
      ports_on old new new_ok s.activity.active.items s.inputs.items s.comparison made.compared
      (λ m w on reads. wire_read new (active_of s) s.inputs.items s.comparison.numbers made.first.numbering by_port made.first.wired.reads number_wire m w on reads)

  readers : AreCounted new (active_of s) made.first.numbering s.comparison
  readers x low = made.compared.asleep x ∙ counted by_ports new (active_of s) s.inputs.items made.first.numbering by_port x

  followed : IsFollowed old new run made.first.numbering (λ m. 0) 0 s
  followed = record {
    numbered = numbered;
    modules = made.touched.places;
    seats = subst (λ (xs : List (Option ℕ)). AreSeats (length new.modules) xs s.simulation.modules) (sym made.seats) made.first.seats;
    ports = ports;
    lit = lit old new new_ok s.activity.active.items s.inputs.items s.comparison made.compared;
    sleeping = asleep old new s.activity.active.items made.touched old_ok new_ok revised;
    sources = sources old new new_ok s.activity.active.items s.inputs.items s.comparison made.compared;
    cursors = made.cursors;
    complete = made.complete;
    counted = readers;
    pending_outputs = subst (λ (xs : List StimulusChange). AreTails new (active_of s) (until_of s) 0 xs) (sym made.pending_outputs)
        (no_tails old new new_ok s.activity.active.items s.inputs.items s.comparison made.compared);
    stimuli = made.stimuli;
  }

  rerun : (latest : ℕ) → IsRerunAt old new run latest 0 s
  rerun latest = record {
    numbering = made.first.numbering;
    since = λ m. 0;
    is = record { shows = made.first.shows (on_of s) ports; followed = followed };
    early = λ m. omega arith;
  }

  block : block_of new.horizon 0 ≡ 0
  block = from_zero _

  first_window : IsWindow new 0 s.window_end
  first_window = record { below = let some = new_ok.horizon_low in omega (arith, some); begins = from_zero _; ends = made.window }

  nobody : (m : ℕ) → Contains s.activity.joined.items (record { 0 = m }) → ⊥
  nobody m has = let low = has.1 in let none = ap (length {A = ModuleId}) made.joined in omega (arith, low, none)

  at_first : AreAtWork old new (block_of new.horizon 0) 0 (active_of s)
  at_first = subst (λ c. AreAtWork old new c 0 (active_of s)) (sym block) (at_work old new s.activity.active.items made.touched)

  pub begun : IsBegun old new run s
  begun = record {
    is = record {
      is = rerun (block_of new.horizon 0);
      unseen = made.unseen;
      touched = subst (λ (marks : List Bool). AreTouched old new marks) (sym made.same) made.touched;
      window = first_window;
      begun = omega arith;
      within = (window_within new new_ok 0 s.window_end first_window).1;
      live = active_of s;
      work = at_first;
      recorder = subst (λ c. IsRecorder old new run (λ m. c) 0 (active_of s) s.recorder) (sym block) made.recorder;
      joined = record {
        stand = λ m has. let no = nobody m has in absurd no;
        stay = λ m on. on;
        join = λ m has. let no = nobody m has in absurd no;
        others = λ m none. refl;
      };
      apart = λ m has. let no = nobody m has in absurd no;
    };
    work = at_first;
  }
