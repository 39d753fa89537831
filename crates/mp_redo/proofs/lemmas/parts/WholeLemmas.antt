-- What the runs and the work spans of the parts are together.
use Rattle.std.proofs.Common.{◌≡◌, ℕ, ◌+◌, ◌<◌, List, [], ◌++◌, Some, None, slice_index_or, refl, sym, subst, ◌∙◌, arith}
use Rattle.mp_records.specs.declared.module_record.ModuleRecord.{ModuleRecord}
use Rattle.mp_netlist.specs.Slots.{slot_at}
use Rattle.mp_netlist.specs.Circuit.{Circuit, wire_at, module_at}
use Rattle.mp_model.specs.Waves.{slot_wave}
use Rattle.mp_partition.specs.runs.Outcomes.{end_of}
use Rattle.mp_partition.specs.runs.Runs.{end_memory}
use Rattle.mp_depend.specs.recording.Endings.{HasCheckpoints}
use Rattle.mp_depend.specs.declared.work.work_span.WorkSpan.{WorkSpan}
use Rattle.mp_depend.specs.work.WorkSpans.{AreWorkSpans}
use Rattle.mp_partition.specs.regions.Regions.{partition_of}
use Rattle.mp_partition.specs.regions.Divisions.{IsDivision}
use Rattle.mp_redo.specs.apart.Parts.{AreUnconnected, IsDrivenWithin}
use Rattle.mp_redo.specs.apart.PartWorkSpans.{AreWorkSpansBelow}
use Rattle.mp_redo.proofs.lemmas.apart.PartLemmas.{divisions_are_unconnected}
use Rattle.mp_redo.proofs.lemmas.apart.PartRunLemmas.{part_runs_have_waves, part_runs_have_ends, part_runs_keep_states}
use Rattle.mp_redo.proofs.lemmas.apart.JoinLemmas.{none_are_below, work_spans_join, all_are_work_spans}
use Rattle.mp_redo.specs.declared.parts.parts_change.PartsChange.{PartsChange}
use Rattle.mp_redo.specs.declared.parts.redone.Redone.{Redone}
use Rattle.mp_redo.specs.parts.Changes.{IsChange, homes_in}
use Rattle.mp_redo.specs.parts.Redone.{AreRedone}

-- what drives a wire is at home in this part, if anything is
pub within_home : (n : Circuit) (homes wires : List ℕ) (parts w part : ℕ) → IsDivision n homes wires [] parts → (partition_of wires w < parts → partition_of wires w ≡ part) → IsDrivenWithin n homes part w
within_home n homes wires parts w part is at m p drives =
    let there : partition_of wires w ≡ partition_of homes m = (is.at_home m).driven p w drives in
    let few = is.few m in
    sym there ∙ at (omega (arith, few, there))

module _ (change : PartsChange) (is : IsChange change) where
  pub new_unconnected : AreUnconnected change.new.now (homes_in change)
  new_unconnected = divisions_are_unconnected change.new.now (homes_in change) change.partition.now.division.wires.items change.partition.now.division.parts is.partition.division

  module _ (parts : List Redone) (are : AreRedone change parts) (d : Redone) where
    pub wave_there : (k w : ℕ) → k < change.partition.now.division.parts → IsDrivenWithin change.new.now (homes_in change) k w
        → slot_at (slice_index_or parts k d).run.waves w ≡ slot_wave change.new.now w (wire_at change.new.now w)
    wave_there k w low within = part_runs_have_waves change.new.now is.new (homes_in change) new_unconnected k (slice_index_or parts k d).run (are.each k d low).run w within

    pub end_there : (m : ℕ) → end_of (slice_index_or parts (partition_of (homes_in change) m) d).run m ≡ end_memory change.new.now m
    end_there m =
        let k = partition_of (homes_in change) m in
        part_runs_have_ends change.new.now is.new (homes_in change) new_unconnected k (slice_index_or parts k d).run (are.each k d (is.partition.division.few m)).run m refl

    pub states_there : (m : ℕ) (r : ModuleRecord) → module_at change.new.now m ≡ Some r → HasCheckpoints change.new.now m (slot_at (slice_index_or parts (partition_of (homes_in change) m) d).run.kept m)
    states_there m r at =
        let k = partition_of (homes_in change) m in
        part_runs_keep_states change.new.now is.new (homes_in change) new_unconnected k (slice_index_or parts k d).run (are.each k d (is.partition.division.few m)).run m r refl at

    -- the work spans of one part more
    pub one_below : (k : ℕ) (below more : List WorkSpan) → k < change.partition.now.division.parts → more ≡ below ++ (slice_index_or parts k d).work_spans.items
        → AreWorkSpansBelow change.old.now change.new.now (homes_in change) k below → AreWorkSpansBelow change.old.now change.new.now (homes_in change) (k + 1) more
    one_below k below more low added before =
        subst (AreWorkSpansBelow change.old.now change.new.now (homes_in change) (k + 1)) (sym added)
        (work_spans_join change.old.now change.new.now is.old is.new is.revision (homes_in change) is.partition.unconnected new_unconnected k below (slice_index_or parts k d).work_spans.items
        (is.partition.least k low) before (are.each k d low).work_spans)

  -- nothing is kept where no module stands
  pub states_absent : (m : ℕ) → module_at change.new.now m ≡ None → HasCheckpoints change.new.now m None
  states_absent m none c border low = rw none refl

  pub none_below : (work_spans : List WorkSpan) → work_spans ≡ [] → AreWorkSpansBelow change.old.now change.new.now (homes_in change) 0 work_spans
  none_below work_spans none = subst (AreWorkSpansBelow change.old.now change.new.now (homes_in change) 0) (sym none) (none_are_below change.old.now change.new.now (homes_in change))

  pub all_below : (k : ℕ) (work_spans : List WorkSpan) → k ≡ change.partition.now.division.parts → AreWorkSpansBelow change.old.now change.new.now (homes_in change) k work_spans → AreWorkSpans change.old.now change.new.now work_spans
  all_below k work_spans end below =
      all_are_work_spans change.old.now change.new.now (homes_in change) change.partition.now.division.parts work_spans is.partition.division.few
      (subst (λ j. AreWorkSpansBelow change.old.now change.new.now (homes_in change) j work_spans) end below)
