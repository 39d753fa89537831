-- What the run of a part of the old netlist has.
use Rattle.std.proofs.Common.{◌≡◌, ℕ, true, false, Some, option_map, None, refl, sym, ◌∙◌}
use Rattle.mp_records.specs.declared.module_record.ModuleRecord.{ModuleRecord}
use Rattle.mp_netlist.specs.Slots.{slot_at}
use Rattle.mp_netlist.specs.Circuit.{wire_at, module_at}
use Rattle.mp_model.specs.Waves.{slot_wave}
use Rattle.mp_partition.specs.runs.Outcomes.{wave_of, end_of}
use Rattle.mp_partition.specs.runs.Runs.{end_memory}
use Rattle.mp_depend.specs.recording.Endings.{HasCheckpoints}
use Rattle.mp_partition.specs.regions.Regions.{partition_of}
use Rattle.mp_redo.specs.apart.PartLevels.{resting_wave}
use Rattle.mp_redo.proofs.lemmas.apart.PartLemmas.{parts_have_modules, parts_have_no_others}
use Rattle.mp_redo.proofs.lemmas.apart.PartLevelLemmas.{others_have_no_changes}
use Rattle.mp_redo.proofs.lemmas.apart.PartRunLemmas.{runs_have_part_waves, runs_have_part_ends, runs_keep_part_states}
use Rattle.mp_redo.specs.declared.parts.parts_change.PartsChange.{PartsChange}
use Rattle.mp_redo.specs.parts.Changes.{IsChange, homes_in, old_part}
use Rattle.mp_redo.specs.parts.Drivers.{TellsElsewhere}
use Rattle.mp_redo.proofs.lemmas.parts.DrivenLemmas.{driven_elsewhere, driven_within}

module _ (change : PartsChange) (is : IsChange change) (k : ℕ) where
  -- the wave of a wire that another part drives
  pub wave_elsewhere : (w : ℕ) → TellsElsewhere change.partition.now.old_drivers.items (homes_in change) k w true
      → option_map resting_wave (wire_at change.old.now w) ≡ slot_wave (old_part change k) w (wire_at (old_part change k) w)
  wave_elsewhere w tells =
      sym (others_have_no_changes change.old.now is.old (homes_in change) k w
      (driven_elsewhere change.old.now change.partition.now.old_drivers.items (homes_in change) k w is.partition.drivers tells))

  -- and of any other wire
  pub wave_within : (w : ℕ) → TellsElsewhere change.partition.now.old_drivers.items (homes_in change) k w false
      → wave_of change.run.now w ≡ slot_wave (old_part change k) w (wire_at (old_part change k) w)
  wave_within w tells =
      runs_have_part_waves change.old.now is.old (homes_in change) is.partition.unconnected change.run.now is.run k w
      (driven_within change.old.now is.old change.partition.now.old_drivers.items (homes_in change) k w is.partition.drivers tells)

  pub end_within : (m : ℕ) → partition_of (homes_in change) m ≡ k → end_of change.run.now m ≡ end_memory (old_part change k) m
  end_within m home = runs_have_part_ends change.old.now is.old (homes_in change) is.partition.unconnected change.run.now is.run k m home

  pub end_elsewhere : (m : ℕ) → (partition_of (homes_in change) m ≡ k → ⊥) → end_memory (old_part change k) m ≡ None
  end_elsewhere m other = let none = parts_have_no_others change.old.now (homes_in change) k m other in rw none refl

  pub states_within : (m : ℕ) (r : ModuleRecord) → partition_of (homes_in change) m ≡ k → module_at change.old.now m ≡ Some r → HasCheckpoints (old_part change k) m (slot_at change.run.now.kept m)
  states_within m r home at = runs_keep_part_states change.old.now is.old (homes_in change) is.partition.unconnected change.run.now is.run k m r home at

  -- nothing is kept where no module stands
  pub states_nowhere : (m : ℕ) → module_at (old_part change k) m ≡ None → HasCheckpoints (old_part change k) m None
  states_nowhere m none c border low = rw none refl

  pub none_elsewhere : (m : ℕ) → (partition_of (homes_in change) m ≡ k → ⊥) → module_at (old_part change k) m ≡ None
  none_elsewhere m other = parts_have_no_others change.old.now (homes_in change) k m other

  pub none_within : (m : ℕ) → partition_of (homes_in change) m ≡ k → module_at change.old.now m ≡ None → module_at (old_part change k) m ≡ None
  none_within m home none = parts_have_modules change.old.now (homes_in change) k m home ∙ none
