-- What the run of a region and the run of its netlist have of each other.
use Rattle.std.proofs.Common.{◌≡◌, ℕ, ◌+◌, ◌%◌, ◌<◌, ◌==◌, ◌&&◌, nat_lt, Bool, true, false, cond, List, ◌⊎◌, inl, inr, Option, Some, None, option_map, length, slice_index_or, refl, ap, sym, subst, ◌∙◌, arith}
use Rattle.std.proofs.lemmas.Bool.{lt-ltb, eq-eqb}
use Rattle.std.proofs.lemmas.List.{get_or_default}
use Rattle.mp_modules.specs.Memories.{blank}
use Rattle.mp_records.specs.lists.Replaced.{IsElsewhere}
use Rattle.mp_records.specs.declared.module_record.ModuleRecord.{ModuleRecord}
use Rattle.mp_netlist.specs.Slots.{slot_at}
use Rattle.mp_netlist.specs.Circuit.{Circuit, wire_at, module_at}
use Rattle.mp_netlist.specs.Limits.{checkpoint_units}
use Rattle.mp_model.specs.Waves.{level, slot_wave}
use Rattle.mp_partition.specs.runs.Checkpoints.{kept_at, state_before, IsBorder}
use Rattle.mp_partition.specs.runs.Outcomes.{Outcome, wave_of, end_of, checkpoint_of}
use Rattle.mp_partition.specs.runs.Replacing.{HasReplaced}
use Rattle.mp_partition.specs.runs.Runs.{IsRun, end_memory, checkpoint}
use Rattle.mp_partition.specs.declared.runs.checkpoint.Checkpoint.{Checkpoint}
use Rattle.mp_depend.specs.recording.Endings.{HasCheckpoints}
use Rattle.mp_redo.proofs.lemmas.apart.RunSlotLemmas.{runs_keep_states}
use Rattle.mp_near.specs.laws.Picking.{Picking, has_module, placed, HasLevelsOf}
use Rattle.mp_near.specs.laws.Regions.{OthersStay, Stays}
use Rattle.mp_near.specs.laws.RegionRuns.{HasRunOf, OthersKeepRun}
use Rattle.mp_near.proofs.lemmas.laws.PickedLevelLemmas.{picked_have_levels}
use Rattle.mp_near.proofs.lemmas.laws.CoreLemmas.{closed_cores_stay}
use Rattle.mp_near.proofs.lemmas.laws.RegionLevelLemmas.{regions_have_levels}
use Rattle.mp_near.proofs.lemmas.laws.RunLemmas.{picked_have_runs, others_have_runs}
use Rattle.mp_partition.specs.runs.Marks.{is_marked}
use Rattle.mp_near.specs.Changes.{IsChange}
use Rattle.mp_near.specs.region.Picks.{picking}
use Rattle.mp_near.specs.region.Regions.{IsSmall}
use Rattle.mp_near.specs.declared.revision.Revision.{Revision}
use Rattle.mp_near.specs.declared.region.small.Small.{Small}
use Rattle.mp_near.proofs.lemmas.reach.NumberLemmas.{IsListed, listed_or_not, not_picked, picked_at}

-- a time of a checkpoint
is_time : (horizon c : ℕ) → IsBorder horizon c → c < horizon → (nat_lt c horizon && c % checkpoint_units horizon == 0) ≡ true
is_time horizon c border low = rw (lt-ltb c horizon low) (eq-eqb (c % checkpoint_units horizon) 0 border)

checkpoint_at : (n : Circuit) (m c : ℕ) → IsBorder n.horizon c → c < n.horizon → checkpoint n m c ≡ option_map (λ (r : ModuleRecord). state_before n m r c) (module_at n m)
checkpoint_at n m c border low = ap (λ (test : Bool). cond test (option_map (λ (r : ModuleRecord). state_before n m r c) (module_at n m)) None) (is_time n.horizon c border low)

-- two netlists have one horizon, and a module of each the same states before checkpoints
pub checkpoints_as : (n s : Circuit) (m k : ℕ) → s.horizon ≡ n.horizon → ((c : ℕ) → checkpoint s k c ≡ checkpoint n m c) → (kept : Option (List Checkpoint)) → HasCheckpoints n m kept → HasCheckpoints s k kept
checkpoints_as n s m k horizon same kept has c border low =
    let there : IsBorder n.horizon c = subst (λ h. IsBorder h c) horizon border in
    let below : c < n.horizon = subst (λ h. c < h) horizon low in
    has c there below ∙ sym (checkpoint_at n m c there below) ∙ sym (same c) ∙ checkpoint_at s k c border low

-- nothing is kept where no module stands
pub states_nowhere : (n : Circuit) (m : ℕ) → module_at n m ≡ None → HasCheckpoints n m None
states_nowhere n m none c border low = rw none refl

-- runs with one horizon that keep the same of two modules have the same states of them
same_checkpoint : (a b : Outcome) (m k c : ℕ) → a.horizon ≡ b.horizon → slot_at a.kept m ≡ slot_at b.kept k → checkpoint_of a m c ≡ checkpoint_of b k c
same_checkpoint a b m k c horizon kept =
    ap (λ (h : ℕ). cond (nat_lt c h && c % checkpoint_units h == 0) (option_map (λ ks. kept_at ks c blank) (slot_at a.kept m)) None) horizon
    ∙ ap (λ (found : Option (List Checkpoint)). cond (nat_lt c b.horizon && c % checkpoint_units b.horizon == 0) (option_map (λ ks. kept_at ks c blank) found) None) kept

module _ (change : Revision) (is : IsChange change) (small : Small) (like : IsSmall change.old.now change.new.now small) where
  abbrev pub pick : Picking
  pick = picking change.new.now small.picked

  pub stays : Stays change.old.now change.new.now small.now pick change.new.now.horizon
  stays = closed_cores_stay change.old.now change.new.now small.was small.now pick (is_marked like.picks.core.0) is.old is.new like.now is.revision like.region like.picks.core.1 change.new.now.horizon (omega arith)

  had : HasRunOf change.old.now small.was pick
  had = picked_have_runs change.old.now small.was pick (level change.old.now) is.old like.picks.before like.region.before (picked_have_levels change.old.now small.was pick is.old like.was like.picks.before like.region.before)

  levels : HasLevelsOf change.new.now small.now pick change.new.now.horizon × OthersStay change.old.now change.new.now pick change.new.now.horizon
  levels = regions_have_levels change.old.now change.new.now small.was small.now pick is.old is.new like.now is.revision like.region change.new.now.horizon (omega arith) stays

  has : HasRunOf change.new.now small.now pick
  has = picked_have_runs change.new.now small.now pick (level change.old.now) is.new like.picks.after like.region.after levels.0

  others : OthersKeepRun change.old.now change.new.now pick
  others = others_have_runs change.old.now change.new.now pick is.old is.new is.revision like.region.region levels.1

  -- the number at a place of a list
  wire_at_place : (k w : ℕ) → k < length small.picked.wires.numbers.items → w ≡ slice_index_or small.picked.wires.numbers.items k w → w ≡ pick.wire_of k
  wire_at_place k w low at = at ∙ get_or_default small.picked.wires.numbers.items k w (length change.new.now.wires + k + 1) low

  module_at_place : (k m : ℕ) → k < length small.picked.modules.numbers.items → m ≡ slice_index_or small.picked.modules.numbers.items k m → m ≡ pick.module_of k
  module_at_place k m low at = at ∙ get_or_default small.picked.modules.numbers.items k m (length change.new.now.modules + k + 1) low

  -- what the old run has of the region before the change
  pub wave_before : (k w : ℕ) → k < length small.was.wires → w ≡ slice_index_or small.picked.wires.numbers.items k w → wave_of change.run.now w ≡ slot_wave small.was k (wire_at small.was k)
  wave_before k w low at =
      let few = like.wires in
      is.run.waves w ∙ ap (λ v. slot_wave change.old.now v (wire_at change.old.now v)) (wire_at_place k w (omega arith) at) ∙ sym (had.waves k)

  pub end_before : (k m : ℕ) → k < length small.was.modules → m ≡ slice_index_or small.picked.modules.numbers.items k m → end_of change.run.now m ≡ end_memory small.was k
  end_before k m low at =
      let few = like.modules in
      is.run.ends m ∙ ap (λ v. end_memory change.old.now v) (module_at_place k m (omega arith) at) ∙ sym (had.ends k)

  pub states_before : (k m : ℕ) (r : ModuleRecord) → k < length small.was.modules → m ≡ slice_index_or small.picked.modules.numbers.items k m → module_at change.old.now m ≡ Some r →
      HasCheckpoints small.was k (slot_at change.run.now.kept m)
  states_before k m r low at stands =
      let few = like.modules in
      let number : m ≡ pick.module_of k = module_at_place k m (omega arith) at in
      checkpoints_as change.old.now small.was m k like.region.before.horizon (λ c. had.checkpoints k c ∙ ap (λ v. checkpoint change.old.now v c) (sym number)) (slot_at change.run.now.kept m)
      (runs_keep_states change.old.now change.run.now is.run m r stands)

  pub none_before : (k m : ℕ) → k < length small.was.modules → m ≡ slice_index_or small.picked.modules.numbers.items k m → module_at change.old.now m ≡ None → HasCheckpoints small.was k None
  none_before k m low at none =
      let few = like.modules in
      let number : m ≡ pick.module_of k = module_at_place k m (omega arith) at in
      states_nowhere small.was k (like.region.before.modules k ∙ ap (option_map (placed pick.place_of)) (ap (λ v. module_at change.old.now v) (sym number) ∙ none))

  pub outside : (m : ℕ) → IsElsewhere small.picked.modules.numbers.items m → has_module pick m ≡ false
  outside m none = not_picked like.picks.modules.0 (length change.new.now.modules) small.picked.modules.numbers.items small.picked.modules.places.items like.picks.modules.1 m none

  -- the old run with what the run of the region has of what is picked is the run of the new netlist
  module _ (found new : Outcome) (run : IsRun small.now found) (made : HasReplaced change.run.now small.picked.wires.numbers.items small.picked.modules.numbers.items found new) where
    abbrev n : Circuit
    n = change.new.now

    wave_is : (w : ℕ) → IsListed small.picked.wires.numbers.items w ⊎ IsElsewhere small.picked.wires.numbers.items w → wave_of new w ≡ slot_wave n w (wire_at n w)
    wave_is w (inl at) =
        ap (wave_of new) (sym at.at) ∙ made.waves.replaced at.place at.low ∙ run.waves at.place ∙ has.waves at.place
        ∙ ap (λ v. slot_wave n v (wire_at n v)) (picked_at (length n.wires) small.picked.wires.numbers.items at.place w at.low at.at)
    wave_is w (inr none) =
        made.waves.kept w none ∙ is.run.waves w
        ∙ sym (others.waves w (not_picked like.picks.wires.0 (length n.wires) small.picked.wires.numbers.items small.picked.wires.places.items like.picks.wires.1 w none))

    end_is : (m : ℕ) → IsListed small.picked.modules.numbers.items m ⊎ IsElsewhere small.picked.modules.numbers.items m → end_of new m ≡ end_memory n m
    end_is m (inl at) =
        ap (end_of new) (sym at.at) ∙ made.ends.replaced at.place at.low ∙ run.ends at.place ∙ has.ends at.place
        ∙ ap (λ v. end_memory n v) (picked_at (length n.modules) small.picked.modules.numbers.items at.place m at.low at.at)
    end_is m (inr none) = made.ends.kept m none ∙ is.run.ends m ∙ sym (others.ends m (outside m none))

    state_is : (m c : ℕ) → IsListed small.picked.modules.numbers.items m ⊎ IsElsewhere small.picked.modules.numbers.items m → checkpoint_of new m c ≡ checkpoint n m c
    state_is m c (inl at) =
        same_checkpoint new found m at.place c (made.horizon ∙ is.run.horizon ∙ sym is.revision.horizon ∙ sym like.region.after.horizon ∙ sym run.horizon)
        (ap (slot_at new.kept) (sym at.at) ∙ made.kept.replaced at.place at.low)
        ∙ run.checkpoints at.place c ∙ has.checkpoints at.place c
        ∙ ap (λ v. checkpoint n v c) (picked_at (length n.modules) small.picked.modules.numbers.items at.place m at.low at.at)
    state_is m c (inr none) = same_checkpoint new change.run.now m m c made.horizon (made.kept.kept m none) ∙ is.run.checkpoints m c ∙ sym (others.checkpoints m c (outside m none))

    pub run_joined : IsRun n new
    run_joined = record {
      horizon = made.horizon ∙ is.run.horizon ∙ sym is.revision.horizon;
      waves = λ w. wave_is w (listed_or_not like.picks.wires.0 (length n.wires) small.picked.wires.numbers.items small.picked.wires.places.items like.picks.wires.1 w);
      ends = λ m. end_is m (listed m);
      checkpoints = λ m c. state_is m c (listed m);
    }
      where
        listed : (m : ℕ) → IsListed small.picked.modules.numbers.items m ⊎ IsElsewhere small.picked.modules.numbers.items m
        listed m = listed_or_not like.picks.modules.0 (length n.modules) small.picked.modules.numbers.items small.picked.modules.places.items like.picks.modules.1 m
