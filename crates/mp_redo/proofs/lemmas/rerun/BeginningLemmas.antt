-- Modules at time 0: those that aren't touched sleep, in the states of the old run.
use Rattle.std.proofs.Common.{◌≡◌, ℕ, ◌-◌, ◌%◌, ◌<◌, ◌≤◌, Bool, true, false, List, Option, Some, None, IsSome, length, map, nat_lt, option_map, refl, ap, sym, subst, ◌∙◌, arith, inl, inr}
use Rattle.std.specs.Prelude.{◌&&◌, ◌==◌, ◌⊎◌, if◌then◌else◌, slice_index_or}
use Rattle.std.proofs.Math.Nat.{mod-le}
use Rattle.std.proofs.lemmas.Bool.{and_from, lt-ltb, eq-eqb}
use Rattle.std.proofs.lemmas.List.{get_or-map, length-map}
use Rattle.std.proofs.lemmas.Option.{none-some, same_Some}
use Rattle.mp_records.specs.declared.ports.Input.{Input}
use Rattle.mp_records.specs.declared.module_record.ModuleRecord.{ModuleRecord}
use Rattle.mp_modules.specs.storage.AnyModules.{start}
use Rattle.mp_modules.specs.Memories.{blank}
use Rattle.mp_netlist.specs.Slots.{slot_at}
use Rattle.mp_netlist.specs.Limits.{checkpoint_units}
use Rattle.mp_netlist.specs.Circuit.{Circuit, IsCircuit, wire_at, module_at}
use Rattle.mp_model.specs.Waves.{level}
use Rattle.mp_model.specs.Reach.{IsApart}
use Rattle.mp_model.proofs.EndsLemmas.{first_level}
use Rattle.mp_simulation.specs.bits.PortEvents.{source_of}
use Rattle.mp_partition.specs.declared.runs.checkpoint.Checkpoint.{Checkpoint}
use Rattle.mp_partition.specs.runs.Checkpoints.{kept_at, state_before, IsBorder}
use Rattle.mp_partition.specs.runs.Marks.{is_marked}
use Rattle.mp_partition.specs.runs.Outcomes.{Outcome}
use Rattle.mp_partition.specs.runs.Runs.{IsRun, checkpoint}
use Rattle.mp_depend.specs.work.Revisions.{IsRevision, IsKept}
use Rattle.mp_depend.specs.work.Work.{Differs, IsApartIn}
use Rattle.mp_depend.proofs.lemmas.work.LevelLemmas.{initials_same}
use Rattle.mp_depend.proofs.lemmas.work.StayLemmas.{built_same}
use Rattle.mp_depend.specs.recording.Keeping.{AreOldStates}
use Rattle.mp_depend.specs.recording.Overlays.{state_in}
use Rattle.mp_depend.specs.recording.Live.{IsWorking, AreAtWork}
use Rattle.mp_active.specs.agreement.Sleeping.{AreSleeping}
use Rattle.mp_active.specs.agreement.Reading.{late, AreAlike}
use Rattle.mp_active.proofs.lemmas.agreement.ReadingLemmas.{quiet_where_alike}
use Rattle.mp_simulation.specs.declared.run.stimuli.StimulusChange.{StimulusChange}
use Rattle.mp_active.specs.compare.ChangedStimuli.{AreSetAnew as AreThoseSetAnew}
use Rattle.mp_redo.specs.rerun.Following.{AreSetAnew}
use Rattle.mp_redo.specs.rerun.Windows.{AreTouched}
use Rattle.mp_redo.proofs.lemmas.rerun.StandingLemmas.{standing}

-- what changed stimuli set is to come
pub set_anew : (n : Circuit) (until : ℕ → ℕ) (t : ℕ) (ss : List StimulusChange) → AreThoseSetAnew n until t ss → AreSetAnew n until t ss
set_anew n until t ss are = record { listed = are.listed; each = are.each; set = are.set }

-- no time of a run has passed before time 0
nothing_before : (old new : Circuit) (m : ℕ) → (Differs old new m 0 ⊎ IsApartIn old new m 0 0) → ⊥
nothing_before old new m (inl differs) = let next = differs.before in omega (arith, next)
nothing_before old new m (inr apart) = let less = apart.2 in omega (arith, less)

module _ (old new : Circuit) (marks : List Bool) (touched : AreTouched old new marks) where
  -- the touched modules are at work
  pub at_work : AreAtWork old new 0 0 (λ m. is_marked marks m)
  at_work = record {
    works = λ m stands on. inl (touched.marked m on);
    rests = λ m stands off works. rest m (standing (module_at new m) stands).0 (standing (module_at new m) stands).1 off works;
  }
    where
      rest : (m : ℕ) (r : ModuleRecord) → module_at new m ≡ Some r → is_marked marks m ≡ false → IsWorking old new 0 m 0 → ⊥
      rest m r at off (inl is) = is.differ (touched.others m r at off ∙ sym at)
      rest m r at off (inr other) = nothing_before old new m other

  kept_by : (m : ℕ) (r : ModuleRecord) → module_at new m ≡ Some r → is_marked marks m ≡ false → IsKept old new m r
  kept_by m r at off = record { before = touched.others m r at off; after = at }

  module _ (old_ok : IsCircuit old) (new_ok : IsCircuit new) (revised : IsRevision old new) where
    -- all inputs have their initial levels at time 0
    inputs_stand : (n : Circuit) → IsCircuit n → (m k : ℕ) (i : Input) (r : ModuleRecord) → module_at n m ≡ Some r → k < length r.inputs → IsSome (wire_at n (slice_index_or r.inputs k i).wire.0)
    inputs_stand n ok m k i r at within = ((ok.modules_ok m r at).reads k i within).0

    first_alike : (m : ℕ) (r : ModuleRecord) → IsKept old new m r → AreAlike old new 0 (map source_of r.inputs)
    first_alike m r kept k d within =
        let none : Input = record { wire = record { 0 = 0 }; delay = 0 } in
        let long = length-map r.inputs source_of in
        let inside : k < length r.inputs = omega (arith, within, long) in
        let is : slice_index_or (map source_of r.inputs) k d ≡ source_of (slice_index_or r.inputs k none) = get_or-map source_of r.inputs k none d inside in
        subst (λ (source : ℕ × ℕ). late old source 0 ≡ late new source 0) (sym is) (first_late (slice_index_or r.inputs k none)
        (inputs_stand old old_ok m k none r kept.before inside) (inputs_stand new new_ok m k none r kept.after inside))
      where
        first_late : (i : Input) → IsSome (wire_at old i.wire.0) → IsSome (wire_at new i.wire.0) → late old (source_of i) 0 ≡ late new (source_of i) 0
        first_late i was is =
            let w = i.wire.0 in
            let past : 0 - i.delay ≡ 0 = omega arith in
            ap (level old w) past ∙ first_level old old_ok w
            ∙ initials_same old new revised w (wire_at old w) (wire_at new w) refl refl was is
            ∙ sym (first_level new new_ok w) ∙ ap (level new w) (sym past)

    pub first_quiet : (m : ℕ) (r : ModuleRecord) → IsKept old new m r → (u : ℕ) → u ≤ 0 → IsApart old new m u → ⊥
    first_quiet m r kept u low apart =
        let now : u ≡ 0 = omega (arith, low) in
        (quiet_where_alike old new old_ok new_ok revised m 0 r kept).1 (first_alike m r kept) (subst (λ k. IsApart old new m k) now apart)

    pub asleep : AreSleeping old new (λ m. is_marked marks m) (λ m. 0) 0
    asleep m r at off = record {
      kept = kept_by m r at off;
      begun = omega arith;
      agreed = λ u next. absurd (let no : ⊥ = omega (arith, next) in no);
      quiet = λ u from low. first_quiet m r (kept_by m r at off) u low;
    }

    -- the old run kept the states in which modules start
    module _ (run : Outcome) (is : IsRun old run) where
      first_border : (horizon : ℕ) → IsBorder horizon 0
      first_border horizon = let low = mod-le 0 (checkpoint_units horizon) in omega (arith, low)

      first_state : (m : ℕ) (r : ModuleRecord) → module_at old m ≡ Some r → state_in (slot_at run.kept m) 0 ≡ state_before old m r 0
      first_state m r at =
          by (slot_at run.kept m) (opened (nat_lt 0 run.horizon && 0 % checkpoint_units run.horizon == 0) (is.checkpoints m 0 ∙ told ∙ ap (option_map (λ (x : ModuleRecord). state_before old m x 0)) at))
        where
          test : (nat_lt 0 old.horizon && 0 % checkpoint_units old.horizon == 0) ≡ true
          test =
              and_from (nat_lt 0 old.horizon) (0 % checkpoint_units old.horizon == 0) (lt-ltb 0 old.horizon (let some = old_ok.horizon_low in omega (arith, some)))
              (eq-eqb (0 % checkpoint_units old.horizon) 0 (first_border old.horizon))

          told : checkpoint old m 0 ≡ option_map (λ (x : ModuleRecord). state_before old m x 0) (module_at old m)
          told = rw test refl

          opened : (test : Bool) → (if test then option_map (λ ks. kept_at ks 0 blank) (slot_at run.kept m) else None) ≡ Some (state_before old m r 0) →
              option_map (λ ks. kept_at ks 0 blank) (slot_at run.kept m) ≡ Some (state_before old m r 0)
          opened true e = e
          opened false e = absurd (none-some (state_before old m r 0) e)

          by : (slot : Option (List Checkpoint)) → option_map (λ ks. kept_at ks 0 blank) slot ≡ Some (state_before old m r 0) → state_in slot 0 ≡ state_before old m r 0
          by None e = absurd (none-some (state_before old m r 0) e)
          by (Some ks) e = same_Some (kept_at ks 0 blank) (state_before old m r 0) e

      pub old_states : AreOldStates new run 0 (λ m. is_marked marks m)
      old_states m r at off =
          let kept = kept_by m r at off in
          first_state m r kept.before ∙ ap start (built_same old new old_ok new_ok revised m r kept)
