-- A re-evaluation that has ended has the last states and the waves of the new netlist.
use Rattle.std.proofs.Common.{◌≡◌, ℕ, ◌+◌, ◌-◌, ◌<◌, ◌≤◌, Bool, true, false, not, cond, Option, Some, None, IsSome, option_map, length, max, refl, ap, sym, subst, ◌∙◌, arith, inl, inr}
use Rattle.std.specs.Prelude.{◌&&◌, ◌==◌}
use Rattle.std.proofs.lemmas.Bool.{cases_lt, cases_eq, both_ways, lt-ltb, eqb-true, eq-eqb}
use Rattle.mp_wave.specs.Waveform.{Waveform, level_of, wave_upto}
use Rattle.mp_wave.proofs.ChangesLemmas.{levels_of_wave, form_of_wave}
use Rattle.mp_wave.proofs.WaveformLemmas.{same_levels}
use Rattle.mp_records.specs.declared.ids.ModuleId.{ModuleId}
use Rattle.mp_records.specs.declared.wire_record.WireRecord.{WireRecord}
use Rattle.mp_records.specs.declared.module_record.ModuleRecord.{ModuleRecord}
use Rattle.mp_netlist.specs.declared.driver.Driver.{Driver}
use Rattle.mp_netlist.specs.declared.driver.Driver.TheVariants.{Nothing, Stimulus, Port}
use Rattle.mp_netlist.specs.Circuit.{Circuit, IsCircuit, wire_at, module_at}
use Rattle.mp_netlist.specs.Drivers.{driver, is_port}
use Rattle.mp_netlist.proofs.DriverLemmas.{finds_only_ports, driven_stands}
use Rattle.mp_netlist.specs.Limits.{checkpoint_units}
use Rattle.mp_netlist.proofs.LimitLemmas.{units_positive}
use Rattle.mp_model.proofs.SlotLemmas.{some_within}
use Rattle.mp_model.specs.Levels.{initial_of}
use Rattle.mp_model.specs.Waves.{level, state, slot_wave}
use Rattle.mp_kernel.specs.events.Toggling.{wave_at}
use Rattle.mp_partition.specs.runs.Outcomes.{Outcome, AreSlots}
use Rattle.mp_partition.specs.runs.Checkpoints.{IsBorder}
use Rattle.mp_partition.specs.runs.Runs.{AreCheckpoints, IsRun, end_memory}
use Rattle.mp_partition.proofs.lemmas.runs.OutcomeLemmas.{slot_is, no_wave, no_module, checkpoint_is}
use Rattle.mp_simulation.specs.declared.units.netlist_simulation.NetlistSimulation.{NetlistSimulation}
use Rattle.mp_simulation.specs.units.DataLevels.{has_data, is_data, is_bit_wire}
use Rattle.mp_simulation.specs.units.DataWaves.{building_at}
use Rattle.mp_simulation.proofs.lemmas.units.LateLemmas.{late_bit, own_level}
use Rattle.mp_simulation.specs.run.Runs.{wave_for}
use Rattle.mp_depend.specs.work.Revisions.{IsRevision}
use Rattle.mp_depend.specs.work.Work.{block_of}
use Rattle.mp_partition.proofs.lemmas.runs.MultipleLemmas.{whole_from}
use Rattle.mp_active.specs.agreement.Reading.{QuietWhereAlike, SleepersReadAlike}
use Rattle.mp_active.specs.agreement.Sleeping.{AreSleeping, SleepersAgree, SleepersSleepOn}
use Rattle.mp_active.specs.agreement.Sources.{WiresAgree}
use Rattle.mp_active.specs.excerpt.Excerpts.{excerpt, ExcerptsAreCircuits, ExcerptsHaveStates}
use Rattle.mp_active.specs.excerpt.Numberings.{Numbering}
use Rattle.mp_active.specs.excerpt.Showing.{Shows, ShowingSimulates}
use Rattle.mp_active.specs.excerpt.Levels.{shown_level}
use Rattle.mp_active.proofs.lemmas.excerpt.ExcerptLemmas.{length_active, module_active}
use Rattle.mp_redo.specs.declared.rerun.rerun.Rerun.{Rerun}
use Rattle.mp_redo.specs.rerun.Reruns.{active_of, on_of, until_of, IsRerunBy}
use Rattle.mp_active.specs.compare.Comparing.{wave_or_none, old_wave}
use Rattle.mp_active.specs.compare.OldRuns.{RunsAreOld}
use Rattle.mp_depend.specs.OldWaves.{old_from}
use Rattle.mp_redo.specs.rerun.Finishing.{HaveEnds, HaveWaves}
use Rattle.mp_redo.specs.rerun.Settling.{IsSettled}
use Rattle.mp_redo.specs.rerun.Splicing.{switched, IsSplicedAt}
use Rattle.mp_redo.proofs.lemmas.rerun.SettlingLemmas.{sleeping_at, back, held}
use Rattle.mp_redo.proofs.lemmas.rerun.SplicingLemmas.{switched_before, switched_after, upto_held}

-- levels that are the same up to a time have one wave
wave_same : (one other : ℕ → ℕ) (last : ℕ) → ((t : ℕ) → t ≤ last → one t ≡ other t) → wave_upto one last ≡ wave_upto other last
wave_same one other last same = same_levels (wave_upto one last) (wave_upto other last) (form_of_wave one last) (form_of_wave other last) (λ t. elim (cases_lt last t) as (λ _. level_of (wave_upto one last) t ≡ level_of (wave_upto other last) t) [
  | inl past ↦ upto_held one last t (omega arith) ∙ same last (omega arith) ∙ sym (upto_held other last t (omega arith))
  | inr within ↦ levels_of_wave one last t within ∙ same t within ∙ sym (levels_of_wave other last t within)
])

-- where a level stays after a time its wave up to then is that up to a later one
wave_longer : (level : ℕ → ℕ) (t last : ℕ) → t ≤ last → ((u : ℕ) → t ≤ u → u ≤ last → level u ≡ level t) → wave_upto level t ≡ wave_upto level last
wave_longer level t last le stays = same_levels (wave_upto level t) (wave_upto level last) (form_of_wave level t) (form_of_wave level last) (λ u. elim (cases_lt t u) as (λ _. level_of (wave_upto level t) u ≡ level_of (wave_upto level last) u) [
  | inl past ↦ upto_held level t u (omega (arith, past)) ∙ elim (cases_lt last u) as (λ _. level t ≡ level_of (wave_upto level last) u) [
    | inl over ↦ sym (stays last le (omega arith)) ∙ sym (upto_held level last u (omega (arith, over)))
    | inr before ↦ sym (stays u (omega (arith, past)) before) ∙ sym (levels_of_wave level last u before)
  ]
  | inr within ↦ levels_of_wave level t u within ∙ sym (levels_of_wave level last u (omega (arith, within, le)))
])

-- a wire of width 1 has a level of one bit
bit_level : (n : Circuit) → IsCircuit n → (w : ℕ) → is_data n w ≡ false → (u : ℕ) → level n w u ≤ 1
bit_level n ok w none u = subst (λ k. k ≤ 1) (own_level n w u) (late_bit n ok (w, 0) u none)

-- a wire that is on has its wave so far in the simulation
abbrev pub wave_so_far : Circuit → ℕ → ℕ → Option WireRecord → Option Waveform
wave_so_far n t w slot = option_map (λ (r : WireRecord). wave_upto (level n w) t) slot

pub shown_is : (n : Circuit) → IsCircuit n → (active on : ℕ → Bool) (numbering : Numbering) (t : ℕ) (s : NetlistSimulation) → Shows n active on numbering t s → (w : ℕ) → w < length n.wires → on w ≡ true →
    wave_for (wire_at n w) (Some (wave_at s.bits.simulator.waves w)) (Some (building_at s.wires.waves.items w)) ≡ wave_so_far n t w (wire_at n w)
shown_is n ok active on numbering t s shows w low lit = by_slot (wire_at n w) refl
  where
    shown_same : wave_upto (shown_level n on w) t ≡ wave_upto (level n w) t
    shown_same = ap (λ b. wave_upto (λ u. cond b (level n w u) (initial_of (wire_at n w))) t) lit

    by_slot : (slot : Option WireRecord) → wire_at n w ≡ slot →
        wave_for slot (Some (wave_at s.bits.simulator.waves w)) (Some (building_at s.wires.waves.items w)) ≡ wave_so_far n t w slot
    by_slot None at = refl
    by_slot (Some r) at = by_width (r.width == 1) refl
      where
        by_width : (b : Bool) → (r.width == 1) ≡ b →
            cond b (Some (wave_at s.bits.simulator.waves w)) (Some (building_at s.wires.waves.items w).wave) ≡ Some (wave_upto (level n w) t)
        by_width true one =
            let none : is_data n w ≡ false = ap has_data at ∙ ap not one in
            let traced : is_bit_wire n w ≡ true = ap (λ b. b && not (is_data n w)) (lt-ltb w (length n.wires) low) ∙ ap not none in
            let fits : (u : ℕ) → shown_level n on w u ≤ 1 = λ u. subst (λ b. cond b (level n w u) (initial_of (wire_at n w)) ≤ 1) (sym lit) (bit_level n ok w none u) in
            ap (λ (v : Waveform). Some v) ((shows.bits.traces w traced).whole fits ∙ shown_same)
        by_width false other =
            let has : is_data n w ≡ true = ap has_data at ∙ ap not other in
            ap (λ (v : Waveform). Some v) (shows.wires.waves w has ∙ shown_same)

-- from when on a wave is that of the old run
pub from_start : (until end : ℕ) → old_from until end ≡ 0 → until ≡ 0
from_start until end none = by (until == 0) refl
  where
    by : (b : Bool) → (until == 0) ≡ b → until ≡ 0
    by true e = eqb-true until 0 e
    by false e = let no : max until end ≡ 0 = sym (ap (λ b. cond b 0 (max until end)) e) ∙ none in omega (arith, no)

from_later : (until end : ℕ) → 0 < end → 0 < old_from until end → old_from until end ≡ max until end
from_later until end some later = by (until == 0) refl
  where
    by : (b : Bool) → (until == 0) ≡ b → old_from until end ≡ max until end
    by true e = let no : old_from until end ≡ 0 = ap (λ b. cond b 0 (max until end)) e in absurd (omega (arith, no, later))
    by false e = ap (λ b. cond b 0 (max until end)) e

from_own : (until end : ℕ) → 0 < old_from until end → 0 < until
from_own until end later = by (until == 0) refl
  where
    by : (b : Bool) → (until == 0) ≡ b → 0 < until
    by true e = let no : old_from until end ≡ 0 = ap (λ b. cond b 0 (max until end)) e in absurd (omega (arith, no, later))
    by false e = elim (cases_eq until 0) as (λ _. 0 < until) [
      | inl none ↦ let yes = eq-eqb until 0 none in absurd (both_ways (until == 0) e yes)
      | inr some ↦ omega (arith, some)
    ]

module _ (old new : Circuit) (old_ok : IsCircuit old) (ok : IsCircuit new) (revised : IsRevision old new) (run : Outcome) (was : IsRun old run) (numbering : Numbering) (since : ℕ → ℕ) (t : ℕ) (below : t < new.horizon) (s : Rerun)
    (is : IsRerunBy old new run numbering since t s) (settled : t + 1 < new.horizon → IsSettled new run (t + 1) s) (runs : RunsAreOld) (readers : SleepersReadAlike) (wires : WiresAgree) (alike : QuietWhereAlike)
    (sleep_on : SleepersSleepOn) where
  last : new.horizon - 1 < new.horizon
  last = omega (arith, below)

  sleeping_last : AreSleeping old new (active_of s) since (new.horizon - 1)
  sleeping_last = sleeping_at old new old_ok ok revised run numbering since t below s is settled was runs readers wires alike sleep_on (new.horizon - 1) (omega (arith, below)) last

  -- an active module has its last state
  state_last : (m : ℕ) (r : ModuleRecord) → module_at new m ≡ Some r → active_of s m ≡ true → state new m t ≡ state new m (new.horizon - 1)
  state_last m r at active = elim (cases_lt (t + 1) new.horizon) as (λ _. state new m t ≡ state new m (new.horizon - 1)) [
    | inl early ↦ absurd ((settled early).nobody m (some_record (module_at new m) r at) active)
    | inr over ↦ let e : t ≡ new.horizon - 1 = omega (arith, over, below) in ap (state new m) e
  ]
    where
      some_record : (o : Option ModuleRecord) (r : ModuleRecord) → o ≡ Some r → IsSome o
      some_record None r at = let no : ⊥ = cc in absurd no
      some_record (Some k) r at = refl

  pub ends_left : ExcerptsAreCircuits → ExcerptsHaveStates → ShowingSimulates → SleepersAgree → HaveEnds new run s.activity.active.items s.simulation
  ends_left circuits states simulates agree = record {
    shown = excerpt new (active_of s) (on_of s);
    form = circuits new ok (active_of s) (on_of s) is.followed.ports;
    time = t;
    simulated = simulates new ok (active_of s) (on_of s) is.followed.ports numbering t s.simulation below is.shows;
    places = length_active (active_of s) 0 new.modules;
    stand = λ m r at active. module_active new (active_of s) (on_of s) m active ∙ at;
    awake = λ m r at active. states new ok (active_of s) (on_of s) is.followed.ports m t r active at below ∙ state_last m r at active;
    asleep = λ m r at quiet.
        let sleeps = sleeping_last m r at quiet in
        was.ends m
        ∙ ap (option_map (λ (x : ModuleRecord). state old m (old.horizon - 1))) sleeps.kept.before
        ∙ ap (λ h. Some (state old m (h - 1))) (sym revised.horizon)
        ∙ ap Some (agree old new old_ok ok revised (since m) (new.horizon - 1) m r sleeps (new.horizon - 1) sleeps.begun (omega arith))
        ∙ sym (ap (option_map (λ (x : ModuleRecord). state new m (new.horizon - 1))) at);
  }

  -- a wire that has always had its old levels stands in the old netlist
  stood : (w : ℕ) → until_of s w ≡ 0 → IsSome (wire_at new w) → IsSome (wire_at old w)
  stood w always stands = by (driver new w) refl
    where
      awake : (m : ModuleId) (p : ℕ) → driver new w ≡ Port m p → (active : Bool) → active_of s m.0 ≡ active → IsSome (wire_at old w)
      awake m p port true active = let until = is.followed.sources.awake w p m port active in absurd (omega arith)
      awake m p port false active =
          let drives = finds_only_ports new w p m port in
          let kept = (is.followed.sleeping m.0 drives.part drives.stands active).kept in
          driven_stands old old_ok m.0 p w (record { part = drives.part; stands = kept.before; output = drives.output })

      other : is_port (driver new w) ≡ false → IsSome (wire_at old w)
      other none = elim (is.followed.sources.others w none) as (λ _. IsSome (wire_at old w)) [
        | inl apart ↦ absurd (omega arith)
        | inr same ↦ elim same.1 as (λ _. IsSome (wire_at old w)) [
          | inl alike ↦ alike.before
          | inr past ↦ let low = some_within new.wires w stands in absurd (omega (arith, low, past))
        ]
      ]

      by : (d : Driver) → driver new w ≡ d → IsSome (wire_at old w)
      by Nothing e = other (ap is_port e)
      by Stimulus e = other (ap is_port e)
      by (Port m p) e = awake m p e (active_of s m.0) refl

  -- ---- waves
  back_at : (w u : ℕ) → until_of s w ≤ u → u < new.horizon → level old w u ≡ level new w u
  back_at w u from low = back old new old_ok ok revised run numbering since t below s is settled was runs readers wires alike sleep_on w u from low

  held_at : (w u : ℕ) → t ≤ u → u < new.horizon → u < until_of s w → level new w u ≡ level new w t
  held_at w u from low early = held old new old_ok ok revised run numbering since t below s is settled w u from low early

  -- the wave in the simulation
  abbrev wave_there : ℕ → Option Waveform
  wave_there w = wave_for (wire_at new w) (Some (wave_at s.simulation.bits.simulator.waves w)) (Some (building_at s.simulation.wires.waves.items w))

  there : (w : ℕ) → w < length new.wires → 0 < until_of s w → wave_there w ≡ wave_so_far new t w (wire_at new w)
  there w low own = shown_is new ok (active_of s) (on_of s) numbering t s.simulation is.shows w low (is.followed.lit w own)

  -- it is whole
  whole : (w : ℕ) → w < length new.wires → 0 < until_of s w → new.horizon ≤ max (until_of s w) (t + 1) → wave_there w ≡ slot_wave new w (wire_at new w)
  whole w low own long = there w low own ∙ by (wire_at new w)
    where
      stays : (u : ℕ) → t ≤ u → u ≤ new.horizon - 1 → level new w u ≡ level new w t
      stays u from within = elim (cases_lt t u) as (λ _. level new w u ≡ level new w t) [
        | inl later ↦ held_at w u from (omega (arith, within, below)) (omega (arith, later, within, long, below))
        | inr now ↦ let e : u ≡ t = omega (arith, now, from) in ap (level new w) e
      ]

      by : (slot : Option WireRecord) → wave_so_far new t w slot ≡ slot_wave new w slot
      by None = refl
      by (Some r) = ap (λ (v : Waveform). Some v) (wave_longer (level new w) t (new.horizon - 1) (omega (arith, below)) stays)

  -- or the old run's goes on with it
  goes_on : (w : ℕ) → w < length new.wires → 0 < until_of s w → (from : ℕ) → from ≡ max (until_of s w) (t + 1) → IsSome (wire_at new w) → IsSplicedAt new run w from (wave_there w)
  goes_on w low own from is_from stands = record {
    some = subst IsSome (sym (there w low own)) (some_wave (wire_at new w) stands);
    levels = λ u within. elim (cases_lt u from) as (λ _. switched from (level_of (wave_or_none (wave_there w))) (level_of (old_wave run w)) u ≡ level new w u) [
      | inl before ↦
          switched_before from (level_of (wave_or_none (wave_there w))) (level_of (old_wave run w)) u before
          ∙ ap (λ (o : Option Waveform). level_of (wave_or_none o) u) (there w low own) ∙ so_far u within before (wire_at new w) stands
      | inr after ↦
          let horizon = revised.horizon in
          switched_after from (level_of (wave_or_none (wave_there w))) (level_of (old_wave run w)) u after
          ∙ sym (runs old old_ok run was u (omega (arith, horizon, within)) w u (omega arith)) ∙ back_at w u (omega (arith, is_from, after)) within
    ];
  }
    where
      some_wave : (slot : Option WireRecord) → IsSome slot → IsSome (wave_so_far new t w slot)
      some_wave None stands = let no : ⊥ = cc in absurd no
      some_wave (Some r) stands = refl

      so_far : (u : ℕ) → u < new.horizon → u < from → (slot : Option WireRecord) → IsSome slot → level_of (wave_or_none (wave_so_far new t w slot)) u ≡ level new w u
      so_far u within before None some = let no : ⊥ = cc in absurd no
      so_far u within before (Some r) some = elim (cases_lt t u) as (λ _. level_of (wave_upto (level new w) t) u ≡ level new w u) [
        | inl later ↦ upto_held (level new w) t u (omega (arith, later)) ∙ sym (held_at w u (omega (arith, later)) within (omega (arith, later, before, is_from)))
        | inr now ↦ levels_of_wave (level new w) t u now
      ]

  pub waves_left : HaveWaves new run s.comparison.sources.items (t + 1) s.simulation
  waves_left = record {
    places = is.followed.numbered.wires;
    toggles = is.shows.bits.wires;
    built = is.shows.wires.wires;
    old = λ w always stands. was.waves w ∙ both w always (wire_at old w) (stood w always stands) (wire_at new w) stands;
    shown = λ w low long.
        let some = below in
        let later : 0 < old_from (until_of s w) (t + 1) = omega (arith, long, some) in
        let e = from_later (until_of s w) (t + 1) (omega arith) later in
        whole w low (from_own (until_of s w) (t + 1) later) (omega (arith, e, long));
    spliced = λ w low later early. goes_on w low (from_own (until_of s w) (t + 1) later) (old_from (until_of s w) (t + 1)) (from_later (until_of s w) (t + 1) (omega arith) later);
  }
    where
      both : (w : ℕ) → until_of s w ≡ 0 → (before : Option WireRecord) → IsSome before → (after : Option WireRecord) → IsSome after → slot_wave old w before ≡ slot_wave new w after
      both w always None some after too = let no : ⊥ = cc in absurd no
      both w always (Some r) some None too = let no : ⊥ = cc in absurd no
      both w always (Some r) some (Some k) too =
          ap (λ h. Some (wave_upto (level old w) (h - 1))) (sym revised.horizon)
          ∙ ap (λ (v : Waveform). Some v) (wave_same (level old w) (level new w) (new.horizon - 1) (λ u within. back_at w u (omega (arith, always)) (omega (arith, within, below))))

-- the run of a netlist from its parts
pub run_made : (n : Circuit) (run : Outcome) → run.horizon ≡ n.horizon → AreSlots (length n.wires) (λ w. slot_wave n w (wire_at n w)) run.waves → AreSlots (length n.modules) (end_memory n) run.ends → AreCheckpoints n run.kept → IsRun n run
run_made n run same waves ends kept = record {
  horizon = same;
  waves = λ w. slot_is (length n.wires) (λ k. slot_wave n k (wire_at n k)) run.waves (no_wave n) waves w;
  ends = λ m. slot_is (length n.modules) (end_memory n) run.ends (λ k past. no_module n (λ (r : ModuleRecord). state n k (n.horizon - 1)) k past) ends m;
  checkpoints = λ m c. checkpoint_is n m c run same kept;
}

-- each border below the horizon is up to the last block's begin
pub last_block : (new : Circuit) (b : ℕ) → IsBorder new.horizon b → b < new.horizon → b ≤ block_of new.horizon (new.horizon - 1)
last_block new b border below = whole_from (checkpoint_units new.horizon) b (new.horizon - 1) (units_positive new.horizon) border (omega arith)
