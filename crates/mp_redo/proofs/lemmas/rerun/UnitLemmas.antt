-- A unit of a netlist that is evaluated again.
use Rattle.std.proofs.Common.{◌≡◌, ◌⊎◌, ℕ, ◌+◌, ◌-◌, ◌<◌, ◌≤◌, Bool, true, List, IsSome, slice_index_or, ap, sym, subst, ◌∙◌, arith, inl, inr}
use Rattle.std.specs.List.{Contains}
use Rattle.std.proofs.lemmas.Bool.{cases_Bool, both_ways}
use Rattle.mp_records.specs.declared.ids.ModuleId.{ModuleId}
use Rattle.mp_netlist.specs.Circuit.{Circuit, IsCircuit, module_at}
use Rattle.mp_kernel.specs.declared.datapath.level_change.LevelChange.{LevelChange}
use Rattle.mp_model.specs.Reach.{IsApart}
use Rattle.mp_partition.specs.runs.Marks.{is_marked}
use Rattle.mp_partition.specs.runs.Outcomes.{Outcome}
use Rattle.mp_simulation.specs.declared.units.netlist_simulation.NetlistSimulation.{NetlistSimulation}
use Rattle.mp_simulation.specs.units.NetlistSimulations.{IsSimulated, AreStimuli, CanPass, HasKeptNumbers}
use Rattle.mp_active.specs.excerpt.Excerpts.{excerpt}
use Rattle.mp_active.specs.excerpt.Numberings.{Numbering}
use Rattle.mp_active.specs.excerpt.Showing.{Shows}
use Rattle.mp_active.specs.excerpt.Setting.{AreSetOutside}
use Rattle.mp_active.proofs.lemmas.excerpt.RenumberingLemmas.{units_show}
use Rattle.mp_active.proofs.lemmas.excerpt.SettingLemmas.{sets_are_stimuli}
use Rattle.mp_active.proofs.lemmas.excerpt.SimulatedLemmas.{showing_simulates}
use Rattle.mp_active.proofs.lemmas.excerpt.ExcerptLemmas.{excerpt_is}
use Rattle.mp_active.specs.compare.Comparing.{seen_at, AreUnseen}
use Rattle.mp_depend.specs.work.Work.{block_of, IsWindow}
use Rattle.mp_depend.specs.recording.Recorders.{IsRecorder}
use Rattle.mp_depend.specs.recording.Live.{HaveBecomeLive}
use Rattle.mp_redo.specs.declared.rerun.activity.Activity.{Activity}
use Rattle.mp_redo.specs.declared.rerun.rerun.Rerun.{Rerun}
use Rattle.mp_redo.specs.rerun.Joining.{AreJoining, NoneIsApart, HaveJoined, HasLooked, HasSet}
use Rattle.mp_redo.specs.rerun.Reruns.{IsFollowed, IsRerunBy, IsRerunAt, active_of, on_of}
use Rattle.mp_redo.specs.rerun.Waking.{HaveWoken}
use Rattle.mp_redo.specs.rerun.Windows.{AreTouched, IsInWindow}
use Rattle.mp_redo.proofs.lemmas.rerun.KeptLemmas.{followed_on}

-- ---- modules join

pub same_active : (s looked : Rerun) → HasLooked s looked → (m : ℕ) → active_of looked m ≡ active_of s m
same_active s looked looks m = ap (λ (x : Rerun). is_marked x.activity.active.items m) looks

module _ (old new : Circuit) (run : Outcome) (from time : ℕ) (s looked woken : Rerun) (some : 0 < time) (is : IsInWindow old new run from (time - 1) s)
    (looks : HasLooked s looked) (joins : AreJoining old new (active_of s) time looked.activity.joining.items)
    (wakes : HaveWoken looked woken) (become : HaveBecomeLive new looked.activity.joining.items (active_of looked) (active_of woken)) where
  -- who still sleeps isn't apart
  pub none_apart : NoneIsApart old new (active_of woken) time
  none_apart m r at off apart = elim (cases_Bool (active_of s m)) as (λ _. ⊥) [
    | inl on ↦ both_ways (active_of woken m) off (become.stay m (same_active s looked looks m ∙ on))
    | inr asleep ↦ both_ways (active_of woken m) off (become.join m (joins.all m r at asleep apart))
  ]

  module _ (was : HaveJoined looked.activity.joining.items looked.activity.joined.items woken.activity.joined.items) where
    same_joined : looked.activity.joined.items ≡ s.activity.joined.items
    same_joined = ap (λ (x : Rerun). x.activity.joined.items) looks

    -- a module that is listed has joined before, or joins now
    joined_when : (m : ℕ) → Contains woken.activity.joined.items (record { 0 = m }) → Contains s.activity.joined.items (record { 0 = m }) ⊎ Contains looked.activity.joining.items (record { 0 = m })
    joined_when m has = elim ((was m).0 has) as (λ _. Contains s.activity.joined.items (record { 0 = m }) ⊎ Contains looked.activity.joining.items (record { 0 = m })) [
      | inl before ↦ inl (subst (λ (ids : List ModuleId). Contains ids (record { 0 = m })) same_joined before)
      | inr now ↦ inr now
    ]

    joined_before : (m : ℕ) → Contains s.activity.joined.items (record { 0 = m }) → Contains woken.activity.joined.items (record { 0 = m })
    joined_before m before = (was m).1 (inl (subst (λ (ids : List ModuleId). Contains ids (record { 0 = m })) (sym same_joined) before))

    become_live : HaveBecomeLive new woken.activity.joined.items is.live (active_of woken)
    become_live = record {
      stand = λ m has. elim (joined_when m has) as (λ _. IsSome (module_at new m)) [ inl before ↦ is.joined.stand m before | inr now ↦ joins.stand m now ];
      stay = λ m on. become.stay m (same_active s looked looks m ∙ is.joined.stay m on);
      join = λ m has. elim (joined_when m has) as (λ _. active_of woken m ≡ true) [
        | inl before ↦ become.stay m (same_active s looked looks m ∙ is.joined.join m before)
        | inr now ↦ become.join m now
      ];
      others = λ m none. become.others m (λ now. none ((was m).1 (inr now))) ∙ same_active s looked looks m ∙ is.joined.others m (λ before. none (joined_before m before));
    }

    joined_apart : (m : ℕ) → Contains woken.activity.joined.items (record { 0 = m }) → (u : ℕ) × (from ≤ u) × (u ≤ time) × IsApart old new m u
    joined_apart m has = elim (joined_when m has) as (λ _. (u : ℕ) × (from ≤ u) × (u ≤ time) × IsApart old new m u) [
      | inl before ↦ let was = is.apart m before in let end = was.2 in (was.0, was.1, omega (arith, end), was.3)
      | inr now ↦ let begun = is.begun in (time, omega (arith, begun, some), omega arith, joins.apart m now)
    ]

    -- when the unit is over
    pub unit_over : (set : Rerun) → HasSet woken set → AreUnseen (time + 1) looked.comparison → time < s.window_end → (simulation : NetlistSimulation)
        → IsRerunAt old new run (block_of new.horizon from) time (record set { simulation = simulation }) → IsInWindow old new run from time (record set { simulation = simulation })
    unit_over set sets before low simulation over = record {
      is = over;
      unseen = λ x. subst (λ (k : ℕ). k < time + 1) (sym (same_seen x)) (before x);
      touched = subst (λ (a : Activity). AreTouched old new a.touched.items) (sym same_activity) (subst (λ (marks : List Bool). AreTouched old new marks) (sym same_touched) is.touched);
      window = subst (IsWindow new from) (sym same_end) is.window;
      begun = let begun = is.begun in omega (arith, begun);
      within = subst (λ (end : ℕ). time < end) (sym same_end) low;
      live = is.live;
      work = is.work;
      recorder = subst (IsRecorder old new run (λ m. block_of new.horizon from) from is.live) (sym same_history) is.recorder;
      joined = subst (λ (a : Activity). HaveBecomeLive new a.joined.items is.live (is_marked a.active.items)) (sym same_activity) become_live;
      apart = subst (λ (a : Activity). (m : ℕ) → Contains a.joined.items (record { 0 = m }) → (u : ℕ) × (from ≤ u) × (u ≤ time) × IsApart old new m u) (sym same_activity) joined_apart;
    }
      where
        same_activity : set.activity ≡ woken.activity
        same_activity = ap (λ (x : Rerun). x.activity) sets

        same_touched : woken.activity.touched.items ≡ s.activity.touched.items
        same_touched = ap (λ (x : Rerun). x.activity.touched.items) wakes.kept ∙ ap (λ (x : Rerun). x.activity.touched.items) looks

        same_end : set.window_end ≡ s.window_end
        same_end = ap (λ (x : Rerun). x.window_end) sets ∙ ap (λ (x : Rerun). x.window_end) wakes.kept ∙ ap (λ (x : Rerun). x.window_end) looks

        same_history : set.recorder ≡ s.recorder
        same_history = ap (λ (x : Rerun). x.recorder) sets ∙ ap (λ (x : Rerun). x.recorder) wakes.kept ∙ ap (λ (x : Rerun). x.recorder) looks

        same_seen : (x : ℕ) → seen_at set.comparison x ≡ seen_at looked.comparison x
        same_seen x = ap (λ (y : Rerun). seen_at y.comparison x) sets ∙ ap (λ v. slice_index_or v.items x 0) wakes.seen

-- ---- what changes is applied, and modules fire

module _ (old new : Circuit) (ok : IsCircuit new) (run : Outcome) (time latest : ℕ) (some : 0 < time) (below : time < new.horizon) (woken set : Rerun) (sets : HasSet woken set)
    (again : IsRerunAt old new run latest (time - 1) woken)
    (followed : (numbering : Numbering) (since : ℕ → ℕ) → IsRerunBy old new run numbering since (time - 1) woken → IsFollowed old new run numbering since time set) where
  after : IsFollowed old new run again.numbering again.since time set
  after = followed again.numbering again.since again.is

  shown : Shows new (active_of set) (on_of set) again.numbering (time - 1) set.simulation
  shown = subst (λ (x : Rerun). Shows new (active_of x) (on_of x) again.numbering (time - 1) x.simulation) (sym sets) again.is.shows

  simulated : IsSimulated (excerpt new (active_of set) (on_of set)) (time - 1) set.simulation
  simulated = showing_simulates new ok (active_of set) (on_of set) after.ports again.numbering (time - 1) set.simulation (omega (arith, below)) shown

  -- what is set can change
  pub can_pass : (bits : List ℕ) (levels : List LevelChange) → AreSetOutside new (active_of set) (on_of set) bits levels time → CanPass bits levels time set.simulation
  can_pass bits levels outside = record {
    n = excerpt new (active_of set) (on_of set);
    ok = excerpt_is new ok (active_of set) (on_of set) after.ports;
    t = time - 1;
    now = omega (arith, some);
    is = simulated;
    stimuli = sets_are_stimuli new ok (active_of set) (on_of set) after.ports bits levels time below outside;
  }

  -- when it has changed, and modules have answered
  pub unit_shown : (bits : List ℕ) (levels : List LevelChange) → AreSetOutside new (active_of set) (on_of set) bits levels time → (simulation : NetlistSimulation)
      → ((n : Circuit) (t : ℕ) → IsCircuit n → time ≡ t + 1 → IsSimulated n t set.simulation → AreStimuli n bits levels time → IsSimulated n (t + 1) simulation) → HasKeptNumbers set.simulation simulation
      → IsRerunAt old new run latest time (record set { simulation = simulation })
  unit_shown bits levels outside simulation passes kept = record {
    numbering = again.numbering;
    since = again.since;
    is = record {
      shows = units_show new ok (active_of set) (on_of set) after.ports again.numbering (time - 1) time set.simulation simulation below shown passed kept;
      followed = followed_on old new run again.numbering again.since time set simulation kept after;
    };
    early = again.early;
  }
    where
      next : time - 1 + 1 ≡ time
      next = omega (arith, some)

      passed : IsSimulated (excerpt new (active_of set) (on_of set)) time simulation
      passed = subst (λ (t : ℕ). IsSimulated (excerpt new (active_of set) (on_of set)) t simulation) next
          (passes (excerpt new (active_of set) (on_of set)) (time - 1) (excerpt_is new ok (active_of set) (on_of set) after.ports) (omega (arith, some)) simulated
          (sets_are_stimuli new ok (active_of set) (on_of set) after.ports bits levels time below outside))

-- ---- nothing is set, and no module joins

-- when such a unit is over
pub quiet_over : (old new : Circuit) (run : Outcome) (from time : ℕ) (s set : Rerun) → 0 < time → IsInWindow old new run from (time - 1) s → HasSet s set → time < s.window_end → (simulation : NetlistSimulation)
    → IsRerunAt old new run (block_of new.horizon from) time (record set { simulation = simulation }) → IsInWindow old new run from time (record set { simulation = simulation })
quiet_over old new run from time s set some is sets low simulation over = record {
  is = over;
  unseen = λ x. let before = is.unseen x in let same : seen_at set.comparison x ≡ seen_at s.comparison x = ap (λ (y : Rerun). seen_at y.comparison x) sets in omega (arith, before, same);
  touched = subst (λ (a : Activity). AreTouched old new a.touched.items) (sym same_activity) is.touched;
  window = subst (IsWindow new from) (sym same_end) is.window;
  begun = let begun = is.begun in omega (arith, begun);
  within = subst (λ (end : ℕ). time < end) (sym same_end) low;
  live = is.live;
  work = is.work;
  recorder = subst (IsRecorder old new run (λ m. block_of new.horizon from) from is.live) (sym (ap (λ (x : Rerun). x.recorder) sets)) is.recorder;
  joined = subst (λ (a : Activity). HaveBecomeLive new a.joined.items is.live (is_marked a.active.items)) (sym same_activity) is.joined;
  apart = subst (λ (a : Activity). (m : ℕ) → Contains a.joined.items (record { 0 = m }) → (u : ℕ) × (from ≤ u) × (u ≤ time) × IsApart old new m u) (sym same_activity) apart;
}
  where
    same_activity : set.activity ≡ s.activity
    same_activity = ap (λ (x : Rerun). x.activity) sets

    same_end : set.window_end ≡ s.window_end
    same_end = ap (λ (x : Rerun). x.window_end) sets

    apart : (m : ℕ) → Contains s.activity.joined.items (record { 0 = m }) → (u : ℕ) × (from ≤ u) × (u ≤ time) × IsApart old new m u
    apart m has = let was = is.apart m has in let end = was.2 in (was.0, was.1, omega (arith, end), was.3)
