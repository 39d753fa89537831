-- Where no input of a module has an event its state stays, and so does the level that each output leads to.
use Rattle.std.proofs.Common.{◌≡◌, ℕ, ◌+◌, ◌<◌, ◌≤◌, false, List, Option, Some, None, zero, suc, refl, ap, sym, subst, ◌∙◌, arith, inl, inr}
use Rattle.std.specs.List.{list_any}
use Rattle.std.proofs.lemmas.Bool.{cases_eq, cases_lt}
use Rattle.mp_wave.specs.Waveform.{level_of, last_time}
use Rattle.mp_modules.specs.declared.memory.Memory.{Memory}
use Rattle.mp_modules.specs.Memories.{output_of}
use Rattle.mp_modules.specs.storage.AnyModules.{step}
use Rattle.mp_modules.specs.storage.QuietAny.{settled_stays, stepped_stays}
use Rattle.mp_records.specs.declared.ports.Input.{Input}
use Rattle.mp_records.specs.declared.module_record.ModuleRecord.{ModuleRecord}
use Rattle.mp_records.specs.Outputs.{delay_of}
use Rattle.mp_netlist.specs.declared.driver.Driver.{Driver}
use Rattle.mp_netlist.specs.declared.driver.Driver.TheVariants.{Nothing, Stimulus, Port}
use Rattle.mp_netlist.specs.Slots.{slot_at}
use Rattle.mp_netlist.specs.Circuit.{Circuit, IsCircuit, wire_at, module_at}
use Rattle.mp_netlist.specs.Drivers.{driver}
use Rattle.mp_model.specs.declared.cell.Cell.{Cell}
use Rattle.mp_model.specs.Levels.{built, inputs_by}
use Rattle.mp_model.specs.Tracks.{Progress}
use Rattle.mp_model.specs.Evaluations.{IsReached, IsOpen, IsOnTrack, AreTracks, IsCellOf, AreCells, delay_in, delivered, event_at}
use Rattle.mp_model.specs.Waves.{level, state}
use Rattle.mp_model.proofs.BehaviourLemmas.{satisfies}
use Rattle.mp_model.proofs.CellsLemmas.{IsCellOf-same}
use Rattle.mp_model.proofs.InputLemmas.{inputs_stay}
use Rattle.mp_model.proofs.TrackLemmas.{stays}
use Rattle.mp_model.proofs.TracksLemmas.{IsTrackOf-keep}
use Rattle.mp_model.proofs.EvaluationLemmas as units

-- where the inputs stay, the state stays
pub same_inputs : (n : Circuit) → IsCircuit n → (m u : ℕ) (r : ModuleRecord) → module_at n m ≡ Some r → inputs_by n (level n) r (u + 1) ≡ inputs_by n (level n) r u → state n m (u + 1) ≡ state n m u
same_inputs n ok m zero r at same =
    let part = built n r in
    let first = (satisfies n ok).settled m r at in
    (satisfies n ok).stepped m 0 r at ∙ ap (step part (state n m 0)) same
    ∙ ap (λ (s : Memory). step part s (inputs_by n (level n) r 0)) first ∙ settled_stays part (inputs_by n (level n) r 0) ∙ sym first
same_inputs n ok m (suc v) r at same =
    let part = built n r in
    let x = inputs_by n (level n) r (suc v) in
    let e : v + 1 ≡ suc v = omega arith in
    let before : state n m (suc v) ≡ step part (state n m v) x = subst (λ k. state n m k ≡ step part (state n m v) (inputs_by n (level n) r k)) e ((satisfies n ok).stepped m v r at) in
    (satisfies n ok).stepped m (suc v) r at ∙ ap (step part (state n m (suc v))) same
    ∙ ap (λ (s : Memory). step part s x) before ∙ stepped_stays part (state n m v) x ∙ sym before

-- a module none of whose inputs has an event keeps its state
pub state_stays : (n : Circuit) → IsCircuit n → (known : ℕ → ℕ → ℕ) (m t u : ℕ) (r : ModuleRecord) (tracks : List (Option Progress)) → module_at n m ≡ Some r → u + 1 ≡ t → t < n.horizon
    → ((k p : ℕ) → t ≤ known k p) → AreTracks n known t tracks → list_any (λ (i : Input). event_at tracks t i) r.inputs ≡ false → state n m t ≡ state n m u
state_stays n ok known m t u r tracks at next low from are none =
    let same : inputs_by n (level n) r t ≡ inputs_by n (level n) r u
    = inputs_stay n ok known t from low u next tracks r.inputs are (λ p d within. ((ok.modules_ok m r at).reads p d within).0) none in
    subst (λ k. state n m k ≡ state n m u) next (same_inputs n ok m u r at (subst (λ k. inputs_by n (level n) r k ≡ inputs_by n (level n) r u) (sym next) same))

-- its cell stays, and has answered
IsCellOf-stays : (n : Circuit) (m t u : ℕ) (slot : Option ModuleRecord) (cell : Option Cell) → u + 1 ≡ t → state n m t ≡ state n m u → IsCellOf n m t slot cell → IsCellOf n m (t + 1) slot cell
IsCellOf-stays n m t u None None next same is = tt
IsCellOf-stays n m t u None (Some cell) next same is = absurd is
IsCellOf-stays n m t u (Some r) None next same is = absurd is
IsCellOf-stays n m t u (Some r) (Some cell) next same is = record {
  part = is.part;
  memory = λ v e. let last : t ≡ v = omega (arith, e) in is.memory u next ∙ sym same ∙ ap (state n m) last;
}

pub cells_stay : (n : Circuit) (m t u : ℕ) (cells : List (Option Cell)) → u + 1 ≡ t → state n m t ≡ state n m u → AreCells n t m cells → AreCells n t (m + 1) cells
cells_stay n m t u cells next same are = record {
  places = are.places;
  each = λ k. elim (cases_eq k m) as (λ _. IsCellOf n k (delivered t (m + 1) 0 k 0) (module_at n k) (slot_at cells k)) [
    | inl one ↦ subst (λ j. IsCellOf n j (delivered t (m + 1) 0 j 0) (module_at n j) (slot_at cells j)) (sym one) here
    | inr other ↦ IsCellOf-same n k (delivered t m 0 k 0) (delivered t (m + 1) 0 k 0) (module_at n k) (slot_at cells k) (units.delivered_next t m 0 k 0 (λ one. absurd (other one))) (are.each k)
  ];
}
  where
    before : IsCellOf n m t (module_at n m) (slot_at cells m)
    before = IsCellOf-same n m (delivered t m 0 m 0) t (module_at n m) (slot_at cells m) (units.delivered_not_yet t m 0 m 0 refl (omega arith)) (are.each m)

    here : IsCellOf n m (delivered t (m + 1) 0 m 0) (module_at n m) (slot_at cells m)
    here = IsCellOf-same n m (t + 1) (delivered t (m + 1) 0 m 0) (module_at n m) (slot_at cells m) (sym (units.delivered_done t (m + 1) 0 m 0 (omega arith)))
        (IsCellOf-stays n m t u (module_at n m) (slot_at cells m) next same before)

-- the wire of an output whose module keeps its state keeps its last level
on_track_stays : (n : Circuit) → IsCircuit n → (known new : ℕ → ℕ → ℕ) (t u m p w : ℕ) (r : ModuleRecord) (track : Progress) → u + 1 ≡ t → module_at n m ≡ Some r
    → driver n w ≡ Port (record { 0 = m }) p → known m p ≡ t → new m p ≡ t + 1 → state n m t ≡ state n m u → IsOnTrack n known t w track → IsOnTrack n new t w track
on_track_stays n ok known new t u m p w r track next at drives was is same on =
    let d = delay_of r p in
    let opened : (track.next ≤ t + d) × (last_time t track.ahead < t + d) = units.open_at n known m p t w r track at drives was on in
    let over : last_time 0 track.wave.changes ≤ u + d = omega (arith, on.over, opened.0, next) in
    let reach : (v : ℕ) → v < t + d → IsReached n known (driver n w) v
    = λ v less. subst (λ k. IsReached n known k v) (sym drives) (subst (λ slot. v < known m p + delay_in slot p) (sym at) (omega (arith, less, was))) in
    let reached : (v : ℕ) → IsReached n new (driver n w) v → v < t + 1 + d
    = λ v h. let port : IsReached n new (Port (record { 0 = m }) p) v = subst (λ k. IsReached n new k v) drives h in
    let in_slot : v < new m p + d = subst (λ slot. v < new m p + delay_in slot p) at port in omega (arith, in_slot, is) in
    record {
      form = on.form;
      over = on.over;
      within = on.within;
      levels = λ v low h. elim (cases_lt v (t + d)) as (λ _. level_of track.wave v ≡ level n w v) [
        | inl less ↦ on.levels v low (reach v less)
        | inr more ↦
            let e : t + d ≡ v = omega (arith, reached v h, more) in
            stays track.wave (u + d) v on.form over (omega (arith, e, next)) ∙ on.levels (u + d) (omega (arith, low, e, next)) (reach (u + d) (omega (arith, next)))
            ∙ units.port_level_is n ok m p w u r at drives ∙ ap (λ (s : Memory). output_of s p) (sym same) ∙ sym (units.port_level_is n ok m p w t r at drives) ∙ ap (level n w) e
      ];
      present = on.present;
      quiet = on.quiet;
      rising = on.rising;
      ahead = on.ahead;
      free = subst (λ k. IsOpen n new k t track) (sym drives) (
        subst (λ slot. track.next ≤ new m p + delay_in slot p) (sym at) (omega (arith, opened.0, is)),
        subst (λ slot. last_time t track.ahead < new m p + delay_in slot p) (sym at) (omega (arith, opened.1, is)),
      );
    }

abbrev driving : Driver → ℕ
driving Nothing = 0
driving Stimulus = 0
driving (Port m p) = m.0

-- a module that keeps its state has nothing to deliver
pub tracks_stay : (n : Circuit) → IsCircuit n → (t u m : ℕ) (r : ModuleRecord) (tracks : List (Option Progress)) → u + 1 ≡ t → module_at n m ≡ Some r → state n m t ≡ state n m u
    → AreTracks n (delivered t m 0) t tracks → AreTracks n (delivered t (m + 1) 0) t tracks
tracks_stay n ok t u m r tracks next at same are = record {
  places = are.places;
  each = λ w. IsTrackOf-keep n old new t w (wire_at n w) (slot_at tracks w) (λ track. kept w track (driver n w) refl) (are.each w);
}
  where
    old : ℕ → ℕ → ℕ
    old = delivered t m 0

    new : ℕ → ℕ → ℕ
    new = delivered t (m + 1) 0

    kept : (w : ℕ) (track : Progress) (d : Driver) → driver n w ≡ d → IsOnTrack n old t w track → IsOnTrack n new t w track
    kept w track Nothing drives on = units.known_same n old new t w track (λ k q e. let no : ⊥ = (let both = sym drives ∙ e in cc) in absurd no) on
    kept w track Stimulus drives on = units.known_same n old new t w track (λ k q e. let no : ⊥ = (let both = sym drives ∙ e in cc) in absurd no) on
    kept w track (Port k q) drives on = elim (cases_eq k.0 m) as (λ _. IsOnTrack n new t w track) [
      | inl one ↦
          on_track_stays n ok old new t u m q w r track next at (drives ∙ ap (λ j. Port (record { 0 = j }) q) one) (units.delivered_not_yet t m 0 m q refl (omega arith))
          (units.delivered_done t (m + 1) 0 m q (omega arith)) same on
      | inr other ↦ units.known_same n old new t w track (λ j p e. units.delivered_next t m 0 j.0 p (λ one. absurd (other (ap driving (sym drives ∙ e) ∙ one)))) on
    ]
