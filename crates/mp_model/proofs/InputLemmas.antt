-- What the tracks of the wires give at a module's inputs.
use Rattle.std.proofs.Common.{◌≡◌, ℕ, ◌+◌, ◌-◌, ◌<◌, ◌≤◌, ◌==◌, false, List, [], ◌∷◌, Option, Some, None, IsSome, map, length, slice_index_or, suc, refl, ap, sym, ◌∙◌, arith, inl, inr, ◌⊎◌}
use Rattle.std.specs.Prelude.{not, ◌||◌}
use Rattle.std.specs.Option.{option_map_or}
use Rattle.std.specs.List.{list_any}
use Rattle.std.proofs.lemmas.Bool.{cases_Bool, cases_lt, eqb-true, lt-ltb, le-ltb, not-false, or_parts}
use Rattle.mp_wave.specs.Waveform.{level_of}
use Rattle.mp_records.specs.declared.ports.Input.{Input}
use Rattle.mp_records.specs.declared.wire_record.WireRecord.{WireRecord}
use Rattle.mp_records.specs.declared.module_record.ModuleRecord.{ModuleRecord}
use Rattle.mp_netlist.specs.declared.driver.Driver.{Driver}
use Rattle.mp_netlist.specs.declared.driver.Driver.TheVariants.{Nothing, Stimulus, Port}
use Rattle.mp_netlist.specs.Slots.{slot_at}
use Rattle.mp_netlist.specs.Circuit.{Circuit, IsCircuit, wire_at, module_at}
use Rattle.mp_netlist.specs.Drivers.{driver}
use Rattle.mp_model.specs.Levels.{input_by, inputs_by}
use Rattle.mp_model.specs.Tracks.{Progress, level_before, event_before}
use Rattle.mp_model.specs.Evaluations.{IsReached, IsOnTrack, IsTrackOf, AreTracks, present_at, event_at, change_at, is_late}
use Rattle.mp_model.specs.Waves.{level}
use Rattle.mp_model.proofs.SlotLemmas.{no_some}
use Rattle.mp_model.proofs.EndsLemmas.{first_level}
use Rattle.mp_model.proofs.EvaluationLemmas.{delay_positive}

-- the level at an input is that of its wire so much before, or at time 0 where that is earlier
pub input_is : (n : Circuit) → IsCircuit n → (i : Input) (t : ℕ) → input_by n (level n) i t ≡ level n i.wire.0 (t - i.delay)
input_is n ok i t = by (cases_lt t i.delay)
  where
    by : (t < i.delay) ⊎ (i.delay ≤ t) → input_by n (level n) i t ≡ level n i.wire.0 (t - i.delay)
    by (inl early) =
        let none : 0 ≡ t - i.delay = omega arith in
        rw (lt-ltb t i.delay early) (sym (first_level n ok i.wire.0) ∙ ap (level n i.wire.0) none)
    by (inr over) = rw (le-ltb t i.delay over) refl

-- where each port has delivered the states before a time, the levels up to it are reached
reached_now : (n : Circuit) → IsCircuit n → (known : ℕ → ℕ → ℕ) (t u : ℕ) (d : Driver) → ((m p : ℕ) → t ≤ known m p) → u ≤ t → IsReached n known d u
reached_now n ok known t u Nothing from le = tt
reached_now n ok known t u Stimulus from le = tt
reached_now n ok known t u (Port m p) from le = omega (arith, le, from m.0 p, delay_positive n ok m.0 p)

-- the tracks at a time below the horizon, where each port has delivered the states before it
module _ (n : Circuit) (ok : IsCircuit n) (known : ℕ → ℕ → ℕ) (t : ℕ) (from : (m p : ℕ) → t ≤ known m p) (low : t < n.horizon) where
  -- a track has its wire's levels up to now
  level_known : (w u : ℕ) (track : Progress) → u ≤ t → IsOnTrack n known t w track → level_of track.wave u ≡ level n w u
  level_known w u track le on = on.levels u (omega (arith, le, low)) (reached_now n ok known t u (driver n w) from le)

  level_before_is : (delay w : ℕ) (track : Progress) → IsOnTrack n known t w track → level_before t delay track ≡ level n w (t - delay)
  level_before_is delay w track on =
      elim (cases_Bool (delay == 0)) as (λ _. level_before t delay track ≡ level n w (t - delay)) [
        | inl none ↦ let zero = eqb-true delay 0 none in let now : t ≡ t - delay = omega (arith, zero) in rw none (on.present ∙ ap (level n w) now)
        | inr some ↦ rw some (level_known w (t - delay) track (omega arith) on)
      ]

  present_is : (i : Input) (wire : Option WireRecord) (slot : Option Progress) → IsTrackOf n known t i.wire.0 wire slot → IsSome wire
      → option_map_or (level_before t i.delay) slot 0 ≡ level n i.wire.0 (t - i.delay)
  present_is i None slot on some = absurd (no_some (let none : Option WireRecord = None in none) refl some)
  present_is i (Some r) None on some = absurd on
  present_is i (Some r) (Some track) on some = level_before_is i.delay i.wire.0 track on

  map_present : (tracks : List (Option Progress)) (inputs : List Input) → AreTracks n known t tracks
      → ((p : ℕ) (d : Input) → p < length inputs → IsSome (wire_at n (slice_index_or inputs p d).wire.0)) → map (λ (i : Input). present_at tracks t i) inputs ≡ map (λ (i : Input). input_by n (level n) i t) inputs
  map_present tracks [] are stand = refl
  map_present tracks (i ∷ is) are stand =
      let some = stand 0 i (omega arith) in
      let here : present_at tracks t i ≡ input_by n (level n) i t
      = present_is i (wire_at n i.wire.0) (slot_at tracks i.wire.0) (are.each i.wire.0) some ∙ sym (input_is n ok i t) in
      let others = map_present tracks is are (λ p d within. stand (suc p) d (omega arith)) in
      ap (λ x. x ∷ map (λ (j : Input). present_at tracks t j) is) here ∙ ap (λ xs. input_by n (level n) i t ∷ xs) others

  -- the levels now at a module's inputs
  pub inputs_are : (m : ℕ) (r : ModuleRecord) (tracks : List (Option Progress)) → module_at n m ≡ Some r → AreTracks n known t tracks
      → map (λ (i : Input). present_at tracks t i) r.inputs ≡ inputs_by n (level n) r t
  inputs_are m r tracks at are = map_present tracks r.inputs are (λ p d within. ((ok.modules_ok m r at).reads p d within).0)

  -- the time before now
  module _ (u : ℕ) (next : u + 1 ≡ t) where
    same_if : (one other : ℕ) → not (one == other) ≡ false → one ≡ other
    same_if one other test = eqb-true one other (not-false (one == other) test)

    -- without an event a level is that of the unit before
    level_stays : (delay w : ℕ) (track : Progress) → IsOnTrack n known t w track → event_before t delay track ≡ false → level n w (t - delay) ≡ level n w (u - delay)
    level_stays delay w track on =
        elim (cases_Bool (delay == 0)) as (λ _. event_before t delay track ≡ false → level n w (t - delay) ≡ level n w (u - delay)) [
          | inl none ↦
              let zero = eqb-true delay 0 none in
              let now : t - delay ≡ t = omega (arith, zero) in
              let before : u ≡ u - delay = omega (arith, zero) in
              rw none (λ quiet. ap (level n w) now ∙ on.quiet quiet u next ∙ ap (level n w) before)
          | inr some ↦
              let before : t - 1 - delay ≡ u - delay = omega (arith, next) in
              rw some (λ quiet. sym (level_known w (t - delay) track (omega arith) on) ∙ same_if (level_of track.wave (t - delay)) (level_of track.wave (t - 1 - delay)) quiet
              ∙ level_known w (t - 1 - delay) track (omega arith) on ∙ ap (level n w) before)
        ]

    slot_stays : (i : Input) (wire : Option WireRecord) (slot : Option Progress) → IsTrackOf n known t i.wire.0 wire slot → IsSome wire
        → option_map_or (event_before t i.delay) slot false ≡ false → level n i.wire.0 (t - i.delay) ≡ level n i.wire.0 (u - i.delay)
    slot_stays i None slot on some none = absurd (no_some (let absent : Option WireRecord = None in absent) refl some)
    slot_stays i (Some r) None on some none = absurd on
    slot_stays i (Some r) (Some track) on some none = level_stays i.delay i.wire.0 track on none

    -- where no input has an event, all inputs are those of the unit before
    pub inputs_stay : (tracks : List (Option Progress)) (inputs : List Input) → AreTracks n known t tracks
        → ((p : ℕ) (d : Input) → p < length inputs → IsSome (wire_at n (slice_index_or inputs p d).wire.0)) → list_any (λ (i : Input). event_at tracks t i) inputs ≡ false
        → map (λ (i : Input). input_by n (level n) i t) inputs ≡ map (λ (i : Input). input_by n (level n) i u) inputs
    inputs_stay tracks [] are stand none = refl
    inputs_stay tracks (i ∷ is) are stand none =
        let some = stand 0 i (omega arith) in
        let parts = or_parts (event_at tracks t i) (list_any (λ (j : Input). event_at tracks t j) is) none in
        let here = input_is n ok i t ∙ slot_stays i (wire_at n i.wire.0) (slot_at tracks i.wire.0) (are.each i.wire.0) some parts.0 ∙ sym (input_is n ok i u) in
        let others = inputs_stay tracks is are (λ p d within. stand (suc p) d (omega arith)) parts.1 in
        ap (λ x. x ∷ map (λ (j : Input). input_by n (level n) j t) is) here ∙ ap (λ xs. input_by n (level n) i u ∷ xs) others

-- where no input has a delay, the events at the inputs are the changes of their wires
prompt_event : (time : ℕ) (i : Input) (slot : Option Progress) → is_late i ≡ false → option_map_or (λ (track : Progress). track.event) slot false ≡ option_map_or (event_before time i.delay) slot false
prompt_event time i None prompt = refl
prompt_event time i (Some track) prompt = let none = not-false (i.delay == 0) prompt in rw none refl

pub prompt_events : (tracks : List (Option Progress)) (time : ℕ) (inputs : List Input) → list_any is_late inputs ≡ false
    → list_any (λ (i : Input). change_at tracks i.wire.0) inputs ≡ list_any (λ (i : Input). event_at tracks time i) inputs
prompt_events tracks time [] prompt = refl
prompt_events tracks time (i ∷ is) prompt =
    let parts = or_parts (is_late i) (list_any is_late is) prompt in
    let here : change_at tracks i.wire.0 ≡ event_at tracks time i = prompt_event time i (slot_at tracks i.wire.0) parts.0 in
    let others = prompt_events tracks time is parts.1 in
    ap (λ b. b || list_any (λ (j : Input). change_at tracks j.wire.0) is) here ∙ ap (λ b. event_at tracks time i || b) others
