-- The tracks at time 0 and at the horizon.
use Rattle.std.proofs.Common.{◌≡◌, ℕ, ◌+◌, ◌-◌, ◌^◌, ◌<◌, ◌≤◌, true, nat_lt, List, [], ◌∷◌, Option, Some, None, is_some, IfSome, unwrap_or, option_map, map, length, suc, refl, ap, sym, subst, ◌∙◌, arith, inl, inr}
use Rattle.std.specs.Prelude.{◌&&◌}
use Rattle.std.specs.Bool.{IsTrue}
use Rattle.std.proofs.lemmas.Bool.{lt-ltb, and_parts, ltb-true, cases_lt}
use Rattle.std.proofs.lemmas.List.{length-map}
use Rattle.mp_wave.specs.Waveform.{Waveform, IsWaveform, level_from, level_of, last_time, wave_upto}
use Rattle.mp_wave.specs.Building.{IsBuilding}
use Rattle.mp_wave.proofs.WaveformLemmas.{same_levels}
use Rattle.mp_wave.proofs.ChangesLemmas.{last_time-changes_after, levels_of_wave, form_of_wave}
use Rattle.mp_records.specs.declared.module_record.ModuleRecord.{ModuleRecord}
use Rattle.mp_records.specs.declared.wire_record.WireRecord.{WireRecord}
use Rattle.mp_netlist.specs.Limits.{max_horizon}
use Rattle.mp_netlist.specs.declared.driver.Driver.{Driver}
use Rattle.mp_netlist.specs.declared.driver.Driver.TheVariants.{Nothing, Stimulus, Port}
use Rattle.mp_netlist.specs.Slots.{slot_at}
use Rattle.mp_records.specs.Stimuli.{is_stimulus}
use Rattle.mp_modules.specs.Levels.{fits_width}
use Rattle.mp_netlist.specs.Circuit.{Circuit, IsCircuit, wire_at, module_at, stimulus_in}
use Rattle.mp_records.specs.Outputs.{delay_of}
use Rattle.mp_netlist.specs.Drivers.{driver}
use Rattle.mp_netlist.proofs.DriverLemmas.{stimulus_drives, leaves_no_driver}
use Rattle.mp_model.specs.Levels.{initial_of, stimulus_level, port_level, driven_level}
use Rattle.mp_model.specs.Tracks.{Progress, AreTimesIn, held_all, unchanged, started, first_progress}
use Rattle.mp_model.specs.Evaluations.{AreRising, IsReached, IsOpen, IsOnTrack, IsTrackOf, AreTracks, delay_in, delivered}
use Rattle.mp_model.specs.Waves.{level, state, slot_wave, waves_from, waves}
use Rattle.mp_model.specs.Laws.{BeginsAtInitialLevels}
use Rattle.mp_model.proofs.BehaviourLemmas.{satisfies}
use Rattle.mp_model.proofs.SlotLemmas.{slot_at-map}
use Rattle.mp_model.proofs.TrackLemmas.{AreRising-changes, level_from-now, stays}
use Rattle.mp_model.proofs.HeldLemmas.{AreTimesIn-longer, initial-all, building-all, last_time-all, levels-all}
use Rattle.mp_model.proofs.TracksLemmas.{tracks_same, tracks_all}
use Rattle.mp_model.proofs.EvaluationLemmas as units

-- the times of a stimulus rise below the horizon
stimulus_times : (horizon width time : ℕ) (changes : List (ℕ × ℕ)) → is_stimulus horizon width time changes ≡ true → AreTimesIn (time + 1) horizon changes
unfolding is_stimulus
stimulus_times horizon width time [] valid = tt
stimulus_times horizon width time (change ∷ changes) valid =
    let first = and_parts (nat_lt time change.0 && nat_lt change.0 horizon && fits_width width change.1) (is_stimulus horizon width change.0 changes) valid in
    let second = and_parts (nat_lt time change.0 && nat_lt change.0 horizon) (fits_width width change.1) first.0 in
    let third = and_parts (nat_lt time change.0) (nat_lt change.0 horizon) second.0 in
    let later : time < change.0 = ltb-true time change.0 third.0 in
    (omega (arith, later), ltb-true change.0 horizon third.1, stimulus_times horizon width change.0 changes first.1)

-- what is known ahead of a wire at time 0
abbrev set_ahead : WireRecord → List (ℕ × ℕ)
set_ahead r = unwrap_or r.stimulus []

abbrev IfSet : ℕ → ℕ → Option (List (ℕ × ℕ)) → Type 0
IfSet horizon width stimulus = IfSome stimulus (λ changes. IsTrue (is_stimulus horizon width 0 changes))

times_set : (n : Circuit) → IsCircuit n → (w : ℕ) (r : WireRecord) → wire_at n w ≡ Some r → AreTimesIn 1 n.horizon (set_ahead r)
times_set n ok w r at = by r.stimulus (ok.wires_ok w r at).stimulus
  where
    by : (stimulus : Option (List (ℕ × ℕ))) → IfSet n.horizon r.width stimulus → AreTimesIn 1 n.horizon (unwrap_or stimulus [])
    by None valid = tt
    by (Some changes) valid = stimulus_times n.horizon r.width 0 changes valid

-- a stimulus can be held
pub stimulus_held : (horizon width : ℕ) (stimulus : Option (List (ℕ × ℕ))) → horizon ≤ max_horizon → IfSet horizon width stimulus → IfSome stimulus (AreTimesIn 1 (2 ^ 32 - 1))
stimulus_held horizon width None low valid = tt
stimulus_held horizon width (Some changes) low valid = AreTimesIn-longer 1 horizon (2 ^ 32 - 1) changes (omega arith) (stimulus_times horizon width 0 changes valid)

-- a wire that no stimulus drives has none
none_set : (n : Circuit) → IsCircuit n → (w : ℕ) (r : WireRecord) → wire_at n w ≡ Some r → (driver n w ≡ Stimulus → ⊥) → set_ahead r ≡ []
none_set n ok w r at other = by r.stimulus refl
  where
    by : (stimulus : Option (List (ℕ × ℕ))) → r.stimulus ≡ stimulus → unwrap_or stimulus [] ≡ []
    by None e = refl
    by (Some changes) e = absurd (other (stimulus_drives n ok w (ap (λ slot. is_some (stimulus_in slot)) at ∙ ap is_some e)))

-- at time 0 the levels that are reached are known
first_levels : (n : Circuit) → IsCircuit n → (w u : ℕ) (r : WireRecord) (d : Driver) → wire_at n w ≡ Some r → driver n w ≡ d → IsReached n (λ m p. 0) d u → driven_level d n (state n) w u ≡ level_from r.initial (set_ahead r) u
first_levels n ok w u r Nothing at drives reached =
    let none = none_set n ok w r at (λ e. let no = sym drives ∙ e in cc) in
    ap initial_of at ∙ ap (λ changes. level_from r.initial changes u) (sym none)
first_levels n ok w u r Stimulus at drives reached =
    ap (λ slot. stimulus_level (stimulus_in slot) (initial_of slot) u) at ∙ set_level r.stimulus
  where
    set_level : (stimulus : Option (List (ℕ × ℕ))) → stimulus_level stimulus r.initial u ≡ level_from r.initial (unwrap_or stimulus []) u
    set_level None = refl
    set_level (Some changes) = refl
first_levels n ok w u r (Port m p) at drives reached =
    let none = none_set n ok w r at (λ e. let no = sym drives ∙ e in cc) in
    early (module_at n m.0) reached ∙ ap initial_of at ∙ ap (λ changes. level_from r.initial changes u) (sym none)
  where
    early : (slot : Option ModuleRecord) → u < 0 + delay_in slot p → port_level (state n) slot m.0 p (initial_of (wire_at n w)) u ≡ initial_of (wire_at n w)
    early None below = refl
    early (Some part) below = rw (lt-ltb u (delay_of part p) (omega arith)) refl

-- each wire that stands at time 0
pub first_on_track : (n : Circuit) → IsCircuit n → (w : ℕ) (r : WireRecord) → wire_at n w ≡ Some r → IsOnTrack n (λ m p. 0) 0 w (first_progress r)
first_on_track n ok w r at =
    let wave = (started r).wave in
    let times = times_set n ok w r at in
    let begun : IsBuilding (unchanged r.initial) = record { form = tt; over = omega arith } in
    let built : IsBuilding (started r) = building-all (unchanged r.initial) n.horizon (set_ahead r) begun times in
    let levels : (u : ℕ) → IsReached n (λ m p. 0) (driver n w) u → level_of wave u ≡ level n w u
    = λ u reached. levels-all (unchanged r.initial) n.horizon u (set_ahead r) begun times
    ∙ sym ((satisfies n ok).levels w u ∙ first_levels n ok w u r (driver n w) at refl reached) in
    let ahead : (u : ℕ) → level_from r.initial wave.changes u ≡ level_of wave u
    = λ u. ap (λ v. level_from v wave.changes u) (sym (initial-all (unchanged r.initial) (set_ahead r))) in
    let rising : AreRising 0 wave.changes = AreRising-changes 0 wave.initial wave.changes built.form in
    record {
      form = built.form;
      over = built.over;
      within = last_time-all (unchanged r.initial) n.horizon (set_ahead r) (omega (arith, ok.horizon_low)) times;
      levels = λ u low reached. levels u reached;
      present = sym (level_from-now r.initial 0 0 wave.changes rising (omega arith)) ∙ ahead 0 ∙ levels 0 (none_reached (driver n w));
      quiet = λ none u e. absurd (omega (arith, e));
      rising = rising;
      ahead = λ u le. ahead u;
      free = none_open (driver n w) refl;
    }
  where
    none_reached : (d : Driver) → IsReached n (λ m p. 0) d 0
    none_reached Nothing = tt
    none_reached Stimulus = tt
    none_reached (Port m p) = omega (arith, units.delay_positive n ok m.0 p)

    none_open : (d : Driver) → driver n w ≡ d → IsOpen n (λ m p. 0) d 0 (first_progress r)
    none_open Nothing drives = tt
    none_open Stimulus drives = tt
    none_open (Port m p) drives =
        let none = none_set n ok w r at (λ e. let no = sym drives ∙ e in cc) in
        let delay = delay_in (module_at n m.0) p in
        let positive : 0 < delay = units.delay_positive n ok m.0 p in
        let P : List (ℕ × ℕ) → Type 0 = λ changes. let built = held_all (unchanged r.initial) changes in (built.next ≤ 0 + delay) × (last_time 0 built.wave.changes < 0 + delay) in
        subst P (sym none) (omega (arith, positive), omega (arith, positive))

pub first_level : BeginsAtInitialLevels
first_level n ok w = by (wire_at n w) refl
  where
    by : (slot : Option WireRecord) → wire_at n w ≡ slot → level n w 0 ≡ initial_of (wire_at n w)
    by None at = (satisfies n ok).levels w 0 ∙ ap (λ d. driven_level d n (state n) w 0) (leaves_no_driver n ok w at)
    by (Some r) at = sym (first_on_track n ok w r at).present ∙ sym (ap initial_of at)

-- the tracks at time 0
pub first_tracks_are : (n : Circuit) → IsCircuit n → AreTracks n (delivered 0 0 0) 0 (map (option_map first_progress) n.wires)
first_tracks_are n ok = tracks_same n (λ m p. 0) (delivered 0 0 0) 0 (map (option_map first_progress) n.wires) (λ w m p drives. sym (units.delivered_none 0 m.0 p)) first
  where
    by : (w : ℕ) (slot : Option WireRecord) → wire_at n w ≡ slot → IsTrackOf n (λ m p. 0) 0 w slot (option_map first_progress slot)
    by w None at = tt
    by w (Some r) at = first_on_track n ok w r at

    first : AreTracks n (λ m p. 0) 0 (map (option_map first_progress) n.wires)
    first = record {
      places = length-map n.wires (option_map first_progress);
      each = λ w. subst (IsTrackOf n (λ m p. 0) 0 w (wire_at n w)) (sym (slot_at-map first_progress n.wires w)) (by w (wire_at n w) refl);
    }

-- at the horizon a track has the wave
wave_is : (n : Circuit) → IsCircuit n → (t w : ℕ) (track : Progress) → t ≡ n.horizon - 1 → IsOnTrack n (λ m p. t + 1) t w track → track.wave ≡ wave_upto (level n w) t
wave_is n ok t w track last on = same_levels track.wave whole on.form form same
  where
    whole : Waveform
    whole = wave_upto (level n w) t

    form : IsWaveform whole
    form = form_of_wave (level n w) t

    inside : (u : ℕ) → u ≤ t → level_of track.wave u ≡ level_of whole u
    inside u le =
        on.levels u (omega (arith, last, le, ok.horizon_low)) (units.next_reached n ok t u (driver n w) (omega (arith, le)))
        ∙ sym (levels_of_wave (level n w) t u le)

    same : (u : ℕ) → level_of track.wave u ≡ level_of whole u
    same u = elim (cases_lt t u) as (λ _. level_of track.wave u ≡ level_of whole u) [
      | inl less ↦
          stays track.wave t u on.form (omega (arith, on.within, last)) (omega (arith, less)) ∙ inside t (omega arith)
          ∙ sym (stays whole t u form (let ends = last_time-changes_after (level n w) 0 t in omega (arith, ends)) (omega (arith, less)))
      | inr le ↦ inside u le
    ]

-- at the horizon the tracks have the waves
waves_of : (n : Circuit) → IsCircuit n → (t w : ℕ) (wires : List (Option WireRecord)) (tracks : List (Option Progress)) → t ≡ n.horizon - 1 → length tracks ≡ length wires
    → ((i : ℕ) → IsTrackOf n (λ m p. t + 1) t (w + i) (slot_at wires i) (slot_at tracks i)) → map (option_map (λ (track : Progress). track.wave)) tracks ≡ waves_from n w wires
waves_of n ok t w [] [] last same on = refl
waves_of n ok t w [] (track ∷ tracks) last same on = absurd (omega arith)
waves_of n ok t w (wire ∷ wires) [] last same on = absurd (omega arith)
waves_of n ok t w (wire ∷ wires) (track ∷ tracks) last same on =
    let others = waves_of n ok t (w + 1) wires tracks last (omega arith) (λ i. let e : w + suc i ≡ w + 1 + i = omega arith in subst (λ v. IsTrackOf n (λ m p. t + 1) t v (slot_at wires i) (slot_at tracks i)) e (on (suc i))) in
    let e : w + 0 ≡ w = omega arith in
    let here = first wire track (subst (λ v. IsTrackOf n (λ m p. t + 1) t v wire track) e (on 0)) in
    ap (λ x. x ∷ map (option_map (λ (track : Progress). track.wave)) tracks) here ∙ ap (λ xs. slot_wave n w wire ∷ xs) others
  where
    first : (wire : Option WireRecord) (track : Option Progress) → IsTrackOf n (λ m p. t + 1) t w wire track → option_map (λ (track : Progress). track.wave) track ≡ slot_wave n w wire
    first None None on = refl
    first None (Some track) on = absurd on
    first (Some r) None on = absurd on
    first (Some r) (Some track) on = ap Some (wave_is n ok t w track last on ∙ ap (wave_upto (level n w)) last)

pub waves_are : (n : Circuit) → IsCircuit n → (t : ℕ) (tracks : List (Option Progress)) → t ≡ n.horizon - 1 → AreTracks n (delivered t (length n.modules) 0) t tracks
    → map (option_map (λ (track : Progress). track.wave)) tracks ≡ waves n
waves_are n ok t tracks last are =
    let all = tracks_all n t tracks are in
    waves_of n ok t 0 n.wires tracks last all.places (λ i. let e : 0 + i ≡ i = omega arith in subst (λ v. IsTrackOf n (λ m p. t + 1) t v (wire_at n i) (slot_at tracks i)) (sym e) (all.each i))
