-- The waves when a wire is turned on.
use Rattle.std.proofs.Common.{◌≡◌, ℕ, [], ◌+◌, ◌<◌, Bool, true, false, List, cond, length, refl, ap, sym, subst, ◌∙◌, arith, get_or-set_same, get_or-set_other}
use Rattle.std.specs.Prelude.{◌==◌, slice_set}
use Rattle.std.proofs.lemmas.Bool.{eqb-false, both_ways}
use Rattle.std.proofs.lemmas.List.{length-set}
use Rattle.mp_wave.specs.Waveform.{Waveform, kept_before, wave_upto}
use Rattle.mp_wave.specs.Building.{Building}
use Rattle.mp_model.specs.Waves.{level}
use Rattle.mp_kernel.specs.events.Toggling.{wave_at}
use Rattle.mp_simulation.specs.declared.bits.simulation.Simulation.{Simulation}
use Rattle.mp_simulation.specs.declared.bits.simulator.Simulator.{Simulator}
use Rattle.mp_simulation.specs.bits.Traces.{IsTrace}
use Rattle.mp_simulation.specs.declared.units.data_wires.DataWires.{DataWires}
use Rattle.mp_simulation.specs.units.DataLevels.{is_data, is_bit_wire}
use Rattle.mp_simulation.specs.units.DataWaves.{building_at, no_building}
use Rattle.mp_active.proofs.lemmas.excerpt.PlaceLemmas.{bit_parts}
use Rattle.mp_active.proofs.lemmas.steps.KeptWaveLemmas.{kept_upto, trace_upto}
use Rattle.mp_active.proofs.lemmas.steps.TurningOnLemmas.{Turning, turned, simulator_two}

module _ (given : Turning) where
  open given use {n, w, now, wave, form, s, new, wide, shown, kind, stands, agree, first, then}

  -- the wave that the wire gets
  abbrev kept : Waveform
  kept = kept_before (now + 1) wave

  kept_is : kept ≡ wave_upto (level n w) now
  kept_is = kept_upto (level n w) now wave form agree

  pub waves_are : new.bits.simulator.waves ≡ cond wide s.bits.simulator.waves (slice_set s.bits.simulator.waves w kept)
  waves_are =
      ap (λ (x : Simulator). x.waves) (simulator_two given)
      ∙ then.traces
      ∙ ap (λ (b : Simulation). cond wide b.simulator.waves (slice_set b.simulator.waves w kept)) first.bits

  pub built_are : new.wires.waves.items ≡ cond wide (slice_set s.wires.waves.items w (record { wave = kept; next = now + 1 })) s.wires.waves.items
  built_are =
      ap (λ (v : DataWires). v.waves.items) (turned given).wires
      ∙ then.waves
      ∙ ap (λ (v : DataWires). cond wide (slice_set v.waves.items w (record { wave = kept; next = now + 1 })) v.waves.items) first.wires

  abbrev waves_by : Bool → List Waveform
  waves_by v = cond v s.bits.simulator.waves (slice_set s.bits.simulator.waves w kept)

  abbrev built_by : Bool → List Building
  built_by v = cond v (slice_set s.wires.waves.items w (record { wave = kept; next = now + 1 })) s.wires.waves.items

  pub traces_long : (v : Bool) → length (waves_by v) ≡ length s.bits.simulator.waves
  traces_long true = refl
  traces_long false = length-set s.bits.simulator.waves w kept

  pub built_long : (v : Bool) → length (built_by v) ≡ length s.wires.waves.items
  built_long true = length-set s.wires.waves.items w (record { wave = kept; next = now + 1 })
  built_long false = refl

  pub trace_by : (v : Bool) → wide ≡ v → is_bit_wire n w ≡ true → IsTrace (level n w) now (wave_at (waves_by v) w)
  trace_by true is narrow = absurd (both_ways (is_data n w) (bit_parts n w narrow).1 (kind ∙ is))
  trace_by false is narrow =
      let here = get_or-set_same s.bits.simulator.waves w kept (record { initial = 0; changes = [] }) (let same = shown.bits.wires in let low = stands in omega (arith, same, low)) in
      subst (IsTrace (level n w) now) (sym (here ∙ kept_is)) (trace_upto (level n w) now)

  pub other_trace : (v : Bool) (u : ℕ) → (u == w) ≡ false → wave_at (waves_by v) u ≡ wave_at s.bits.simulator.waves u
  other_trace true u other = refl
  other_trace false u other = get_or-set_other s.bits.simulator.waves w u kept (record { initial = 0; changes = [] }) (eqb-false u w other)

  built_here : building_at (built_by true) w ≡ record { wave = kept; next = now + 1 }
  built_here = get_or-set_same s.wires.waves.items w (record { wave = kept; next = now + 1 }) no_building (let same = shown.wires.wires in let low = stands in omega (arith, same, low))

  pub wave_by : (v : Bool) → wide ≡ v → is_data n w ≡ true → (building_at (built_by v) w).wave ≡ wave_upto (level n w) now
  wave_by false is with_data = absurd (both_ways (is_data n w) (kind ∙ is) with_data)
  wave_by true is with_data = ap (λ (b : Building). b.wave) built_here ∙ kept_is

  pub over_by : (v : Bool) → (building_at (built_by v) w).next < now + 2
  over_by false = shown.wires.over w
  over_by true = let is = ap (λ (b : Building). b.next) built_here in omega (arith, is)

  pub other_built : (v : Bool) (u : ℕ) → (u == w) ≡ false → building_at (built_by v) u ≡ building_at s.wires.waves.items u
  other_built false u other = refl
  other_built true u other = get_or-set_other s.wires.waves.items w u (record { wave = kept; next = now + 1 }) no_building (eqb-false u w other)
