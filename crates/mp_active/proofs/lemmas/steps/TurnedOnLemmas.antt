-- A wire has its level, its wave and its copies: then it is turned on.
use Rattle.std.proofs.Common.{◌≡◌, ℕ, ◌+◌, ◌<◌, ◌≤◌, Bool, true, false, List, All, length, refl, ap, sym, subst, ◌∙◌, arith}
use Rattle.std.proofs.lemmas.List.{length-set}
use Rattle.mp_wave.specs.Waveform.{Waveform, IsWaveform, level_of, kept_before}
use Rattle.mp_wave.specs.Building.{Building}
use Rattle.mp_model.specs.Waves.{level}
use Rattle.mp_kernel.specs.events.Toggling.{wave_at}
use Rattle.mp_simulation.specs.declared.bits.delayed_copies.DelayedCopies.{DelayedCopies}
use Rattle.mp_simulation.specs.declared.bits.simulation.Simulation.{Simulation}
use Rattle.mp_simulation.specs.declared.bits.simulator.Simulator.{Simulator}
use Rattle.mp_simulation.specs.bits.Simulators.{IsBelow}
use Rattle.mp_simulation.specs.bits.Traces.{IsTrace}
use Rattle.mp_kernel.specs.declared.datapath.level_change.LevelChange.{LevelChange}
use Rattle.mp_simulation.specs.declared.units.data_wires.DataWires.{DataWires}
use Rattle.mp_simulation.specs.declared.units.netlist_simulation.NetlistSimulation.{NetlistSimulation}
use Rattle.mp_simulation.specs.units.DataLevels.{is_data}
use Rattle.mp_simulation.specs.units.DataWaves.{building_at}
use Rattle.mp_simulation.specs.units.DataWheels.{AreChangesBelow}
use Rattle.mp_active.specs.excerpt.Levels.{AreLevelsShown}
use Rattle.mp_active.specs.excerpt.Turning.{IsTurnedOn}
use Rattle.mp_active.specs.steps.Chains.{AreCopiesTurned}
use Rattle.mp_active.specs.steps.TurningOn.{wave_places, CanTurnOn, WiresCanTurnOn, HasSetLevel, HasSetWave, TurnsOn}
use Rattle.mp_active.proofs.lemmas.steps.TurningOnLemmas.{Turning, chain, copies_two, next_two, wheel_two, levels_two, turned, simulator_two}
use Rattle.mp_active.proofs.lemmas.steps.TurnedWheelLemmas.{copy_turned, change_turned}
use Rattle.mp_active.proofs.lemmas.steps.TurnedLevelLemmas.{level_turned}
use Rattle.mp_active.proofs.lemmas.steps.TurnedWaveLemmas.{waves_are, built_are, traces_long, built_long, trace_by, other_trace, wave_by, over_by, other_built}

module _ (given : Turning) where
  open given use {n, numbering, w, now, wave, s, two, new, wide, shown, first, then}

  abbrev count : ℕ
  count = length s.bits.simulator.fanout

  turned_on : IsTurnedOn n numbering w now s new
  turned_on = record {
    simulator =
        simulator_two given
        ∙ ap (λ (b : Simulation). b.simulator) then.bits
        ∙ ap (λ (b : Simulation). (let x : Simulator = record (b.simulator) { waves = two.bits.simulator.waves } in x)) first.bits
        ∙ ap (λ o. (let x : Simulator = record (s.bits.simulator) { waves = o } in x)) (sym (ap (λ (x : Simulator). x.waves) (simulator_two given)));
    traces = ap (length {A = Waveform}) (waves_are given) ∙ traces_long given wide;
    trace = λ narrow. subst (λ (xs : List Waveform). IsTrace (level n w) now (wave_at xs w)) (sym (waves_are given)) (trace_by given wide refl narrow);
    other_traces = λ v other. ap (λ (xs : List Waveform). wave_at xs v) (waves_are given) ∙ other_trace given wide v other;
    next = ap (λ (b : Simulation). b.copies.next.items) (turned given).bits ∙ ap (λ (c : DelayedCopies). c.next.items) (copies_two given);
    copy_units = (turned given).units ∙ ap (λ (c : DelayedCopies). length c.wheel) (copies_two given);
    copies = copy_turned given;
    data_next = ap (λ (v : DataWires). v.next.items) (turned given).wires ∙ ap (λ x. x.items) (next_two given);
    change_units = (turned given).change_units ∙ ap (length {A = List LevelChange}) (wheel_two given);
    changes = change_turned given;
    numbered = (turned given).numbered count (chain given).below (subst (λ (wheel : List (List LevelChange)). AreChangesBelow count wheel) (sym (wheel_two given)) shown.wires.numbered);
    change_levels = (turned given).held (subst (λ (wheel : List (List LevelChange)). AreLevelsShown n numbering now wheel) (sym (wheel_two given)) shown.wires.change_levels);
    numbers = (turned given).long ∙ ap (length {A = ℕ}) (levels_two given) ∙ length-set s.wires.levels.items w (level_of wave now);
    levels = level_turned given;
    waves = ap (length {A = Building}) (built_are given) ∙ built_long given wide;
    wave = λ with_data. ap (λ (xs : List Building). (building_at xs w).wave) (built_are given) ∙ wave_by given wide refl with_data;
    over = subst (λ (xs : List Building). (building_at xs w).next < now + 2) (sym (built_are given)) (over_by given wide);
    other_waves = λ v other. ap (λ (xs : List Building). building_at xs v) (built_are given) ∙ other_built given wide v other;
    modules = (turned given).modules ∙ then.modules ∙ first.modules;
  }

-- ---- as it is stated
pub turns_on : (wide : Bool) (wave : Waveform) (w now : ℕ) (s one two new : NetlistSimulation) → IsWaveform wave → w < wave_places wide s → HasSetLevel w (level_of wave now) s one →
    HasSetWave wide (kept_before (now + 1) wave) w (now + 1) one two → AreCopiesTurned wide wave w now two new → TurnsOn wide wave w now s new
turns_on wide wave w now s one two new form place first then last n ok active on numbering shown off kind agree =
    turned_on (record {
      n = n;
      ok = ok;
      active = active;
      on = on;
      numbering = numbering;
      w = w;
      now = now;
      wave = wave;
      form = form;
      s = s;
      one = one;
      two = two;
      new = new;
      wide = wide;
      shown = shown;
      off = off;
      kind = kind;
      stands = stands wide place;
      agree = agree;
      first = first;
      then = then;
      last = last;
    })
  where
    stands : (v : Bool) → w < wave_places v s → w < length n.wires
    stands true low = let same = shown.wires.wires in omega (arith, low, same)
    stands false low = let same = shown.bits.wires in omega (arith, low, same)

-- a simulation that shows a netlist has the places
pub wires_can_turn_on : WiresCanTurnOn
wires_can_turn_on n ok active on numbering w now wave s shown stands early low = by (is_data n w) low
  where
    row : w < length s.bits.simulator.fanout
    row = let few = shown.bits.sound.simulator.rows in let same = shown.bits.wires in omega (arith, few, same, stands)

    by : (v : Bool) → (v ≡ false → (u : ℕ) → level_of wave u ≤ 1) → CanTurnOn v wave w now s
    by true low = record {
      copies = record {
        low = early;
        number_low = let same = shown.wires.next in let r = row in omega (arith, same, r);
        within = shown.wires.within;
        below = subst (λ k. All (IsBelow k) s.wires.next.items) (sym shown.wires.next) shown.wires.below;
        levels = shown.wires.places ∙ sym shown.wires.next;
      };
      place = let same = shown.wires.wires in omega (arith, same, stands);
      low = low;
    }
    by false low =
        let sound = shown.bits.sound.copies in
        record {
          copies = record {
            low = early;
            number_low = let same = sound.next in let r = row in omega (arith, same, r);
            within = sound.within;
            below = subst (λ k. All (IsBelow k) s.bits.copies.next.items) (sym sound.next) sound.below;
            levels = shown.wires.places ∙ sym sound.next;
          };
          place = let same = shown.bits.wires in omega (arith, same, stands);
          low = low;
        }
