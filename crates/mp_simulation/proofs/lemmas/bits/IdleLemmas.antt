-- Places of modules that have no event in a unit.
use Rattle.std.proofs.Common.{◌≡◌, ℕ, ◌%◌, ◌<◌, Bool, true, false, cond, length, refl, sym, ap, ◌∙◌}
use Rattle.std.specs.Prelude.{◌==◌, bit_xor}
use Rattle.std.specs.Int.Bits.{xor_zero_r}
use Rattle.std.proofs.lemmas.Bool.{eqb-true}
use Rattle.mp_records.specs.declared.module_record.ModuleRecord.{ModuleRecord}
use Rattle.mp_netlist.specs.Circuit.{Circuit, IsCircuit}
use Rattle.mp_model.specs.Levels.{built}
use Rattle.mp_model.specs.Waves.{state}
use Rattle.mp_modules.specs.declared.automata.automaton.Automaton.{Automaton}
use Rattle.mp_modules.specs.declared.automata.automaton.Automaton.TheVariants.{Sleep}
use Rattle.mp_modules.specs.declared.automata.events.Events.{Events}
use Rattle.mp_modules.specs.declared.automata.phase.Phase.{Phase}
use Rattle.mp_modules.specs.declared.automata.reaction.Reaction.{Reaction}
use Rattle.mp_modules.specs.automata.Automata.{automaton_of}
use Rattle.mp_modules.specs.automata.Phases.{phase_of}
use Rattle.mp_modules.specs.automata.Reactions.{react, quiet}
use Rattle.mp_modules.specs.automata.Codes.{no_events}
use Rattle.mp_modules.specs.automata.PortLevels.{ports_code}
use Rattle.mp_kernel.specs.events.Adding.{state_at, listed}
use Rattle.mp_kernel.specs.events.Firing.{UnitState, reaction}
use Rattle.mp_kernel.specs.events.LevelFlips.{flipped}
use Rattle.mp_simulation.specs.declared.bits.simulator.Simulator.{Simulator}
use Rattle.mp_simulation.specs.bits.Advancing.{unit_state_at}
use Rattle.mp_simulation.specs.bits.Scopes.{Scope}
use Rattle.mp_simulation.specs.bits.Simulators.{IsSound}
use Rattle.mp_simulation.specs.bits.Units.{IsSeat, IsDuring}
use Rattle.mp_simulation.proofs.lemmas.bits.ChangeLemmas.{rests_without_events}
use Rattle.mp_simulation.proofs.lemmas.bits.NumberLemmas.{no_events_when, events_part}
use Rattle.mp_simulation.proofs.lemmas.bits.FireLemmas.{by_once}

-- a sleeping module has no output that toggles, and keeps its phase
pub sleeps : (a : Automaton) (phase : Phase) (events : Events) → a ≡ Sleep → react a phase events ≡ quiet phase
unfolding react
sleeps a phase events is = ap (λ (k : Automaton). react k phase events) is

-- and neither does an active one without events
pub rests : (n : Circuit) → IsCircuit n → (scope : Scope) (s : Simulator) (m q t : ℕ) (r : ModuleRecord) → IsSeat n scope s m q r → (u : UnitState) → u ≡ unit_state_at n r m t →
    u.events ≡ no_events → reaction u ≡ quiet u.phase
rests n ok scope s m q t r seat u is none =
    let part = built n r in
    let own = rests_without_events part (state n m t) seat.of_bits (seat.state_bits t) in
    let here : reaction (unit_state_at n r m t) ≡ quiet (phase_of part (state n m t)) =
    ap (λ (e : Events). react (automaton_of part) (phase_of part (state n m t)) e) (sym (ap (λ (k : UnitState). k.events) is) ∙ none) ∙ own in
    ap reaction is ∙ here ∙ ap quiet (sym (ap (λ (k : UnitState). k.phase) is))

module _ (s : Simulator) (sound : IsSound s) (n : Circuit) (ok : IsCircuit n) (scope : Scope) (t : ℕ) (during : IsDuring n scope t s) where
  -- an idle place keeps its phase, and no output of it toggles
  pub idle_rests : (q : ℕ) (active : Bool) → scope.is_active q ≡ active → q < length s.states.items → (during.units q).events ≡ no_events → reaction (during.units q) ≡ quiet (during.units q).phase
  idle_rests q true active within none =
      let h = during.layout.placed q within active in
      rests n ok scope s h.number q t h.part (during.layout.seats h.number q h.part h.stands h.is) (during.units q) (during.active h.number q h.part h.stands h.is) none
  idle_rests q false active within none = sleeps (during.units q).automaton (during.units q).phase (during.units q).events (during.asleep q active)

  -- an idle place has no events
  pub idle_quiet : (q : ℕ) → q < length s.states.items → listed q s.due.items ≡ 0 → (during.units q).events ≡ no_events
  idle_quiet q within none =
      let number = during.numbered q within in
      let zero_part = by_once (state_at s.states.items q % 16) (listed q s.due.items) (state_at s.states.items q % 16 == 0) refl (sound.events.once q) none in
      no_events_when (during.units q).events (sym (events_part (during.units q)) ∙ sym (ap (λ k. k % 16) number) ∙ zero_part)

  -- an idle place keeps its levels
  pub flips_when : (q x : ℕ) (idle : Bool) → (listed q s.due.items == 0) ≡ idle → q < length s.states.items →
      cond idle x (flipped (during.units q) x).0 ≡ bit_xor x (ports_code (during.units q).events (reaction (during.units q)).toggles)
  flips_when q x true idle within =
      let none = idle_quiet q within (eqb-true (listed q s.due.items) 0 idle) in
      let stays = idle_rests q (scope.is_active q) refl within none in
      sym (ap (λ (e : Events). bit_xor x (ports_code e (reaction (during.units q)).toggles)) none
      ∙ ap (λ (k : Reaction). bit_xor x (ports_code no_events k.toggles)) stays
      ∙ xor_zero_r x)
  flips_when q x false idle within = refl
