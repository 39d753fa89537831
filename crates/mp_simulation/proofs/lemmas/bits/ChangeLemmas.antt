-- Changes of wires, and what modules hear and answer.
use Rattle.std.proofs.Common.{◌≡◌, ◌≢◌, ℕ, zero, suc, ◌+◌, ◌-◌, ◌<◌, ◌≤◌, Bool, true, false, not, cond, nat_lt, List, [], ◌∷◌, ◌++◌, Some, refl, sym, ap, ◌∙◌, arith, subst, append-nil}
use Rattle.std.specs.Prelude.{◌==◌, slice_index}
use Rattle.std.proofs.lemmas.Bool.{eqb-true, eqb-false}
use Rattle.mp_wave.proofs.WaveformLemmas.{last_from-append}
use Rattle.std.proofs.lemmas.Bool.Decides.{nat_tests}
use Rattle.mp_modules.specs.declared.memory.Memory.{Memory}
use Rattle.mp_modules.specs.Memories.{output_of}
use Rattle.mp_modules.specs.Quiet.{unchanged}
use Rattle.mp_records.specs.declared.module_record.ModuleRecord.{ModuleRecord}
use Rattle.mp_records.specs.declared.ids.ModuleId.{ModuleId}
use Rattle.mp_records.specs.Outputs.{delay_of}
use Rattle.mp_netlist.specs.Circuit.{Circuit, IsCircuit, wire_at, module_at}
use Rattle.mp_netlist.specs.declared.driver.Driver.{Driver}
use Rattle.mp_netlist.specs.declared.driver.Driver.TheVariants.{Port}
use Rattle.mp_netlist.specs.Drivers.{driver}
use Rattle.mp_wave.specs.Waveform.{Waveform, wave_upto, changes_after, last_from}
use Rattle.mp_model.specs.Levels.{initial_of, driven_level, port_level}
use Rattle.mp_model.specs.Waves.{level, state}
use Rattle.mp_model.proofs.BehaviourLemmas.{satisfies}
use Rattle.mp_model.proofs.InputLemmas.{input_is}
use Rattle.mp_modules.specs.declared.automata.reaction.Reaction.{Reaction}
use Rattle.mp_modules.specs.automata.Automata.{automaton_of}
use Rattle.mp_modules.specs.automata.Phases.{phase_of}
use Rattle.mp_modules.specs.automata.BitModules.{events_in, toggles_between}
use Rattle.mp_modules.specs.automata.Codes.{no_events}
use Rattle.mp_modules.specs.automata.Reactions.{react, quiet}
use Rattle.mp_modules.specs.automata.AutomatonLaws.{reaction_of}
use Rattle.mp_modules.proofs.lemmas.automata.ReactionLemmas.{reacts_as_module}
use Rattle.mp_wave.specs.ToggleWaves.{toggled_at}
use Rattle.mp_simulation.specs.bits.Changes.{change_at}
use Rattle.mp_simulation.specs.bits.ChangeLaws.{PortsChange, PortsBegin, PortsWait, InputsChange, RestsWithoutEvents, WavesGrow}

-- a wire that a port drives
driven : (n : Circuit) → IsCircuit n → (w p t : ℕ) (m : ModuleId) (r : ModuleRecord) → driver n w ≡ Port m p → module_at n m.0 ≡ Some r →
    level n w t ≡ cond (nat_lt t (delay_of r p)) (initial_of (wire_at n w)) (output_of (state n m.0 (t - delay_of r p)) p)
driven n ok w p t m r drives at =
    (satisfies n ok).levels w t
    ∙ ap (λ (d : Driver). driven_level d n (state n) w t) drives
    ∙ ap (λ slot. port_level (state n) slot m.0 p (initial_of (wire_at n w)) t) at

pub reached : (n : Circuit) → IsCircuit n → (w p d t : ℕ) (m : ModuleId) (r : ModuleRecord) → driver n w ≡ Port m p → module_at n m.0 ≡ Some r → delay_of r p ≡ d →
    level n w (t + d) ≡ output_of (state n m.0 t) p
reached n ok w p d t m r drives at is =
    let late : nat_lt (t + d) d ≡ false = grind (arith, nat_tests) in
    let back : t + d - d ≡ t = omega arith in
    driven n ok w p (t + d) m r drives at ∙ rw (is, late, back) refl

waiting : (n : Circuit) → IsCircuit n → (w p d t : ℕ) (m : ModuleId) (r : ModuleRecord) → driver n w ≡ Port m p → module_at n m.0 ≡ Some r → delay_of r p ≡ d → t < d →
    level n w t ≡ initial_of (wire_at n w)
waiting n ok w p d t m r drives at is early =
    let before : nat_lt t d ≡ true = grind (arith, nat_tests) in
    driven n ok w p t m r drives at ∙ rw (is, before) refl

differ : (a b c d : ℕ) → a ≡ c → b ≡ d → not (a == b) ≡ not (c == d)
differ a b c d p q = rw (p, q) refl

pub ports_change : PortsChange
ports_change n ok w p t m r drives at some =
    let d = delay_of r p in
    let e : t + 1 + d - 1 ≡ t + d = omega arith in
    differ _ _ _ _ (ap (level n w) e ∙ reached n ok w p d t m r drives at refl) (reached n ok w p d (t + 1) m r drives at refl)

pub ports_begin : PortsBegin
ports_begin n ok w p m r drives at some =
    let d = delay_of r p in
    let e : 0 + d ≡ d = omega arith in
    differ _ _ _ _ (waiting n ok w p d (d - 1) m r drives at refl (omega arith)) (ap (level n w) (sym e) ∙ reached n ok w p d 0 m r drives at refl)

pub ports_wait : PortsWait
ports_wait n ok w p u m r drives at early =
    let d = delay_of r p in
    let i = initial_of (wire_at n w) in
    differ _ _ i i (waiting n ok w p d (u - 1) m r drives at refl (omega arith)) (waiting n ok w p d u m r drives at refl early) ∙ unchanged i

changed_when : (n : Circuit) (w t e : ℕ) (late : Bool) → nat_lt e (t + 1) ≡ late →
    not (level n w (t - e) == level n w (t + 1 - e)) ≡ cond late (change_at n w (t + 1 - e)) false
changed_when n w t e true is =
    let within : e < t + 1 = grind (arith, nat_tests) in
    let same : t - e ≡ t + 1 - e - 1 = omega arith in
    ap (λ k. not (level n w k == level n w (t + 1 - e))) same
changed_when n w t e false is =
    let before : t < e = grind (arith, nat_tests) in
    let zero_then : t - e ≡ 0 = omega arith in
    let zero_now : t + 1 - e ≡ 0 = omega arith in
    differ _ _ _ _ (ap (level n w) zero_then) (ap (level n w) zero_now) ∙ unchanged (level n w 0)

pub inputs_change : InputsChange
inputs_change n ok i t =
    differ _ _ _ _ (input_is n ok i t) (input_is n ok i (t + 1)) ∙ changed_when n i.wire.0 t i.delay (nat_lt i.delay (t + 1)) refl

no_event : (m : Memory) → events_in m m.inputs ≡ no_events
no_event m = rw (unchanged (slice_index m.inputs 0), unchanged (slice_index m.inputs 1), unchanged (slice_index m.inputs 2), unchanged (slice_index m.inputs 3)) refl

last_next : (level : ℕ → ℕ) (t : ℕ) (changes : List (ℕ × ℕ)) (same : Bool) → (level t == level (suc t)) ≡ same → last_from (level 0) changes ≡ level t →
    last_from (level 0) (changes ++ cond same [] ((suc t, level (suc t)) ∷ [])) ≡ level (suc t)
last_next level t changes true is last = rw (append-nil changes) (last ∙ eqb-true (level t) (level (suc t)) is)
last_next level t changes false is last = last_from-append (level 0) changes ((suc t, level (suc t)) ∷ [])

-- the last level of a wave is that of its last unit
pub last_is : (level : ℕ → ℕ) (t : ℕ) → last_from (level 0) (changes_after level 0 t) ≡ level t
last_is level zero = refl
last_is level (suc t) =
    let from_zero : 0 + t ≡ t = omega arith in
    rw from_zero (last_next level t (changes_after level 0 t) (level t == level (suc t)) refl (last_is level t))

-- a unit in which no input changes
pub rests_without_events : RestsWithoutEvents
rests_without_events part m of_bits s =
    let own = reacts_as_module part m m.inputs of_bits s s.inputs in
    let stays : reaction_of part m m.inputs ≡ quiet (phase_of part m) =
    ap (λ (k : Memory). let r : Reaction = record { phase = phase_of part k; toggles = toggles_between m k } in r) s.stays
    ∙ rw (unchanged (output_of m 0), unchanged (output_of m 1), unchanged (output_of m 2)) refl in
    sym (ap (λ e. react (automaton_of part) (phase_of part m) e) (no_event m)) ∙ sym own ∙ stays

grow : (level : ℕ → ℕ) (t : ℕ) (same : Bool) → (level t == level (suc t)) ≡ same → level t ≤ 1 → level (suc t) ≤ 1 →
    last_from (level 0) (changes_after level 0 t) ≡ level t →
    wave_upto level (suc t) ≡ cond (not same) (toggled_at (wave_upto level t) (suc t)) (wave_upto level t)
grow level t true is low next last =
    let from_zero : 0 + t ≡ t = omega arith in
    ap (λ changes. let w : Waveform = record { initial = level 0; changes = changes } in w) (rw (from_zero, is, append-nil (changes_after level 0 t)) refl)
grow level t false is low next last =
    let from_zero : 0 + t ≡ t = omega arith in
    let differs : level t ≢ level (suc t) = eqb-false (level t) (level (suc t)) is in
    let turned : level (suc t) ≡ 1 - level t = omega arith in
    ap (λ changes. let w : Waveform = record { initial = level 0; changes = changes } in w) (rw (from_zero, is, last, turned) refl)

pub waves_grow : WavesGrow
waves_grow level t low =
    let e : suc t ≡ t + 1 = omega arith in
    subst (λ k. wave_upto level k ≡ cond (not (level t == level k)) (toggled_at (wave_upto level t) k) (wave_upto level t)) e
    (grow level t (level t == level (suc t)) refl (low t) (low (suc t)) (last_is level t))
