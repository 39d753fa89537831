-- A module of width 1 goes on to the next unit.
use Rattle.std.proofs.Common.{◌≡◌, ℕ, ◌+◌, Some, sym, ap, ◌∙◌, subst}
use Rattle.std.specs.Prelude.{bit_xor}
use Rattle.mp_modules.specs.declared.memory.Memory.{Memory}
use Rattle.mp_records.specs.declared.module_record.ModuleRecord.{ModuleRecord}
use Rattle.mp_netlist.specs.Circuit.{Circuit, IsCircuit, module_at}
use Rattle.mp_model.specs.Levels.{built, inputs_by}
use Rattle.mp_model.specs.Waves.{level, state}
use Rattle.mp_model.proofs.BehaviourLemmas.{satisfies}
use Rattle.mp_modules.specs.declared.automata.reaction.Reaction.{Reaction}
use Rattle.mp_modules.specs.automata.Phases.{phase_of}
use Rattle.mp_modules.specs.automata.BitModules.{toggles_between, AreBits, IsOfBits, IsBitState}
use Rattle.mp_modules.specs.automata.PortLevels.{ports_code, levels_code}
use Rattle.mp_modules.proofs.lemmas.automata.ReactionLemmas.{reacts_as_module}
use Rattle.mp_modules.proofs.lemmas.automata.LevelLemmas.{levels_follow}
use Rattle.mp_kernel.specs.events.Firing.{reaction}
use Rattle.mp_simulation.specs.bits.Advancing.{unit_state_at, StatesAdvance}

pub states_advance : StatesAdvance
states_advance n ok m t r at of_bits s bits =
    let part = built n r in
    let x = inputs_by n (level n) r (t + 1) in
    let shown : Memory → Reaction = λ k. record { phase = phase_of part k; toggles = toggles_between (state n m t) k } in
    let is : reaction (unit_state_at n r m t) ≡ shown (state n m (t + 1)) =
    sym (reacts_as_module part (state n m t) x of_bits s bits) ∙ ap shown (sym ((satisfies n ok).stepped m t r at)) in
    record {
      phase = ap (λ (k : Reaction). k.phase) is;
      toggles = ap (λ (k : Reaction). k.toggles) is;
    }

-- and the levels at its ports go on with it
pub levels_advance : (n : Circuit) → IsCircuit n → (m t : ℕ) (r : ModuleRecord) → module_at n m ≡ Some r → IsOfBits (built n r) → ((u : ℕ) → IsBitState (built n r) (state n m u)) →
    AreBits (inputs_by n (level n) r (t + 1)) →
    bit_xor (levels_code (state n m t)) (ports_code (unit_state_at n r m t).events (reaction (unit_state_at n r m t)).toggles) ≡ levels_code (state n m (t + 1))
levels_advance n ok m t r at of_bits states bits =
    let stepped = (satisfies n ok).stepped m t r at in
    levels_follow (built n r) (state n m t) (inputs_by n (level n) r (t + 1)) of_bits (states t) bits (subst (λ (k : Memory). AreBits k.outputs) stepped (states (t + 1)).outputs)
    ∙ ap levels_code (sym stepped)
