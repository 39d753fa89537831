-- What a module hears of wires that toggle.
use Rattle.std.proofs.Common.{◌≡◌, ℕ, zero, suc, ◌+◌, ◌<◌, not, List, [], ◌∷◌, length, map, Some, refl, sym, ap, ◌∙◌, arith, subst}
use Rattle.std.specs.Prelude.{◌==◌, slice_index, slice_index_or}
use Rattle.mp_modules.specs.declared.memory.Memory.{Memory}
use Rattle.mp_modules.specs.Memories.{input_levels, seen}
use Rattle.mp_modules.specs.storage.AnyModules.{start}
use Rattle.mp_records.specs.declared.module_record.ModuleRecord.{ModuleRecord}
use Rattle.mp_records.specs.declared.ports.Input.{Input}
use Rattle.mp_netlist.specs.Circuit.{Circuit, IsCircuit, module_at}
use Rattle.mp_model.specs.Levels.{built, input_by, inputs_by}
use Rattle.mp_model.specs.Waves.{level, state}
use Rattle.mp_model.proofs.BehaviourLemmas.{satisfies}
use Rattle.mp_model.proofs.StepLemmas.{settle_steps}
use Rattle.mp_modules.specs.automata.Codes.{bit}
use Rattle.mp_kernel.specs.events.Ports.{listed_at}
use Rattle.mp_simulation.specs.bits.Changes.{late_change}
use Rattle.mp_simulation.specs.bits.PortEvents.{source_of, AreHeard, PortsHaveEvents}
use Rattle.mp_simulation.proofs.lemmas.bits.ChangeLemmas.{inputs_change}
use Rattle.mp_modules.proofs.lemmas.automata.LevelLemmas.{step_inputs}

-- a state holds the levels at its inputs
pub held : (n : Circuit) → IsCircuit n → (m t : ℕ) (r : ModuleRecord) → module_at n m ≡ Some r → (state n m t).inputs ≡ input_levels (inputs_by n (level n) r t)
held n ok m zero r at =
    let x = inputs_by n (level n) r 0 in
    ap (λ (s : Memory). s.inputs) ((satisfies n ok).settled m r at ∙ settle_steps (built n r) x) ∙ step_inputs (built n r) (seen x (start (built n r))) x
held n ok m (suc t) r at =
    let e : t + 1 ≡ suc t = omega arith in
    subst (λ k. (state n m k).inputs ≡ input_levels (inputs_by n (level n) r k)) e
    (ap (λ (s : Memory). s.inputs) ((satisfies n ok).stepped m t r at) ∙ step_inputs (built n r) (state n m t) (inputs_by n (level n) r (t + 1)))

pub same_head : {A : Type 0} {a b : A} {xs ys : List A} → a ∷ xs ≡ b ∷ ys → a ≡ b
same_head {a = a} same = ap (λ l. slice_index_or l 0 a) same

abbrev rest_of : {A : Type 0} → List A → List A
rest_of [] = []
rest_of (x ∷ xs) = xs

pub same_rest : {A : Type 0} {a b : A} {xs ys : List A} → a ∷ xs ≡ b ∷ ys → xs ≡ ys
same_rest same = ap rest_of same

none_is_some : {A : Type 0} {a : A} {xs : List A} → [] ≡ a ∷ xs → ⊥
none_is_some {a = a} {xs = xs} same = let e = ap length same in omega arith

first_in : (x : ℕ) (ports : List ℕ) → 0 < length (x ∷ ports)
first_in x ports = omega arith

later_in : (x : ℕ) (ports : List ℕ) (k : ℕ) → k < length ports → suc k < length (x ∷ ports)
later_in x ports k within = omega arith

-- the event at each input is the change of its port's source
heard_at : (n : Circuit) → IsCircuit n → (t : ℕ) (source : ℕ → ℕ × ℕ) (heard ports : List ℕ) (is : List Input) (p : ℕ) →
    map source ports ≡ map source_of is → AreHeard n source heard (t + 1) ports →
    listed_at ports p heard ≡
    bit (not (slice_index (map (λ i. input_by n (level n) i t) is) p == slice_index (map (λ i. input_by n (level n) i (t + 1)) is) p))
heard_at n ok t source heard [] [] p same each = refl
heard_at n ok t source heard [] (i ∷ is) p same each = absurd (none_is_some same)
heard_at n ok t source heard (x ∷ ports) [] p same each = absurd (none_is_some (sym same))
heard_at n ok t source heard (x ∷ ports) (i ∷ is) zero same each =
    each 0 x (first_in x ports) ∙ ap bit (ap (λ (s : ℕ × ℕ). late_change n s (t + 1)) (same_head same) ∙ sym (inputs_change n ok i t))
heard_at n ok t source heard (x ∷ ports) (i ∷ is) (suc p) same each =
    heard_at n ok t source heard ports is p (same_rest same) (λ k d within. each (suc k) d (later_in x ports k within))

pub ports_have_events : PortsHaveEvents
ports_have_events n ok m t r source ports heard at same each =
    let inputs = held n ok m t r at in
    let x = inputs_by n (level n) r (t + 1) in
    let event : (p : ℕ) → listed_at ports p heard ≡ bit (not (slice_index (inputs_by n (level n) r t) p == slice_index x p)) =
    λ p. heard_at n ok t source heard ports r.inputs p same each in
    record {
      first = event 0 ∙ ap (λ xs. bit (not (slice_index xs 0 == slice_index x 0))) (sym inputs);
      second = event 1 ∙ ap (λ xs. bit (not (slice_index xs 1 == slice_index x 1))) (sym inputs);
      third = event 2 ∙ ap (λ xs. bit (not (slice_index xs 2 == slice_index x 2))) (sym inputs);
      fourth = event 3 ∙ ap (λ xs. bit (not (slice_index xs 3 == slice_index x 3))) (sym inputs);
    }
