-- The levels at the ports of a module of width 1, as bits.
use Rattle.std.proofs.Common.{◌≡◌, ℕ, ◌+◌, ◌*◌, ◌/◌, ◌%◌, ◌≤◌, Bool, true, false, not, List, [], ◌∷◌, length, refl, sym, ap, ◌∙◌, arith}
use Rattle.std.specs.Prelude.{◌==◌, slice_index, bit_xor}
use Rattle.std.proofs.lemmas.Nat.{xor_block}
use Rattle.mp_modules.specs.declared.core_module.CoreModule.{CoreModule}
use Rattle.mp_modules.specs.declared.core_module.CoreModule.TheVariants as core
use Rattle.mp_modules.specs.declared.memory.Memory.{Memory}
use Rattle.mp_modules.specs.Memories.{input_levels, output_of}
use Rattle.mp_modules.specs.Tables as tables
use Rattle.mp_modules.specs.declared.storage.any_module.AnyModule.{AnyModule}
use Rattle.mp_modules.specs.declared.storage.any_module.AnyModule.TheVariants as parts
use Rattle.mp_modules.specs.storage.AnyModules.{step}
use Rattle.mp_modules.specs.declared.automata.events.Events.{Events}
use Rattle.mp_modules.specs.declared.automata.phase.Phase.{Phase}
use Rattle.mp_modules.specs.declared.automata.reaction.Reaction.{Reaction}
use Rattle.mp_modules.specs.declared.automata.toggles.Toggles.{Toggles}
use Rattle.mp_modules.specs.automata.AutomatonLaws.{LevelsFollow}
use Rattle.mp_modules.specs.automata.BitModules.{AreBits, IsBitState, clients_of, events_in, toggles_between}
use Rattle.mp_modules.specs.automata.Codes.{bit}
use Rattle.mp_modules.specs.automata.PortLevels.{ports_code, high_inputs, high_outputs, levels_code, input_bits, output_bits}
use Rattle.mp_modules.specs.automata.Reactions.{differ}
use Rattle.mp_modules.proofs.lemmas.automata.CodeLemmas.{bit_low}
use Rattle.mp_modules.proofs.lemmas.automata.ReactionLemmas.{reacts_as_module}

-- ---- bits change

-- the number of some bits, the first one first
abbrev number : List Bool → ℕ
number [] = 0
number (b ∷ bs) = number bs * 2 + bit b

-- the bits, where some of them change
abbrev changed : List Bool → List Bool → List Bool
changed [] flips = []
changed (b ∷ bs) [] = []
changed (b ∷ bs) (f ∷ fs) = differ f b ∷ changed bs fs

one_changed : (b f : Bool) → bit_xor (bit b) (bit f) ≡ bit (differ f b)
one_changed true true = refl
one_changed true false = refl
one_changed false true = refl
one_changed false false = refl

all_changed : (bs fs : List Bool) → length bs ≡ length fs → bit_xor (number bs) (number fs) ≡ number (changed bs fs)
all_changed [] [] same = refl
all_changed [] (f ∷ fs) same = absurd (omega arith)
all_changed (b ∷ bs) [] same = absurd (omega arith)
all_changed (b ∷ bs) (f ∷ fs) same =
    let low_b = bit_low b in
    let low_f = bit_low f in
    xor_block 1 (number bs) (number fs) (bit b) (bit f) (omega arith) (omega arith)
    ∙ ap (λ k. bit_xor (number bs) (number fs) * 2 + k) (one_changed b f)
    ∙ ap (λ k. k * 2 + bit (differ f b)) (all_changed bs fs (omega arith))

abbrev ports : Events → Toggles → List Bool
ports e t = e.first ∷ e.second ∷ e.third ∷ e.fourth ∷ t.first ∷ t.second ∷ t.third ∷ []

ports_are : (e : Events) (t : Toggles) → ports_code e t ≡ number (ports e t)
ports_are e t = omega arith

abbrev inputs_changed : Events → Events → Events
inputs_changed e f = record { first = differ f.first e.first; second = differ f.second e.second; third = differ f.third e.third; fourth = differ f.fourth e.fourth }

abbrev outputs_changed : Toggles → Toggles → Toggles
outputs_changed t u = record { first = differ u.first t.first; second = differ u.second t.second; third = differ u.third t.third }

ports_changed : (e f : Events) (t u : Toggles) → bit_xor (ports_code e t) (ports_code f u) ≡ ports_code (inputs_changed e f) (outputs_changed t u)
ports_changed e f t u =
    ap (λ k. bit_xor k (ports_code f u)) (ports_are e t)
    ∙ ap (λ k. bit_xor (number (ports e t)) k) (ports_are f u)
    ∙ all_changed (ports e t) (ports f u) refl
    ∙ sym (ports_are (inputs_changed e f) (outputs_changed t u))

-- ---- levels follow

-- a level that changes where it differs from another becomes that one
becomes : (a b : ℕ) → a ≤ 1 → b ≤ 1 → differ (not (a == b)) (a == 1) ≡ (b == 1)
becomes a b ha hb = grind arith

same_events : {a b c d p q r s : Bool} → a ≡ p → b ≡ q → c ≡ r → d ≡ s →
    ◌≡◌ {A = Events} (record { first = a; second = b; third = c; fourth = d }) (record { first = p; second = q; third = r; fourth = s })
same_events one two three four = rw (one, two, three, four) refl

same_toggles : {a b c p q r : Bool} → a ≡ p → b ≡ q → c ≡ r →
    ◌≡◌ {A = Toggles} (record { first = a; second = b; third = c }) (record { first = p; second = q; third = r })
same_toggles one two three = rw (one, two, three) refl

abbrev high_in : List ℕ → Events
high_in x = record { first = slice_index x 0 == 1; second = slice_index x 1 == 1; third = slice_index x 2 == 1; fourth = slice_index x 3 == 1 }

pub follow : (m k : Memory) (x : List ℕ) → AreBits m.inputs → AreBits m.outputs → AreBits x → AreBits k.outputs → k.inputs ≡ input_levels x →
    bit_xor (levels_code m) (ports_code (events_in m x) (toggles_between m k)) ≡ levels_code k
follow m k x ins outs bits next held =
    ports_changed (high_inputs m) (events_in m x) (high_outputs m) (toggles_between m k)
    ∙ ap (λ (e : Events). ports_code e (outputs_changed (high_outputs m) (toggles_between m k)))
    (same_events (becomes _ _ (ins 0) (bits 0)) (becomes _ _ (ins 1) (bits 1)) (becomes _ _ (ins 2) (bits 2)) (becomes _ _ (ins 3) (bits 3)))
    ∙ ap (λ (t : Toggles). ports_code (high_in x) t)
    (same_toggles (becomes _ _ (outs 0) (next 0)) (becomes _ _ (outs 1) (next 1)) (becomes _ _ (outs 2) (next 2)))
    ∙ sym (ap (λ (xs : List ℕ). ports_code (high_in xs) (high_outputs k)) held)

core_inputs : (part : CoreModule) (m : Memory) (x : List ℕ) → (tables.step part m x).inputs ≡ input_levels x
core_inputs (core.C c) m x = refl
core_inputs _ m x = refl

-- a state holds the levels of its inputs
pub step_inputs : (part : AnyModule) (m : Memory) (x : List ℕ) → (step part m x).inputs ≡ input_levels x
unfolding step
step_inputs (parts.Core part) m x = core_inputs part m x
step_inputs (parts.Reg part) m x = refl
step_inputs (parts.Function part) m x = refl

pub levels_follow : LevelsFollow
levels_follow part m x of_bits s bits next =
    ap (λ (r : Reaction). bit_xor (levels_code m) (ports_code (events_in m x) r.toggles)) (sym (reacts_as_module part m x of_bits s bits))
    ∙ follow m (step part m x) x s.inputs s.outputs bits next (step_inputs part m x)

-- ---- a state is told by its bits

bit_is : (k : ℕ) → k ≤ 1 → bit (k == 1) ≡ k
bit_is k low = grind arith

pub inputs_told : (part : AnyModule) (m : Memory) → IsBitState part m → input_bits (levels_code m) ≡ m.inputs
inputs_told part m s =
    let a = bit_is (slice_index m.inputs 0) (s.inputs 0) in
    let b = bit_is (slice_index m.inputs 1) (s.inputs 1) in
    let c = bit_is (slice_index m.inputs 2) (s.inputs 2) in
    let d = bit_is (slice_index m.inputs 3) (s.inputs 3) in
    let e = bit_low (output_of m 0 == 1) in
    let f = bit_low (output_of m 1 == 1) in
    let g = bit_low (output_of m 2 == 1) in
    let low_a = s.inputs 0 in
    let low_b = s.inputs 1 in
    let low_c = s.inputs 2 in
    let low_d = s.inputs 3 in
    let n = levels_code m in
    let first : n % 2 ≡ slice_index m.inputs 0 = omega arith in
    let second : n / 2 % 2 ≡ slice_index m.inputs 1 = omega arith in
    let third : n / 4 % 2 ≡ slice_index m.inputs 2 = omega arith in
    let fourth : n / 8 % 2 ≡ slice_index m.inputs 3 = omega arith in
    ap (λ k. k ∷ n / 2 % 2 ∷ n / 4 % 2 ∷ n / 8 % 2 ∷ []) first
    ∙ ap (λ k. slice_index m.inputs 0 ∷ k ∷ n / 4 % 2 ∷ n / 8 % 2 ∷ []) second
    ∙ ap (λ k. slice_index m.inputs 0 ∷ slice_index m.inputs 1 ∷ k ∷ n / 8 % 2 ∷ []) third
    ∙ ap (λ k. slice_index m.inputs 0 ∷ slice_index m.inputs 1 ∷ slice_index m.inputs 2 ∷ k ∷ []) fourth
    ∙ sym (step_inputs part m m.inputs) ∙ ap (λ (k : Memory). k.inputs) s.stays

pub outputs_told : (part : AnyModule) (m : Memory) → IsBitState part m → output_bits (levels_code m) ≡ m.outputs
outputs_told part m s =
    let a = bit_is (output_of m 0) (s.outputs 0) in
    let b = bit_is (output_of m 1) (s.outputs 1) in
    let c = bit_is (output_of m 2) (s.outputs 2) in
    let d = bit_low (slice_index m.inputs 0 == 1) in
    let e = bit_low (slice_index m.inputs 1 == 1) in
    let f = bit_low (slice_index m.inputs 2 == 1) in
    let g = bit_low (slice_index m.inputs 3 == 1) in
    let low_a = s.outputs 0 in
    let low_b = s.outputs 1 in
    let low_c = s.outputs 2 in
    let n = levels_code m in
    let first : n / 16 % 2 ≡ output_of m 0 = omega arith in
    let second : n / 32 % 2 ≡ output_of m 1 = omega arith in
    let third : n / 64 % 2 ≡ output_of m 2 = omega arith in
    ap (λ k. k ∷ n / 32 % 2 ∷ n / 64 % 2 ∷ []) first
    ∙ ap (λ k. output_of m 0 ∷ k ∷ n / 64 % 2 ∷ []) second
    ∙ ap (λ k. output_of m 0 ∷ output_of m 1 ∷ k ∷ []) third
    ∙ sym s.shape

pub same_memory : (m : Memory) (inputs outputs : List ℕ) (clients : Phase) → inputs ≡ m.inputs → outputs ≡ m.outputs → clients ≡ clients_of m →
    ◌≡◌ {A = Memory} (record { inputs = inputs; outputs = outputs; served = clients.served; waiting = clients.waiting }) m
same_memory m inputs outputs clients one other served = rw (one, other, served) refl
