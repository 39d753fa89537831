-- A module of width 1 goes on as its automaton does.
use Rattle.std.proofs.Common.{◌≡◌, ℕ, ◌+◌, ◌-◌, ◌≤◌, ◌/◌, ◌%◌, ◌^◌, Bool, true, false, not, List, [], ◌∷◌, refl, sym, ap, ◌∙◌, arith}
use Rattle.std.specs.Prelude.{◌==◌, slice_index}
use Rattle.mp_modules.specs.declared.core_module.CoreModule.TheVariants as core
use Rattle.mp_modules.specs.declared.memory.Memory.{Memory}
use Rattle.mp_modules.specs.declared.memory.Client.TheVariants.{First, Second}
use Rattle.mp_modules.specs.Memories.{output_of, seen, is_event}
use Rattle.mp_modules.specs.Call as call
use Rattle.mp_modules.specs.Arbiter as arbiter
use Rattle.mp_modules.specs.declared.function.Function.{Function}
use Rattle.mp_modules.specs.declared.function.Function.TheVariants as functions
use Rattle.mp_modules.specs.declared.storage.any_module.AnyModule.TheVariants as parts
use Rattle.mp_modules.specs.declared.storage.any_module.AnyModule.{AnyModule}
use Rattle.mp_modules.specs.storage.AnyModules.{step}
use Rattle.mp_modules.specs.automata.BitModules.{AreBits, IsBitState, IsFunctionOfBits, events_in}
use Rattle.mp_modules.specs.automata.Automata.{automaton_of}
use Rattle.mp_modules.specs.automata.Phases.{phase_of, unserved}
use Rattle.mp_modules.specs.storage.Widths.{modulus}
use Rattle.mp_modules.specs.declared.storage.reg.Reg.{Reg}
use Rattle.mp_modules.specs.declared.rendezvous.Rendezvous.{Rendezvous}
use Rattle.mp_modules.specs.CElement.{bubbled}
use Rattle.mp_modules.specs.automata.Reactions.{react, quiet, differ, choose, toggle_second_if, toggle_third_if}
use Rattle.mp_modules.specs.automata.AutomatonLaws.{ReactsAsModule, reaction_of}
use Rattle.mp_modules.proofs.lemmas.automata.BitLemmas.{inverted, merges, adds, sums, subtracts, masks, kept_bits, moved, both_moved, moved_one, moved_zero, ands, ors, compares, selects}
use Rattle.mp_modules.proofs.lemmas.automata.SingleLemmas.{follows, joins, meets, picks}
use Rattle.mp_modules.proofs.lemmas.automata.SteeredLemmas.{alternates, chooses, holds, same_hold}
use Rattle.mp_modules.proofs.lemmas.automata.ServedLemmas.{after, serves, grants, mirrored}

-- what holds of one module
abbrev Reacts : AnyModule → Memory → List ℕ → Type 0
Reacts part m x = reaction_of part m x ≡ react (automaton_of part) (phase_of part m) (events_in m x)

outputs : {a b : Memory} → a ≡ b → b.outputs ≡ a.outputs
outputs is = sym (ap (λ (k : Memory). k.outputs) is)

-- what CALL does by its rules
called : (m : Memory) (x : List ℕ) → IsBitState (parts.Core core.Call) m → Reacts (parts.Core core.Call) m x
unfolding step react
called m x s =
    let a = output_of m 0 in
    let b = output_of m 1 in
    let c = output_of m 2 in
    let r = quiet (record { served = m.served; waiting = m.waiting }) in
    let begin : m ≡ after m.inputs a b c r = ap (λ outs. record m { outputs = outs }) s.shape in
    mirrored m x (call.call_step m x) a b c _ s.shape
    (ap (λ k. seen x (call.called Second (is_event m x 1) (call.called First (is_event m x 0) (call.ended (is_event m x 2) k)))) begin ∙
    ap (λ k. seen x k) (serves m.inputs a b c (s.outputs 0) (s.outputs 1) (s.outputs 2) (is_event m x 0) (is_event m x 1) (is_event m x 2) r))

-- what ARBITER does by its rules
arbitrated : (m : Memory) (x : List ℕ) → IsBitState (parts.Core core.Arbiter) m → Reacts (parts.Core core.Arbiter) m x
unfolding step react
arbitrated m x s =
    let a = output_of m 0 in
    let b = output_of m 1 in
    let c = output_of m 2 in
    let r = quiet (record { served = m.served; waiting = m.waiting }) in
    let begin : m ≡ after m.inputs a b c r = ap (λ outs. record m { outputs = outs }) s.shape in
    mirrored m x (arbiter.arbiter_step m x) a b c _ s.shape
    (ap (λ k. seen x (arbiter.requested Second (is_event m x 1) (arbiter.requested First (is_event m x 0)
    (arbiter.promoted (arbiter.released (is_event m x 2) (is_event m x 3) k))))) begin ∙
    ap (λ k. seen x k) (grants m.inputs a b c (s.outputs 0) (s.outputs 1) (s.outputs 2) (is_event m x 0) (is_event m x 1) (is_event m x 2) (is_event m x 3) r))

toggle : (m : Memory) (x : List ℕ) → IsBitState (parts.Core core.Toggle) m → Reacts (parts.Core core.Toggle) m x
unfolding step react
toggle m x s = alternates m x (output_of m 0) (output_of m 1) (output_of m 2) _ (is_event m x 0) (s.outputs 0) (s.outputs 1) s.shape refl

select : (m : Memory) (x : List ℕ) → IsBitState (parts.Core core.Select) m → AreBits x → Reacts (parts.Core core.Select) m x
unfolding step react
select m x s bits =
    chooses m x (output_of m 0) (output_of m 1) (output_of m 2) (slice_index x 1 == 1) (is_event m x 0) s.shape ∙
    ap (λ diamond. choose diamond (is_event m x 0)) (sym (moved_one (slice_index m.inputs 1) (slice_index x 1) (s.inputs 1) (bits 1)))

behind : (bubble : Bool) (a : ℕ) → a ≤ 1 → bubbled bubble a ≤ 1
behind true a low = omega arith
behind false a low = low

-- an event behind a bubble is one
passes : (bubble : Bool) (a b : ℕ) → a ≤ 1 → b ≤ 1 → not (bubbled bubble a == bubbled bubble b) ≡ not (a == b)
passes true a b ha hb = inverted a b ha hb
passes false a b ha hb = refl

-- whether an input waits after its event, or after none
still_waits : (bubble : Bool) (a b q : ℕ) → a ≤ 1 → b ≤ 1 → q ≤ 1 →
    differ (not (bubbled bubble a == q)) (not (a == b)) ≡ not (bubbled bubble b == q)
still_waits bubble a b q ha hb hq =
    ap (λ event. differ (not (bubbled bubble a == q)) event) (sym (passes bubble a b ha hb)) ∙
    moved (bubbled bubble a) (bubbled bubble b) q (behind bubble a ha) (behind bubble b hb) hq

c_outputs : (c : Rendezvous) (m : Memory) → IsBitState (parts.Core (core.C c)) m → m.outputs ≡ output_of m 0 ∷ 0 ∷ 0 ∷ []
unfolding step
c_outputs c m s =
    let outs = outputs s.stays in
    outs ∙ ap (λ q. q ∷ 0 ∷ 0 ∷ []) (sym (ap (λ l. slice_index l 0) outs))

rendezvous : (c : Rendezvous) (m : Memory) (x : List ℕ) → IsBitState (parts.Core (core.C c)) m → AreBits x → Reacts (parts.Core (core.C c)) m x
unfolding step react
rendezvous c m x s bits =
    let q = output_of m 0 in
    let a = bubbled c.bubble_a (slice_index x 0) in
    let b = bubbled c.bubble_b (slice_index x 1) in
    let wa = still_waits c.bubble_a (slice_index m.inputs 0) (slice_index x 0) q (s.inputs 0) (bits 0) (s.outputs 0) in
    let wb = still_waits c.bubble_b (slice_index m.inputs 1) (slice_index x 1) q (s.inputs 1) (bits 1) (s.outputs 0) in
    joins m x a b q _ _ _ (behind c.bubble_a _ (bits 0)) (behind c.bubble_b _ (bits 1)) (s.outputs 0) (c_outputs c m s) refl (sym wa) (sym wb)

register : (reg : Reg) (m : Memory) (x : List ℕ) → IsBitState (parts.Reg reg) m → AreBits x → Reacts (parts.Reg reg) m x
unfolding step react
register reg m x s bits =
    let q = output_of m 0 in
    let outs = outputs s.stays in
    let own : m.outputs ≡ q ∷ slice_index m.inputs 1 ∷ slice_index m.inputs 2 ∷ [] =
    outs ∙ ap (λ v. v ∷ slice_index m.inputs 1 ∷ slice_index m.inputs 2 ∷ []) (sym (ap (λ l. slice_index l 0) outs)) in
    let is_open = slice_index x 1 == slice_index x 2 in
    let h = both_moved (slice_index m.inputs 1) (slice_index m.inputs 2) (slice_index x 1) (slice_index x 2) (s.inputs 1) (s.inputs 2) (bits 1) (bits 2) in
    let f = moved (slice_index m.inputs 0) (slice_index x 0) q (s.inputs 0) (bits 0) (s.outputs 0) in
    holds m x (slice_index x 0) q (slice_index m.inputs 1) (slice_index m.inputs 2) (slice_index x 1) (slice_index x 2) is_open _ (is_event m x 1) (is_event m x 2)
    own refl refl refl ∙
    ap (λ k. toggle_third_if (is_event m x 2) (toggle_second_if (is_event m x 1) k)) (sym (same_hold h f))

-- the module of a function
abbrev computing : Function → ℕ → ℕ → AnyModule
computing f width k = parts.Function (record { function = f; width = width; constant = k })

function_reacts : (f : Function) (width k : ℕ) (m : Memory) (x : List ℕ) → IsFunctionOfBits f width k → IsBitState (computing f width k) m → AreBits x →
    Reacts (computing f width k) m x
unfolding step react
function_reacts functions.Buf width k m x of_bits s bits = follows (unserved false false) m x _ _ _ (outputs s.stays) refl
function_reacts functions.Not width k m x of_bits s bits = follows (unserved false false) m x _ _ _ (outputs s.stays) (inverted _ _ (s.inputs 0) (bits 0))
function_reacts functions.Xor width k m x of_bits s bits =
    follows (unserved false false) m x _ _ _ (outputs s.stays) (merges _ _ _ _ (s.inputs 0) (s.inputs 1) (bits 0) (bits 1))
function_reacts functions.AddC width k m x one s bits =
    follows (unserved false false) m x _ _ _ (outputs s.stays)
    (ap (λ w. not ((slice_index m.inputs 0 + k) % modulus w == (slice_index x 0 + k) % modulus w)) one ∙
    adds (slice_index m.inputs 0) (slice_index x 0) k (s.inputs 0) (bits 0))
function_reacts functions.XorC width k m x low s bits = follows (unserved false false) m x _ _ _ (outputs s.stays) (masks k _ _ low (s.inputs 0) (bits 0))
function_reacts functions.Sum width k m x one s bits =
    follows (unserved false false) m x _ _ _ (outputs s.stays)
    (ap (λ w. not ((slice_index m.inputs 0 + slice_index m.inputs 1) % modulus w == (slice_index x 0 + slice_index x 1) % modulus w)) one ∙
    sums _ _ _ _ (s.inputs 0) (s.inputs 1) (bits 0) (bits 1))
function_reacts functions.Bit width k m x none s bits =
    follows (unserved false false) m x _ _ _ (outputs s.stays)
    (ap (λ p. not (slice_index m.inputs 0 / 2 ^ p % 2 == slice_index x 0 / 2 ^ p % 2)) none ∙
    kept_bits _ _ (s.inputs 0) (bits 0))
function_reacts functions.And width k m x of_bits s bits =
    meets m x _ _ (slice_index m.inputs 0 == 1) (slice_index m.inputs 1 == 1) (is_event m x 0) (is_event m x 1) _ _ (outputs s.stays)
    (moved_one _ _ (s.inputs 0) (bits 0)) (moved_one _ _ (s.inputs 1) (bits 1))
    (ands _ _ _ _ (s.inputs 0) (s.inputs 1) (bits 0) (bits 1))
function_reacts functions.Or width k m x of_bits s bits =
    meets m x _ _ (slice_index m.inputs 0 == 0) (slice_index m.inputs 1 == 0) (is_event m x 0) (is_event m x 1) _ _ (outputs s.stays)
    (moved_zero _ _ (s.inputs 0) (bits 0)) (moved_zero _ _ (s.inputs 1) (bits 1))
    (ors _ _ _ _ (s.inputs 0) (s.inputs 1) (bits 0) (bits 1))
function_reacts functions.Sub width k m x one s bits =
    follows (unserved false false) m x _ _ _ (outputs s.stays)
    (ap (λ w. not ((slice_index m.inputs 0 + (2 ^ 64 - slice_index m.inputs 1)) % modulus w == (slice_index x 0 + (2 ^ 64 - slice_index x 1)) % modulus w)) one ∙
    subtracts _ _ _ _ (s.inputs 0) (s.inputs 1) (bits 0) (bits 1))
function_reacts functions.Less width k m x of_bits s bits =
    meets m x _ _ (slice_index m.inputs 0 == 0) (slice_index m.inputs 1 == 1) (is_event m x 0) (is_event m x 1) _ _ (outputs s.stays)
    (moved_zero _ _ (s.inputs 0) (bits 0)) (moved_one _ _ (s.inputs 1) (bits 1))
    (compares _ _ _ _ (s.inputs 0) (s.inputs 1) (bits 0) (bits 1))
function_reacts functions.Mux width k m x of_bits s bits =
    picks m x _ _ (slice_index m.inputs 2 == 1) (not (slice_index m.inputs 0 == slice_index m.inputs 1)) (is_event m x 0) (is_event m x 1) (is_event m x 2) _ _ (outputs s.stays)
    (moved_one _ _ (s.inputs 2) (bits 2))
    (both_moved _ _ _ _ (s.inputs 0) (s.inputs 1) (bits 0) (bits 1))
    (selects _ _ _ _ _ _ (s.inputs 0) (s.inputs 1) (s.inputs 2) (bits 0) (bits 1) (bits 2))
function_reacts functions.Join width k m x none s bits = absurd none

pub reacts_as_module : ReactsAsModule
reacts_as_module (parts.Core (core.C c)) m x of_bits s bits = rendezvous c m x s bits
reacts_as_module (parts.Core core.Toggle) m x of_bits s bits = toggle m x s
reacts_as_module (parts.Core core.Select) m x of_bits s bits = select m x s bits
reacts_as_module (parts.Core core.Call) m x of_bits s bits = called m x s
reacts_as_module (parts.Core core.Arbiter) m x of_bits s bits = arbitrated m x s
reacts_as_module (parts.Reg reg) m x of_bits s bits = register reg m x s bits
reacts_as_module (parts.Function part) m x of_bits s bits = function_reacts part.function part.width part.constant m x of_bits s bits
