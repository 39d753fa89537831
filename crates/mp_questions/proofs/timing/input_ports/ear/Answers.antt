use Rattle.std.proofs.Common.{◌≡◌, ◌<◌, ℕ, true, nat_lt, List, get_or, length, refl, sym, subst, arith}
use Rattle.std.proofs.lemmas.Bool.Decides.{nat_tests}
use Rattle.mp_records.specs.declared.ports.Input.{Input}
use Rattle.mp_questions.specs.declared.timing.delayed_input.DelayedInput.{DelayedInput}
use Rattle.mp_questions.proofs.lemmas.timing.EarLemmas.{hears_input}
use Rattle.mp_questions.proofs.timing.input_ports.ear.Goals as goal

below : (a b : ℕ) → true ≡ nat_lt a b → a < b
below a b test = let is : nat_lt a b ≡ true = sym test in grind (arith, nat_tests)

pub returns-in-Some : goal.returns-in-Some
returns-in-Some c =
    let r = c.args.found.now in
    let p = c.args.port in
    let i = c.in-Some.input.now in
    let h : DelayedInput = record { wave = c.wave_of.result; delay = i.delay } in
    let within : p < length r.inputs = subst (λ (l : List Input). p < length l) c.as_slice.ensures (below p (length c.as_slice.result.now) c.in-Some.ensures.lookup.0) in
    let is : i ≡ get_or r.inputs p i = subst (λ (l : List Input). i ≡ get_or l p i) c.as_slice.ensures c.in-Some.ensures.lookup.1 in
    hears_input c.args.at.now.netlist.now c.horizon-horizon.ensures.form r p i h within is c.wave_of.ensures refl
