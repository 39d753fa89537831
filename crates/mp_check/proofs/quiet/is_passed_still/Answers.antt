use Rattle.std.proofs.Common.{◌≡◌, ◌<◌, ◌≤◌, ℕ, true, nat_lt, List, get_or, length, ap, sym, subst, ◌∙◌, arith}
use Rattle.std.proofs.lemmas.Bool.Decides.{nat_tests}
use Rattle.mp_modules.specs.Kinds.{input_count, output_count}
use Rattle.mp_modules.specs.declared.kind.Kind.TheVariants as kinds
use Rattle.mp_records.specs.declared.ports.Input.{Input}
use Rattle.mp_check.specs.Dead.{is_still}
use Rattle.mp_check.proofs.KeptLevelLemmas.{only_reg, passes}
use Rattle.mp_check.proofs.quiet.is_passed_still.Goals as goal

below : (a b : ℕ) → true ≡ nat_lt a b → a < b
below a b test = let is : nat_lt a b ≡ true = sym test in grind (arith, nat_tests)

pub returns : goal.returns
returns c =
    let of = c.args.of.now in
    let n = of.end.at.netlist.now in
    let r = of.part.now in
    let p = c.args.port in
    let i = c.in-Some.input.now in
    let within : p < length r.inputs = subst (λ (l : List Input). p < length l) c.as_slice.ensures (below p (length c.as_slice.result.now) c.in-Some.ensures.lookup.0) in
    let is : i ≡ get_or r.inputs p i = subst (λ (l : List Input). i ≡ get_or l p i) c.as_slice.ensures c.in-Some.ensures.lookup.1 in
    c.is_input_still.ensures
    ∙ sym (ap (λ (f : ℕ → ℕ). is_still n f c.args.after) (passes n c.horizon-horizon.ensures.form of.id.0 r of.stands c.requires.kind p c.requires.some c.requires.port i within is))

pub unreachable-requires : goal.unreachable-requires
unreachable-requires c =
    let of = c.args.of.now in
    let r = of.part.now in
    let reg : r.kind ≡ kinds.Reg = only_reg r.kind c.args.port c.requires.kind c.requires.some c.requires.port in
    let inputs : length r.inputs ≡ 3 = (c.horizon-horizon.ensures.form.modules_ok of.id.0 r of.stands).inputs ∙ ap input_count reg in
    let low : c.args.port < 3 = subst (λ k. c.args.port < output_count k) reg c.requires.port in
    let past : length r.inputs ≤ c.args.port = subst (λ (l : List Input). length l ≤ c.args.port) c.as_slice.ensures c.in-None.ensures.lookup.3 in
    absurd (omega (arith, inputs, low, past))
