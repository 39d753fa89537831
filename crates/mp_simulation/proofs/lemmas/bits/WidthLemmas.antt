-- The states of modules of width 1 in a netlist.
use Rattle.std.proofs.Common.{◌≡◌, ℕ, zero, suc, ◌+◌, ◌-◌, ◌^◌, ◌<◌, ◌≤◌, Bool, true, false, cond, List, [], ◌∷◌, length, map, slice_index, nat_lt, Some, refl, sym, ◌∙◌, arith, subst}
use Rattle.std.specs.Prelude.{slice_index_or, slice_set}
use Rattle.std.proofs.lemmas.List.{length-set}
use Rattle.std.proofs.lemmas.Bool.Decides.{nat_tests}
use Rattle.mp_modules.specs.declared.kind.Kind.{Kind}
use Rattle.mp_modules.specs.declared.kind.Kind.TheVariants as kinds
use Rattle.mp_modules.specs.declared.core_module.CoreModule.{CoreModule}
use Rattle.mp_modules.specs.declared.core_module.CoreModule.TheVariants as core
use Rattle.mp_modules.specs.declared.memory.Memory.{Memory}
use Rattle.mp_modules.specs.Kinds.{width_from, input_width, output_width, are_params}
use Rattle.mp_modules.specs.Memories.{input_levels, output_of, seen}
use Rattle.mp_modules.specs.Tables as tables
use Rattle.mp_modules.specs.declared.function.Function.TheVariants as functions
use Rattle.mp_modules.proofs.KindLemmas.{narrow_input, narrow_output, some_input}
use Rattle.mp_modules.specs.declared.storage.any_module.AnyModule.{AnyModule}
use Rattle.mp_modules.specs.declared.storage.any_module.AnyModule.TheVariants as parts
use Rattle.mp_modules.specs.storage.AnyModules.{any_part_of, start, step}
use Rattle.mp_records.specs.declared.module_record.ModuleRecord.{ModuleRecord}
use Rattle.mp_records.specs.declared.ports.Input.{Input}
use Rattle.mp_records.specs.Inputs.{no_input, input_at}
use Rattle.mp_netlist.specs.Circuit.{Circuit, IsCircuit, wire_at, width_of, module_at, module_width}
use Rattle.mp_model.specs.Levels.{built, input_by, inputs_by}
use Rattle.mp_model.specs.Waves.{level, state}
use Rattle.mp_model.proofs.BehaviourLemmas.{satisfies}
use Rattle.mp_model.proofs.BuiltLemmas.{wire_width}
use Rattle.mp_model.proofs.InputLemmas.{input_is}
use Rattle.mp_model.proofs.LevelFitLemmas.{level_fits}
use Rattle.mp_model.proofs.ModuleFitLemmas.{InputsFit, OutputsFit, param_below, step_fits, settle_fits}
use Rattle.mp_model.proofs.StepLemmas.{settle_steps, by_toggle, by_select, by_call, by_arbiter}
use Rattle.mp_modules.specs.automata.BitModules.{AreBits, IsOfBits, IsBitState}
use Rattle.mp_simulation.specs.bits.Widths.{HasBits, HaveBits}
use Rattle.mp_simulation.proofs.lemmas.bits.StayLemmas.{states_stay}
use Rattle.mp_simulation.proofs.lemmas.bits.PortEventLemmas.{held}
use Rattle.mp_simulation.proofs.lemmas.bits.ClientLemmas.{clients_at}

-- ---- three outputs

abbrev AreThree : List ℕ → Type 0
AreThree outputs = length outputs ≡ 3

abbrev HasThree : Memory → Type 0
HasThree memory = AreThree memory.outputs

three_flips : (xs : List ℕ) (port : ℕ) → AreThree xs → AreThree (slice_set xs port (1 - slice_index xs port))
three_flips xs port three = length-set xs port (1 - slice_index xs port) ∙ three

three_core : (part : CoreModule) (memory : Memory) (x : List ℕ) → HasThree memory → HasThree (tables.step part memory x)
three_core (core.C c) memory x three = refl
three_core core.Toggle memory x three = by_toggle AreThree three_flips memory x three
three_core core.Select memory x three = by_select AreThree three_flips memory x three
three_core core.Call memory x three = by_call AreThree three_flips memory x three
three_core core.Arbiter memory x three = by_arbiter AreThree three_flips memory x three

three_step : (part : AnyModule) (memory : Memory) (x : List ℕ) → HasThree memory → HasThree (step part memory x)
unfolding step
three_step (parts.Core part) memory x three = three_core part memory x three
three_step (parts.Reg part) memory x three = refl
three_step (parts.Function part) memory x three = refl

three_core_start : (part : CoreModule) → HasThree (tables.start part)
three_core_start (core.C c) = refl
three_core_start _ = refl

three_start : (part : AnyModule) → HasThree (start part)
unfolding start
three_start (parts.Core part) = three_core_start part
three_start (parts.Reg part) = refl
three_start (parts.Function part) = refl

shape_of : (xs : List ℕ) → length xs ≡ 3 → xs ≡ slice_index xs 0 ∷ slice_index xs 1 ∷ slice_index xs 2 ∷ []
shape_of [] long = absurd (omega arith)
shape_of (a ∷ []) long = absurd (omega arith)
shape_of (a ∷ b ∷ []) long = absurd (omega arith)
shape_of (a ∷ b ∷ c ∷ []) long = refl
shape_of (a ∷ b ∷ c ∷ d ∷ xs) long = absurd (omega arith)

-- ---- ports of width 1

below_two : (v width : ℕ) → width ≡ 1 → v < 2 ^ width → v ≤ 1
below_two v width one low = let now : v < 2 = subst (λ k. v < 2 ^ k) one low in omega arith

from_two : (v width : ℕ) → width ≡ 1 → v ≤ 1 → v < 2 ^ width
from_two v width one low = subst (λ k. v < 2 ^ k) (sym one) (let now : v < 2 = omega arith in now)

each_bit : (f : Input → ℕ) (inputs : List Input) → ((p : ℕ) (i : Input) → p < length inputs → f (slice_index_or inputs p i) ≤ 1) → AreBits (map f inputs)
each_bit f [] low p = omega arith
each_bit f (i ∷ inputs) low zero = low 0 i (omega arith)
each_bit f (i ∷ inputs) low (suc p) = each_bit f inputs (λ q j within. low (suc q) j (omega (arith, within))) p

four_bits : (x : List ℕ) → AreBits x → AreBits (input_levels x)
four_bits x bits zero = bits 0
four_bits x bits (suc zero) = bits 1
four_bits x bits (suc (suc zero)) = bits 2
four_bits x bits (suc (suc (suc zero))) = bits 3
four_bits x bits (suc (suc (suc (suc p)))) = omega arith

-- a module of width 1, by the width of the wire at its first input, has ports of width 1
kind_bits : (kind : Kind) (params : List ℕ) (first : ℕ) → 0 < first → width_from kind first ≡ 1 → are_params kind (width_from kind first) params ≡ true
    → IsOfBits (any_part_of kind params (width_from kind first))
unfolding any_part_of
kind_bits kinds.C params first some one valid = tt
kind_bits (kinds.Function functions.AddC) params first some one valid = one
kind_bits (kinds.Function functions.XorC) params first some one valid =
    below_two (slice_index params 0) first one (param_below (kinds.Function functions.XorC) first params (from_two 0 first one (omega arith)) valid)
kind_bits (kinds.Function functions.Sum) params first some one valid = one
kind_bits (kinds.Function functions.Bit) params first some one valid =
    let low : slice_index params 0 < first = param_below (kinds.Function functions.Bit) first params some valid in
    omega (arith, low, one)
kind_bits (kinds.Function functions.Sub) params first some one valid = one
kind_bits (kinds.Function functions.Join) params first some one valid = absurd (grind (arith, nat_tests, some, one))
kind_bits _ params first some one valid = tt

-- ---- in a netlist

module _ (n : Circuit) (ok : IsCircuit n) (m : ℕ) (r : ModuleRecord) (at : module_at n m ≡ Some r) (one : module_width n r ≡ 1) where
  inputs_are : (t : ℕ) → AreBits (inputs_by n (level n) r t)
  inputs_are t =
      each_bit (λ i. input_by n (level n) i t) r.inputs
      (λ p i within.
      let here = slice_index_or r.inputs p i in
      let has = (ok.modules_ok m r at).reads p i within in
      let low = level_fits n ok here.wire.0 (t - here.delay) in
      let is = input_is n ok here t in
      let bit_low = below_two (level n here.wire.0 (t - here.delay)) (width_of (wire_at n here.wire.0)) (has.1 ∙ narrow_input r.kind (module_width n r) p one) low in
      omega arith)

  fit : (t : ℕ) → InputsFit r.kind (module_width n r) (inputs_by n (level n) r t)
  fit t p = from_two (slice_index (inputs_by n (level n) r t) p) (input_width r.kind (module_width n r) p) (narrow_input r.kind (module_width n r) p one) (inputs_are t p)

  narrow : module_width n r ≤ 64
  narrow = omega arith

  outputs_fit : (t : ℕ) → OutputsFit r.kind (module_width n r) (state n m t)
  outputs_fit zero =
      subst (OutputsFit r.kind (module_width n r)) (sym ((satisfies n ok).settled m r at))
      (settle_fits (module_width n r) r.params narrow r.kind (inputs_by n (level n) r 0) (ok.modules_ok m r at).params (fit 0))
  outputs_fit (suc t) =
      let e : t + 1 ≡ suc t = omega arith in
      subst (λ k. OutputsFit r.kind (module_width n r) (state n m k)) e
      (subst (OutputsFit r.kind (module_width n r)) (sym ((satisfies n ok).stepped m t r at))
      (step_fits (module_width n r) r.params narrow r.kind (state n m t) (inputs_by n (level n) r (t + 1)) (ok.modules_ok m r at).params (fit (t + 1)) (outputs_fit t)))

  outputs_are : (t : ℕ) → AreBits (state n m t).outputs
  outputs_are t zero = below_two (output_of (state n m t) 0) (output_width r.kind (module_width n r) 0) (narrow_output r.kind (module_width n r) 0 one) (outputs_fit t).first
  outputs_are t (suc p) = let low = (outputs_fit t).others p in omega arith

  three_at : (t : ℕ) → HasThree (state n m t)
  three_at zero =
      let x = inputs_by n (level n) r 0 in
      subst HasThree (sym ((satisfies n ok).settled m r at ∙ settle_steps (built n r) x)) (three_step (built n r) (seen x (start (built n r))) x (three_start (built n r)))
  three_at (suc t) =
      let e : t + 1 ≡ suc t = omega arith in
      subst (λ k. HasThree (state n m k)) e
      (subst HasThree (sym ((satisfies n ok).stepped m t r at)) (three_step (built n r) (state n m t) (inputs_by n (level n) r (t + 1)) (three_at t)))

  bits_at : (t : ℕ) → IsBitState (built n r) (state n m t)
  bits_at t = record {
    inputs = subst (λ (xs : List ℕ). AreBits xs) (sym (held n ok m t r at)) (four_bits (inputs_by n (level n) r t) (inputs_are t));
    outputs = outputs_are t;
    shape = shape_of (state n m t).outputs (three_at t);
    clients = clients_at n ok m t r at;
    stays = states_stay n ok m t r at;
  }

  first_wide : 0 < width_of (wire_at n (input_at r 0).wire.0)
  first_wide =
      let some : 0 < length r.inputs = omega (arith, (ok.modules_ok m r at).inputs, some_input r.kind) in
      let wide = wire_width n ok (input_at r 0).wire.0 ((ok.modules_ok m r at).reads 0 no_input some).0 in
      omega (arith, wide.0)

  bits : HasBits n m r
  bits = record {
    of_bits = kind_bits r.kind r.params (width_of (wire_at n (input_at r 0).wire.0)) first_wide one (ok.modules_ok m r at).params;
    inputs = inputs_are;
    states = bits_at;
  }

pub have_bits : HaveBits
have_bits n ok m r at one = bits n ok m r at one
