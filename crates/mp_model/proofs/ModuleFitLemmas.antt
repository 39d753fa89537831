-- The levels at the outputs of a module are no wider than the outputs.
use Rattle.std.proofs.Common.{◌≡◌, ℕ, ◌+◌, ◌-◌, ◌*◌, ◌%◌, ◌^◌, ◌<◌, ◌≤◌, Bool, true, false, not, cond, ◌==◌, List, [], ◌∷◌, length, slice_index, slice_set, zero, suc, sym, subst, arith}
use Rattle.std.specs.Prelude.{min, nat_lt}
use Rattle.std.specs.List.{list_all}
use Rattle.std.proofs.lemmas.Bool.{and_parts, ltb-true}
use Rattle.std.proofs.lemmas.Nat.{pow_pos, mod_below, and_le_l, or_lt, xor_lt}
use Rattle.mp_modules.specs.declared.kind.Kind.{Kind}
use Rattle.mp_modules.specs.declared.kind.Kind.TheVariants as kinds
use Rattle.mp_modules.specs.declared.function.Function.{Function}
use Rattle.mp_modules.specs.declared.function.Function.TheVariants as functions
use Rattle.mp_modules.specs.declared.memory.Memory.{Memory}
use Rattle.mp_modules.specs.declared.rendezvous.Rendezvous.{Rendezvous}
use Rattle.mp_modules.specs.Kinds.{input_width, output_width, param_count, param_bound, are_params}
use Rattle.mp_modules.specs.Memories.{with_one_output, output_of, seen}
use Rattle.mp_modules.specs.CElement.{bubbled, joined}
use Rattle.mp_modules.specs.Toggle.{toggle_step}
use Rattle.mp_modules.specs.Select.{select_step}
use Rattle.mp_modules.specs.Call.{call_step}
use Rattle.mp_modules.specs.Arbiter.{arbiter_step}
use Rattle.mp_modules.specs.Tables.{rendezvous}
use Rattle.mp_modules.specs.storage.Functions.{result_of}
use Rattle.mp_modules.specs.storage.Reg.{is_open}
use Rattle.mp_modules.specs.storage.Widths.{modulus}
use Rattle.mp_modules.specs.storage.AnyModules.{any_part_of, start, settle, step}
use Rattle.mp_model.proofs.StepLemmas.{settle_steps, by_toggle, by_select, by_call, by_arbiter}

-- ---- outputs of one bit

-- the first output is below a bound, and each other is a bit
pub record Fits (bound : ℕ) (memory : Memory) : Type 0 where
  pub first : output_of memory 0 < bound
  pub others : (p : ℕ) → output_of memory (suc p) < 2

-- each output is a bit
abbrev LowOutputs : List ℕ → Type 0
LowOutputs outputs = (p : ℕ) → slice_index outputs p < 2

fits_low : (memory : Memory) → LowOutputs memory.outputs → Fits 2 memory
fits_low memory low = record { first = low 0; others = λ p. low (suc p) }

low_fits : (memory : Memory) → Fits 2 memory → LowOutputs memory.outputs
low_fits memory fits zero = fits.first
low_fits memory fits (suc p) = fits.others p

low_in : (p : ℕ) → slice_index (0 ∷ 0 ∷ []) p < 2
low_in zero = omega arith
low_in (suc zero) = omega arith
low_in (suc (suc p)) = omega arith

fits_one : (bound : ℕ) (x : List ℕ) (v : ℕ) → v < bound → Fits bound (with_one_output x v)
fits_one bound x v below = record { first = below; others = low_in }

below_cond : (test : Bool) (a b bound : ℕ) → a < bound → b < bound → cond test a b < bound
below_cond true a b bound first second = first
below_cond false a b bound first second = second

low_set : (xs : List ℕ) (i v p : ℕ) → v < 2 → ((q : ℕ) → slice_index xs q < 2) → slice_index (slice_set xs i v) p < 2
low_set [] i v p low each = each p
low_set (x ∷ xs) zero v zero low each = low
low_set (x ∷ xs) zero v (suc p) low each = each (suc p)
low_set (x ∷ xs) (suc i) v zero low each = each 0
low_set (x ∷ xs) (suc i) v (suc p) low each = low_set xs i v p low (λ q. each (suc q))

low_flips : (xs : List ℕ) (port : ℕ) → LowOutputs xs → LowOutputs (slice_set xs port (1 - slice_index xs port))
low_flips xs port low p = low_set xs port (1 - slice_index xs port) p (omega arith) low

low_bubbled : (bubble : Bool) (level : ℕ) → level < 2 → bubbled bubble level < 2
low_bubbled bubble level low = below_cond bubble (1 - level) level 2 (omega arith) low

low_joined : (c : Rendezvous) (former : ℕ) (x : List ℕ) → slice_index x 0 < 2 → former < 2 → joined c former x < 2
low_joined c former x first low =
    below_cond (bubbled c.bubble_a (slice_index x 0) == bubbled c.bubble_b (slice_index x 1)) (bubbled c.bubble_a (slice_index x 0)) former 2 (low_bubbled c.bubble_a (slice_index x 0) first) low

-- ---- parameters

first_param : (bound : ℕ) (params : List ℕ) → 0 < bound → list_all (λ param. nat_lt param bound) params ≡ true → slice_index params 0 < bound
first_param bound [] some all = some
first_param bound (param ∷ params) some all = ltb-true param bound (and_parts (nat_lt param bound) (list_all (λ param. nat_lt param bound) params) all).0

pub param_below : (kind : Kind) (width : ℕ) (params : List ℕ) → 0 < param_bound kind width → are_params kind width params ≡ true → slice_index params 0 < param_bound kind width
unfolding are_params
param_below kind width params some valid =
    first_param (param_bound kind width) params some (and_parts (length params == param_count kind) (list_all (λ param. nat_lt param (param_bound kind width)) params) valid).1

-- ---- all kinds

-- each level at an input is no wider than the input
abbrev pub InputsFit : Kind → ℕ → List ℕ → Type 0
InputsFit kind width x = (p : ℕ) → slice_index x p < 2 ^ input_width kind width p

abbrev pub OutputsFit : Kind → ℕ → Memory → Type 0
OutputsFit kind width memory = Fits (2 ^ output_width kind width 0) memory

below_modulus : (width n : ℕ) → width ≤ 64 → n % modulus width < 2 ^ width
below_modulus width n narrow =
    let same : min width 64 ≡ width = omega arith in
    subst (λ k. n % 2 ^ k < 2 ^ width) (sym same) (mod_below n (2 ^ width) (pow_pos width))

bits_behind : (x : List ℕ) → slice_index x 1 < 2 → slice_index x 2 < 2 → (p : ℕ) → slice_index (slice_index x 1 ∷ slice_index x 2 ∷ []) p < 2
bits_behind x one two zero = one
bits_behind x one two (suc zero) = two
bits_behind x one two (suc (suc p)) = omega arith

module _ (width : ℕ) (params : List ℕ) (narrow : width ≤ 64) where
  -- what a function gives is no wider than its output
  function_fits : (f : Function) (x : List ℕ) → are_params (kinds.Function f) width params ≡ true → InputsFit (kinds.Function f) width x
      → result_of f width (slice_index params 0) (slice_index x 0) (slice_index x 1) (slice_index x 2) < 2 ^ output_width (kinds.Function f) width 0
  function_fits functions.Buf x valid inputs = inputs 0
  function_fits functions.Not x valid inputs = omega arith
  function_fits functions.Xor x valid inputs = below_cond (not (slice_index x 0 == slice_index x 1)) 1 0 2 (omega arith) (omega arith)
  function_fits functions.AddC x valid inputs = below_modulus width (slice_index x 0 + slice_index params 0) narrow
  function_fits functions.XorC x valid inputs =
      xor_lt width (slice_index x 0) (slice_index params 0) (inputs 0) (param_below (kinds.Function functions.XorC) width params (pow_pos width) valid)
  function_fits functions.Sum x valid inputs = below_modulus width (slice_index x 0 + slice_index x 1) narrow
  function_fits functions.Bit x valid inputs = omega arith
  function_fits functions.And x valid inputs = omega (arith, and_le_l (slice_index x 0) (slice_index x 1), inputs 0)
  function_fits functions.Or x valid inputs = or_lt width (slice_index x 0) (slice_index x 1) (inputs 0) (inputs 1)
  function_fits functions.Sub x valid inputs = below_modulus width (slice_index x 0 + (2 ^ 64 - slice_index x 1)) narrow
  function_fits functions.Less x valid inputs = below_cond (nat_lt (slice_index x 0) (slice_index x 1)) 1 0 2 (omega arith) (omega arith)
  function_fits functions.Mux x valid inputs = below_cond (slice_index x 2 == 0) (slice_index x 0) (slice_index x 1) (2 ^ width) (inputs 0) (inputs 1)
  function_fits functions.Join x valid inputs = below_modulus width (2 * slice_index x 0 + slice_index x 1) narrow

  pub step_fits : (kind : Kind) (memory : Memory) (x : List ℕ) → are_params kind width params ≡ true → InputsFit kind width x → OutputsFit kind width memory
      → OutputsFit kind width (step (any_part_of kind params width) memory x)
  unfolding any_part_of step
  step_fits kinds.C memory x valid inputs fits = fits_one 2 x (joined (rendezvous params) (output_of memory 0) x) (low_joined (rendezvous params) (output_of memory 0) x (inputs 0) fits.first)
  step_fits kinds.Toggle memory x valid inputs fits = fits_low (toggle_step memory x) (by_toggle LowOutputs low_flips memory x (low_fits memory fits))
  step_fits kinds.Select memory x valid inputs fits = fits_low (select_step memory x) (by_select LowOutputs low_flips memory x (low_fits memory fits))
  step_fits kinds.Call memory x valid inputs fits = fits_low (call_step memory x) (by_call LowOutputs low_flips memory x (low_fits memory fits))
  step_fits kinds.Arbiter memory x valid inputs fits = fits_low (arbiter_step memory x) (by_arbiter LowOutputs low_flips memory x (low_fits memory fits))
  step_fits kinds.Reg memory x valid inputs fits = record {
    first = below_cond (is_open x) (slice_index x 0) (output_of memory 0) (2 ^ width) (inputs 0) fits.first;
    others = bits_behind x (inputs 1) (inputs 2);
  }
  step_fits (kinds.Function f) memory x valid inputs fits = fits_one (2 ^ output_width (kinds.Function f) width 0) x _ (function_fits f x valid inputs)

  start_fits : (kind : Kind) → are_params kind width params ≡ true → OutputsFit kind width (start (any_part_of kind params width))
  unfolding any_part_of start
  start_fits kinds.C valid = fits_one 2 [] _ (below_cond (slice_index params 0 == 1) 1 0 2 (omega arith) (omega arith))
  start_fits kinds.Toggle valid = fits_one 2 [] 0 (omega arith)
  start_fits kinds.Select valid = fits_one 2 [] 0 (omega arith)
  start_fits kinds.Call valid = fits_one 2 [] 0 (omega arith)
  start_fits kinds.Arbiter valid = fits_one 2 [] 0 (omega arith)
  start_fits kinds.Reg valid = record { first = param_below kinds.Reg width params (pow_pos width) valid; others = low_in }
  start_fits (kinds.Function f) valid =
      fits_one (2 ^ output_width (kinds.Function f) width 0) [] _ (function_fits f [] valid (λ p. pow_pos (input_width (kinds.Function f) width p)))

  seen_fits : (bound : ℕ) (memory : Memory) (x : List ℕ) → Fits bound memory → Fits bound (seen x memory)
  seen_fits bound memory x fits = record { first = fits.first; others = fits.others }

  pub settle_fits : (kind : Kind) (x : List ℕ) → are_params kind width params ≡ true → InputsFit kind width x → OutputsFit kind width (settle (any_part_of kind params width) x)
  settle_fits kind x valid inputs =
      let part = any_part_of kind params width in
      subst (OutputsFit kind width) (sym (settle_steps part x))
      (step_fits kind (seen x (start part)) x valid inputs (seen_fits (2 ^ output_width kind width 0) (start part) x (start_fits kind valid)))
