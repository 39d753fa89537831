-- What holds of the ports and parameters of every kind.
use Rattle.std.proofs.Common.{◌≡◌, ◌<◌, ◌≤◌, ◌^◌, ℕ, Bool, true, false, cond, refl, arith}
use Rattle.std.specs.Prelude.{nat_lt}
use Rattle.std.proofs.Math.Nat.{pow-le-pow_right}
use Rattle.std.proofs.lemmas.Bool.Decides.{nat_tests}
use Rattle.mp_modules.specs.declared.kind.Kind.{Kind}
use Rattle.mp_modules.specs.declared.kind.Kind.TheVariants as kinds
use Rattle.mp_modules.specs.declared.function.Function.{Function}
use Rattle.mp_modules.specs.declared.function.Function.TheVariants as functions
use Rattle.mp_modules.specs.Kinds.{shape_of, function_shape, input_count, output_count, param_count, has_width, width_from, input_width, output_width, param_bound}
use Rattle.mp_modules.specs.storage.AnyModules.{is_width_of}

pub some_input : (kind : Kind) → 0 < input_count kind
some_input (kinds.Function functions.Buf) = omega arith
some_input _ = omega arith

pub some_output : (kind : Kind) → 0 < output_count kind
some_output (kinds.Function functions.Buf) = omega arith
some_output _ = omega arith

pub few_inputs : (kind : Kind) → input_count kind ≤ 4
few_inputs (kinds.Function functions.Buf) = omega arith
few_inputs _ = omega arith

pub few_outputs : (kind : Kind) → output_count kind ≤ 3
few_outputs (kinds.Function functions.Buf) = omega arith
few_outputs _ = omega arith

pub few_params : (kind : Kind) → param_count kind ≤ 3
few_params (kinds.Function functions.Buf) = omega arith
few_params _ = omega arith

pub one_function_output : (function : Function) → (function_shape function).outputs ≡ 1
one_function_output functions.Buf = refl
one_function_output _ = refl

pub one_wide_output : (kind : Kind) → (shape_of kind).wide_outputs ≤ 1
one_wide_output (kinds.Function functions.Buf) = omega arith
one_wide_output _ = omega arith

-- a module whose kind has no ports of any width has width 1
pub width_from_narrow : (kind : Kind) (first : ℕ) → has_width kind ≡ false → width_from kind first ≡ 1
width_from_narrow (kinds.Function functions.Join) first none = cc
width_from_narrow _ first none = grind (arith, nat_tests)

-- a module whose width comes from that of a wire is no wider than a wire
pub width_from_low : (kind : Kind) (first : ℕ) → first ≤ 64 → width_from kind first ≤ 64
width_from_low (kinds.Function functions.Join) first narrow = grind (arith, nat_tests)
width_from_low _ first narrow = omega arith

-- the width that comes from a wire of the width of the first input is one that the module can have
pub width_from_fits : (kind : Kind) (first : ℕ) → 1 ≤ first → first ≤ 64 → first ≡ input_width kind (width_from kind first) 0 →
    is_width_of kind (width_from kind first) ≡ true
width_from_fits (kinds.Function functions.Join) first some narrow is = grind (arith, nat_tests)
width_from_fits _ first some narrow is = grind (arith, nat_tests)

-- all ports of a module of width 1 have width 1
pub narrow_input : (kind : Kind) (width p : ℕ) → width ≡ 1 → input_width kind width p ≡ 1
narrow_input (kinds.Function functions.Join) width p one = grind (arith, nat_tests)
narrow_input _ width p one = grind (arith, nat_tests)

pub narrow_output : (kind : Kind) (width p : ℕ) → width ≡ 1 → output_width kind width p ≡ 1
narrow_output kind width p one = by (nat_lt p (shape_of kind).wide_outputs)
  where
    by : (wide : Bool) → cond wide width 1 ≡ 1
    by true = one
    by false = refl

-- a parameter of a module that is not wider than a level is a level
pub param_bound-low : (kind : Kind) (width : ℕ) → width ≤ 64 → param_bound kind width ≤ 2 ^ 64
param_bound-low kinds.Reg width narrow = pow-le-pow_right (omega arith) narrow
param_bound-low (kinds.Function functions.AddC) width narrow = pow-le-pow_right (omega arith) narrow
param_bound-low (kinds.Function functions.XorC) width narrow = pow-le-pow_right (omega arith) narrow
param_bound-low _ width narrow = omega arith
