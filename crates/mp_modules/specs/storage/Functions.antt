-- Modules that hold nothing: what they give is a function of the levels at their inputs.
use Rattle.std.specs.Prelude.{ℕ, ◌+◌, ◌-◌, ◌*◌, ◌/◌, ◌%◌, ◌^◌, ◌==◌, Bool, not, List, [], slice_index, bit_and, bit_or, bit_xor, nat_lt, if◌then◌else◌}
use Rattle.mp_modules.specs.declared.function.Function.{Function}
use Rattle.mp_modules.specs.declared.function.Function.TheVariants.{Buf, Not, Xor, AddC, XorC, Sum, Bit, And, Or, Sub, Less, Mux, Join}
use Rattle.mp_modules.specs.declared.memory.Memory.{Memory}
use Rattle.mp_modules.specs.declared.finding_code.FindingCode.TheVariants as codes
use Rattle.mp_modules.specs.declared.finding_set.FindingSet.{FindingSet}
use Rattle.mp_modules.specs.Memories.{with_one_output, seen}
use Rattle.mp_modules.specs.Findings.{no_findings, with_code_if}
use Rattle.mp_modules.specs.Merge.{is_collision}
use Rattle.mp_modules.specs.storage.Widths.{modulus}
use Rattle.mp_modules.specs.declared.storage.function_module.FunctionModule.{FunctionModule}

abbrev pub one_if : Bool → ℕ
one_if is_so = if is_so then 1 else 0

-- what a function gives, in a module of this width and with the constant k, from the levels a, b and s of its inputs.
-- The place 0 of a bit is that of the least one, and 2 ^ 64 is a multiple of the modulus.
abbrev pub result_of : Function → ℕ → ℕ → ℕ → ℕ → ℕ → ℕ
result_of Buf width k a b s = a
result_of Not width k a b s = 1 - a
result_of Xor width k a b s = one_if (not (a == b))
result_of AddC width k a b s = (a + k) % modulus width
result_of XorC width k a b s = bit_xor a k
result_of Sum width k a b s = (a + b) % modulus width
result_of Bit width k a b s = a / 2 ^ k % 2
result_of And width k a b s = bit_and a b
result_of Or width k a b s = bit_or a b
result_of Sub width k a b s = (a + (2 ^ 64 - b)) % modulus width
result_of Less width k a b s = one_if (nat_lt a b)
result_of Mux width k a b s = if s == 0 then a else b
result_of Join width k a b s = (2 * a + b) % modulus width

-- what a module gives, from the levels of its inputs
abbrev pub value : FunctionModule → ℕ → ℕ → ℕ → ℕ
value part a b s = result_of part.function part.width part.constant a b s

abbrev pub output : FunctionModule → List ℕ → ℕ
output part x = value part (slice_index x 0) (slice_index x 1) (slice_index x 2)

-- before time 0 the levels of the inputs are 0
abbrev pub start : FunctionModule → Memory
start part = with_one_output [] (output part [])

abbrev pub step : FunctionModule → Memory → List ℕ → Memory
step part memory x = with_one_output x (output part x)

abbrev pub settle : FunctionModule → List ℕ → Memory
settle part x = step part (seen x (start part)) x

-- merge-collision: both inputs of an XOR change
abbrev pub found_by : Function → Memory → List ℕ → FindingSet
found_by Xor memory x = with_code_if codes.MergeCollision (is_collision memory x) no_findings
found_by _ memory x = no_findings

abbrev pub found : FunctionModule → Memory → List ℕ → FindingSet
found part memory x = found_by part.function memory x
