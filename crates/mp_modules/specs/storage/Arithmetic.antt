-- What ADDC, SUM, SUB and JOIN give, modulo two to the power of their width.
use Rattle.std.specs.Prelude.{◌≡◌, ℕ, ◌+◌, ◌*◌, ◌%◌, ◌^◌, ◌<◌, ◌≤◌, List, [], ◌∷◌}
use Rattle.mp_modules.specs.declared.function.Function.{Function}
use Rattle.mp_modules.specs.declared.function.Function.TheVariants as functions
use Rattle.mp_modules.specs.declared.kind.Kind.TheVariants as kinds
use Rattle.mp_modules.specs.declared.memory.Memory.{Memory}
use Rattle.mp_modules.specs.Memories.{output_of}
use Rattle.mp_modules.specs.storage.AnyModules.{any_part_of, step}

-- what a module that is made of a function gives from these levels
abbrev pub gives : Function → List ℕ → ℕ → Memory → List ℕ → ℕ
gives function params width memory x = output_of (step (any_part_of (kinds.Function function) params width) memory x) 0

-- ADDC gives a + k and SUM a + b; what SUB gives and b add up to a; and JOIN gives 2 a + b where it has a place for all bits
pub record ComputesAtWidth (width : ℕ) : Type 0 where
  pub constant : (memory : Memory) (k a : ℕ) → gives functions.AddC (k ∷ []) width memory (a ∷ []) ≡ (a + k) % 2 ^ width
  pub sum : (memory : Memory) (a b : ℕ) → gives functions.Sum [] width memory (a ∷ b ∷ []) ≡ (a + b) % 2 ^ width
  pub difference : (memory : Memory) (a b : ℕ) → b ≤ 2 ^ 64 → (gives functions.Sub [] width memory (a ∷ b ∷ []) + b) % 2 ^ width ≡ a % 2 ^ width
  pub joined : (memory : Memory) (a b : ℕ) → 2 * a + b < 2 ^ width → gives functions.Join [] width memory (a ∷ b ∷ []) ≡ 2 * a + b

abbrev pub ComputesModuloWidth : Type 0
ComputesModuloWidth = (width : ℕ) → width ≤ 64 → ComputesAtWidth width
