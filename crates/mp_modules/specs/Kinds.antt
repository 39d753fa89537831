-- The ports, parameters and names of each kind of module.
use Rattle.std.specs.Prelude.{ℕ, ◌+◌, ◌-◌, Bool, true, false, ◌&&◌, ◌==◌, ◌^◌, List, [], ◌∷◌, length, Option, Some, None, option_map, codes, max, nat_lt, if◌then◌else◌}
use Rattle.std.specs.List.{list_all}
use Rattle.std.specs.Str.{bytes_eq}
use Rattle.mp_modules.specs.declared.kind.Kind.{Kind}
use Rattle.mp_modules.specs.declared.kind.Kind.TheVariants as kinds
use Rattle.mp_modules.specs.declared.function.Function.{Function}
use Rattle.mp_modules.specs.declared.function.Function.TheVariants as functions
use Rattle.mp_modules.specs.declared.shape.Shape.{Shape}

-- a kind whose ports all have width 1
abbrev pub narrow : ℕ → ℕ → ℕ → Shape
narrow inputs outputs params = record { inputs = inputs; wide_inputs = 0; outputs = outputs; wide_outputs = 0; params = params }

-- a kind with one output
abbrev pub one_output : ℕ → ℕ → ℕ → ℕ → Shape
one_output inputs wide_inputs wide_outputs params =
    record { inputs = inputs; wide_inputs = wide_inputs; outputs = 1; wide_outputs = wide_outputs; params = params }

-- how many inputs a function has, how many of them have the module's width, whether its output has, and how many parameters
abbrev pub function_shape : Function → Shape
function_shape functions.Buf = one_output 1 1 1 0
function_shape functions.Not = one_output 1 0 0 0
function_shape functions.Xor = one_output 2 0 0 0
function_shape functions.AddC = one_output 1 1 1 1
function_shape functions.XorC = one_output 1 1 1 1
function_shape functions.Sum = one_output 2 2 1 0
function_shape functions.Bit = one_output 1 1 0 1
function_shape functions.And = one_output 2 2 1 0
function_shape functions.Or = one_output 2 2 1 0
function_shape functions.Sub = one_output 2 2 1 0
function_shape functions.Less = one_output 2 2 0 0
function_shape functions.Mux = one_output 3 2 1 0
function_shape functions.Join = one_output 2 1 1 0

-- how many ports a kind has, of which the first have the module's width, and how many parameters
abbrev pub shape_of : Kind → Shape
shape_of kinds.C = narrow 2 1 3
shape_of kinds.Toggle = narrow 1 2 0
shape_of kinds.Select = narrow 2 2 0
shape_of kinds.Call = narrow 3 3 0
shape_of kinds.Arbiter = narrow 4 2 0
shape_of kinds.Reg = record { inputs = 3; wide_inputs = 1; outputs = 3; wide_outputs = 1; params = 1 }
shape_of (kinds.Function function) = function_shape function

abbrev pub input_count : Kind → ℕ
input_count kind = (shape_of kind).inputs

abbrev pub output_count : Kind → ℕ
output_count kind = (shape_of kind).outputs

abbrev pub param_count : Kind → ℕ
param_count kind = (shape_of kind).params

abbrev pub function_word : Function → List ℕ
function_word functions.Buf = codes "BUF"
function_word functions.Not = codes "NOT"
function_word functions.Xor = codes "XOR"
function_word functions.AddC = codes "ADDC"
function_word functions.XorC = codes "XORC"
function_word functions.Sum = codes "SUM"
function_word functions.Bit = codes "BIT"
function_word functions.And = codes "AND"
function_word functions.Or = codes "OR"
function_word functions.Sub = codes "SUB"
function_word functions.Less = codes "LESS"
function_word functions.Mux = codes "MUX"
function_word functions.Join = codes "JOIN"

abbrev pub word_of : Kind → List ℕ
word_of kinds.C = codes "C"
word_of kinds.Toggle = codes "TOGGLE"
word_of kinds.Select = codes "SELECT"
word_of kinds.Call = codes "CALL"
word_of kinds.Arbiter = codes "ARBITER"
word_of kinds.Reg = codes "REG"
word_of (kinds.Function function) = function_word function

-- all kinds, those beyond the first thirteen last
abbrev pub all_kinds : List Kind
all_kinds =
    kinds.Function functions.Buf ∷ kinds.Function functions.Not ∷ kinds.Function functions.Xor ∷ kinds.C ∷ kinds.Toggle ∷ kinds.Select ∷ kinds.Call
    ∷ kinds.Arbiter ∷ kinds.Reg ∷ kinds.Function functions.AddC ∷ kinds.Function functions.XorC ∷ kinds.Function functions.Sum
    ∷ kinds.Function functions.Bit ∷ kinds.Function functions.And ∷ kinds.Function functions.Or ∷ kinds.Function functions.Sub
    ∷ kinds.Function functions.Less ∷ kinds.Function functions.Mux ∷ kinds.Function functions.Join ∷ []

-- the function beyond the first seven that a text names so
abbrev pub later_function_named : List ℕ → Option Function
later_function_named word =
    if bytes_eq word (codes "AND") then Some functions.And
    else (if bytes_eq word (codes "OR") then Some functions.Or
    else (if bytes_eq word (codes "SUB") then Some functions.Sub
    else (if bytes_eq word (codes "LESS") then Some functions.Less
    else (if bytes_eq word (codes "MUX") then Some functions.Mux
    else (if bytes_eq word (codes "JOIN") then Some functions.Join
    else None)))))

-- the function that a text names so
abbrev pub function_named : List ℕ → Option Function
function_named word =
    if bytes_eq word (codes "BUF") then Some functions.Buf
    else (if bytes_eq word (codes "NOT") then Some functions.Not
    else (if bytes_eq word (codes "XOR") then Some functions.Xor
    else (if bytes_eq word (codes "ADDC") then Some functions.AddC
    else (if bytes_eq word (codes "XORC") then Some functions.XorC
    else (if bytes_eq word (codes "SUM") then Some functions.Sum
    else (if bytes_eq word (codes "BIT") then Some functions.Bit
    else later_function_named word))))))

-- the kind that a text names so
unfoldable pub kind_named : List ℕ → Option Kind
kind_named word =
    if bytes_eq word (codes "C") then Some kinds.C
    else (if bytes_eq word (codes "TOGGLE") then Some kinds.Toggle
    else (if bytes_eq word (codes "SELECT") then Some kinds.Select
    else (if bytes_eq word (codes "CALL") then Some kinds.Call
    else (if bytes_eq word (codes "ARBITER") then Some kinds.Arbiter
    else (if bytes_eq word (codes "REG") then Some kinds.Reg
    else option_map kinds.Function (function_named word))))))

-- whether the kind holds nothing: what it gives depends only on the levels at its inputs
abbrev pub is_function : Kind → Bool
is_function (kinds.Function function) = true
is_function _ = false

-- whether the kind has ports of any width
abbrev pub has_width : Kind → Bool
has_width kind = nat_lt 0 (shape_of kind).wide_inputs

-- the width of a module whose first input reads a wire of this width: this one, if the kind has ports of any width, and else 1. A JOIN is one bit
-- wider, as its output is, and has none where no wire is so wide.
abbrev pub width_from : Kind → ℕ → ℕ
width_from (kinds.Function functions.Join) first = if nat_lt first 64 then first + 1 else 0
width_from kind first = if has_width kind then first else 1

-- the width of the wide inputs, of a module of this width
abbrev pub wide_input_width : Kind → ℕ → ℕ
wide_input_width (kinds.Function functions.Join) width = max (width - 1) 1
wide_input_width kind width = width

-- the width of an input port, of a module of this width
abbrev pub input_width : Kind → ℕ → ℕ → ℕ
input_width kind width port = if nat_lt port (shape_of kind).wide_inputs then wide_input_width kind width else 1

-- the width of an output port, of a module of this width
abbrev pub output_width : Kind → ℕ → ℕ → ℕ
output_width kind width port = if nat_lt port (shape_of kind).wide_outputs then width else 1

-- what the parameter of a function is below, of a module of this width
abbrev pub function_bound : Function → ℕ → ℕ
function_bound functions.AddC width = 2 ^ width
function_bound functions.XorC width = 2 ^ width
function_bound functions.Bit width = width
function_bound _ width = 0

-- what each parameter is below, of a module of this width
abbrev pub param_bound : Kind → ℕ → ℕ
param_bound kinds.C width = 2
param_bound kinds.Reg width = 2 ^ width
param_bound (kinds.Function function) width = function_bound function width
param_bound _ width = 0

-- as many parameters as the kind has, each in its range
unfoldable pub are_params : Kind → ℕ → List ℕ → Bool
are_params kind width params = length params == param_count kind && list_all (λ param. nat_lt param (param_bound kind width)) params
