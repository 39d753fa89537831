-- The Verilog modules of the kinds that hold nothing.
use Rattle.std.specs.Prelude.{ℕ, List, [], ◌++◌, codes}
use Rattle.mp_modules.specs.declared.function.Function.{Function}
use Rattle.mp_modules.specs.declared.function.Function.TheVariants as functions
use Rattle.mp_modules.specs.Kinds.{function_word}

-- what the module of a function is called
abbrev pub function_module : Function → List ℕ
function_module functions.Buf = codes "mp_buf"
function_module functions.Not = codes "mp_not"
function_module functions.Xor = codes "mp_xor"
function_module functions.AddC = codes "mp_addc"
function_module functions.XorC = codes "mp_xorc"
function_module functions.Sum = codes "mp_sum"
function_module functions.Bit = codes "mp_bit"
function_module functions.And = codes "mp_and"
function_module functions.Or = codes "mp_or"
function_module functions.Sub = codes "mp_sub"
function_module functions.Less = codes "mp_less"
function_module functions.Mux = codes "mp_mux"
function_module functions.Join = codes "mp_join"

-- what it gives, in words
abbrev pub rule : Function → List ℕ
rule functions.Buf = codes "a"
rule functions.Not = codes "1 - a"
rule functions.Xor = codes "1 if a and b differ, and else 0"
rule functions.AddC = codes "a + K modulo 2 to the power W"
rule functions.XorC = codes "a ^ K"
rule functions.Sum = codes "a + b modulo 2 to the power W"
rule functions.Bit = codes "bit K of a, bit 0 being the least"
rule functions.And = codes "a & b"
rule functions.Or = codes "a | b"
rule functions.Sub = codes "a - b modulo 2 to the power W"
rule functions.Less = codes "1 if a is less than b, and else 0"
rule functions.Mux = codes "a if s is 0, and b if s is 1"
rule functions.Join = codes "2 a + b"

-- what it gives, as an expression
abbrev pub value : Function → List ℕ
value functions.Buf = codes "a"
value functions.Not = codes "!a"
value functions.Xor = codes "a ^ b"
value functions.AddC = codes "a + K"
value functions.XorC = codes "a ^ K"
value functions.Sum = codes "a + b"
value functions.Bit = codes "a[K]"
value functions.And = codes "a & b"
value functions.Or = codes "a | b"
value functions.Sub = codes "a - b"
value functions.Less = codes "a < b"
value functions.Mux = codes "s ? b : a"
value functions.Join = codes "{a, b}"

-- its own parameters
abbrev pub params : Function → List ℕ
params functions.Not = []
params functions.Xor = []
params functions.AddC = codes "W = 1, K = 0, "
params functions.XorC = codes "W = 1, K = 0, "
params functions.Bit = codes "W = 1, K = 0, "
params functions.Join = codes "W = 2, "
params _ = codes "W = 1, "

-- its ports: a JOIN is as wide as its output
abbrev pub ports : Function → List ℕ
ports functions.Buf = codes "\n    (input [W-1:0] a, output reg [W-1:0] y)"
ports functions.AddC = codes "\n    (input [W-1:0] a, output reg [W-1:0] y)"
ports functions.XorC = codes "\n    (input [W-1:0] a, output reg [W-1:0] y)"
ports functions.Not = codes " (input a, output reg y)"
ports functions.Xor = codes " (input a, input b, output reg y)"
ports functions.Bit = codes " (input [W-1:0] a, output reg y)"
ports functions.Sum = codes "\n    (input [W-1:0] a, input [W-1:0] b, output reg [W-1:0] y)"
ports functions.And = codes "\n    (input [W-1:0] a, input [W-1:0] b, output reg [W-1:0] y)"
ports functions.Or = codes "\n    (input [W-1:0] a, input [W-1:0] b, output reg [W-1:0] y)"
ports functions.Sub = codes "\n    (input [W-1:0] a, input [W-1:0] b, output reg [W-1:0] y)"
ports functions.Less = codes "\n    (input [W-1:0] a, input [W-1:0] b, output reg y)"
ports functions.Mux = codes "\n    (input [W-1:0] a, input [W-1:0] b, input s, output reg [W-1:0] y)"
ports functions.Join = codes "\n    (input [W-2:0] a, input b, output reg [W-1:0] y)"

-- the inputs whose events it answers
abbrev pub heard : Function → List ℕ
heard functions.Buf = codes "a"
heard functions.Not = codes "a"
heard functions.AddC = codes "a"
heard functions.XorC = codes "a"
heard functions.Bit = codes "a"
heard functions.Mux = codes "a or b or s"
heard _ = codes "a or b"

unfoldable pub function_text : Function → List ℕ
function_text f =
    codes "\n// " ++ (function_word f ++ (codes ": y is " ++ (rule f
    ++ (codes ".\nmodule " ++ (function_module f ++ (codes " #(parameter " ++ (params f
    ++ (codes "y_delay = 1, y_initial = 0)" ++ (ports f ++ (codes ";\n"
    ++ (codes "  initial begin\n    y = y_initial;\n    #0 forever begin\n"
    ++ (codes "      y <= #y_delay " ++ (value f ++ (codes ";\n      @(" ++ (heard f
    ++ codes ") #0;\n    end\n  end\nendmodule\n")))))))))))))))
