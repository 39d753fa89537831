-- What the ports and the parameters of each kind are called.
use Rattle.std.specs.Prelude.{ℕ, List, codes, ◌==◌, if◌then◌else◌}
use Rattle.mp_modules.specs.declared.kind.Kind.{Kind}
use Rattle.mp_modules.specs.declared.kind.Kind.TheVariants as kinds
use Rattle.mp_modules.specs.declared.function.Function.TheVariants.{Mux}

-- of four texts the one of this number
abbrev pub pick : ℕ → List ℕ → List ℕ → List ℕ → List ℕ → List ℕ
pick k first second third fourth = if k == 0 then first else (if k == 1 then second else (if k == 2 then third else fourth))

-- of two texts the one of this number
abbrev pub pick_of_two : ℕ → List ℕ → List ℕ → List ℕ
pick_of_two k first second = if k == 0 then first else second

abbrev pub input_name : Kind → ℕ → List ℕ
input_name kinds.Select p = pick_of_two p (codes "a") (codes "diamond")
input_name kinds.Call p = pick p (codes "r1") (codes "r2") (codes "d") (codes "d")
input_name kinds.Arbiter p = pick p (codes "r1") (codes "r2") (codes "d1") (codes "d2")
input_name kinds.Reg p = pick p (codes "d") (codes "c") (codes "p") (codes "p")
input_name (kinds.Function Mux) p = pick p (codes "a") (codes "b") (codes "s") (codes "s")
input_name _ p = pick_of_two p (codes "a") (codes "b")

abbrev pub output_name : Kind → ℕ → List ℕ
output_name kinds.Toggle p = pick_of_two p (codes "dot") (codes "blank")
output_name kinds.Select p = pick_of_two p (codes "true") (codes "false")
output_name kinds.Call p = pick p (codes "r") (codes "d1") (codes "d2") (codes "d2")
output_name kinds.Arbiter p = pick_of_two p (codes "g1") (codes "g2")
output_name kinds.Reg p = pick p (codes "q") (codes "cd") (codes "pd") (codes "pd")
output_name _ p = codes "y"

abbrev pub param_name : Kind → ℕ → List ℕ
param_name kinds.C k = pick k (codes "INIT") (codes "BUBA") (codes "BUBB") (codes "BUBB")
param_name kinds.Reg k = codes "INIT"
param_name _ k = codes "K"
