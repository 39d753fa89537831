-- The block of a value change dump that gives the first levels.
use Rattle.std.specs.Prelude.{ℕ, List, codes}

-- behind the declarations, up to the values of time 0
abbrev pub block_start : List ℕ
block_start = codes "$upscope $end\n$enddefinitions $end\n#0\n$dumpvars\n"

-- behind these values
abbrev pub block_end : List ℕ
block_end = codes "$end\n"
