-- How long a unit of time is in a dump.
use Rattle.std.specs.Prelude.{◌≡◌, ◌≢◌, ℕ, List, ◌++◌, codes}
use Rattle.mp_exports.specs.declared.vcd.timescale.TimeNumber.{TimeNumber}
use Rattle.mp_exports.specs.declared.vcd.timescale.TimeNumber.TheVariants.{One, Ten, Hundred}
use Rattle.mp_exports.specs.declared.vcd.timescale.TimeUnit.{TimeUnit}
use Rattle.mp_exports.specs.declared.vcd.timescale.TimeUnit.TheVariants.{Seconds, Milliseconds, Microseconds, Nanoseconds, Picoseconds, Femtoseconds}
use Rattle.mp_exports.specs.declared.vcd.timescale.Timescale.{Timescale}

abbrev pub count_of : TimeNumber → ℕ
count_of One = 1
count_of Ten = 10
count_of Hundred = 100

abbrev pub number_word : TimeNumber → List ℕ
number_word One = codes "1"
number_word Ten = codes "10"
number_word Hundred = codes "100"

abbrev pub unit_word : TimeUnit → List ℕ
unit_word Seconds = codes "s"
unit_word Milliseconds = codes "ms"
unit_word Microseconds = codes "us"
unit_word Nanoseconds = codes "ns"
unit_word Picoseconds = codes "ps"
unit_word Femtoseconds = codes "fs"

-- a number of a unit, as `10ps`
abbrev pub numbered_word : TimeNumber → TimeUnit → List ℕ
numbered_word number unit = number_word number ++ unit_word unit

abbrev pub timescale_word : Timescale → List ℕ
timescale_word scale = numbered_word scale.number scale.unit

-- no unit, no unit with this number, and no timescale is written so
abbrev pub IsNoUnit : List ℕ → Type 0
IsNoUnit word = (unit : TimeUnit) → unit_word unit ≢ word

abbrev pub IsNotNumbered : TimeNumber → List ℕ → Type 0
IsNotNumbered number word = (unit : TimeUnit) → numbered_word number unit ≢ word

abbrev pub IsNoTimescale : List ℕ → Type 0
IsNoTimescale word = (scale : Timescale) → timescale_word scale ≢ word

-- 1 ns
abbrev pub nanosecond : Timescale
nanosecond = record { number = One; unit = Nanoseconds }
