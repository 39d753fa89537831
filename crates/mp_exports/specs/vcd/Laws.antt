-- What a dump says to a reader.
use Rattle.std.specs.Prelude.{◌≡◌, ◌<◌, ◌∷◌}
use Rattle.mp_exports.specs.vcd.Names.{WireRecord, Circuit, IsCircuit, wire_at, width_of, level, ℕ, List, [], map, codes, Option, Some, None}
use Rattle.mp_exports.specs.vcd.Codes.{code}
use Rattle.mp_exports.specs.vcd.Dumps.{standing, dump}
use Rattle.mp_exports.specs.vcd.Timescales.{count_of, unit_word}
use Rattle.mp_exports.specs.declared.vcd.timescale.Timescale.{Timescale}
use Rattle.mp_exports.specs.vcd.Readings.{Variable, Reading, AmongValues, Outside, reading, value_of}

abbrev pub name_of : Option WireRecord → List ℕ
name_of None = []
name_of (Some wire) = wire.name

-- the variable of a wire, in the one scope
abbrev pub variable : Circuit → ℕ → Variable
variable n w = record { scopes = codes "top" ∷ []; width = width_of (wire_at n w); code = code w; name = name_of (wire_at n w) }

-- each word stands where it can and every command is over, a unit is as long as is said, the wires that stand are the variables, each has its
-- level at each time below the horizon, and the time at the end is the horizon
pub record SaysLevels (scale : Timescale) (n : Circuit) (r : Reading) : Type 0 where
  pub whole : r.place ≡ AmongValues Outside
  pub unit : r.unit ≡ Some (count_of scale.number, unit_word scale.unit)
  pub variables : r.variables ≡ map (variable n) (standing n)
  pub levels : (w t : ℕ) (wire : WireRecord) → wire_at n w ≡ Some wire → t < n.horizon → value_of (code w) t r.given ≡ Some (level n w t)
  pub horizon : r.time ≡ Some n.horizon

-- the dump of each well-formed netlist says its levels
abbrev pub IsReadBack : Type 0
IsReadBack = (scale : Timescale) (n : Circuit) → IsCircuit n → SaysLevels scale n (reading (dump scale n))

-- no two wires have one code
abbrev pub HaveOwnCodes : Type 0
HaveOwnCodes = (w v : ℕ) → code w ≡ code v → w ≡ v

-- one digit up to number 93, two from there up to 8,835
abbrev pub HaveKnownCodes : Type 0
HaveKnownCodes = (code 93 ≡ codes "~") × (code 94 ≡ codes "!\"") × (code 8191 ≡ codes ".x")
