-- The value change dump of a netlist.
use Rattle.std.specs.Prelude.{◌+◌, ◌-◌, ◌∷◌, ◌++◌, ◌==◌}
use Rattle.mp_streams.specs.InitialBlocks.{block_start}
use Rattle.mp_exports.specs.vcd.Names.{filter, flat_map, range_with_len, WireRecord, Circuit, wire_at, width_of, level, ℕ, List, [], Option, Some, None, Bool, not, codes, decimal}
use Rattle.mp_exports.specs.vcd.Codes.{code}
use Rattle.mp_exports.specs.vcd.Values.{value_line}
use Rattle.mp_exports.specs.vcd.Timescales.{number_word, unit_word}
use Rattle.mp_exports.specs.declared.vcd.timescale.Timescale.{Timescale}

-- a number goes before others where its wire stands
abbrev pub if_stands : ℕ → Option WireRecord → List ℕ → List ℕ
if_stands w None others = others
if_stands w (Some r) others = w ∷ others

-- the numbers of the wires that stand, w being that of the first slot
abbrev pub standing_from : ℕ → List (Option WireRecord) → List ℕ
standing_from w [] = []
standing_from w (slot ∷ slots) = if_stands w slot (standing_from (w + 1) slots)

-- the numbers of the wires that stand
abbrev pub standing : Circuit → List ℕ
standing n = standing_from 0 n.wires

abbrev pub line : List ℕ → List ℕ
line text = text ++ 10 ∷ []

-- the width, the code and the name of what stands in a wire's slot
abbrev pub slot_declaration : ℕ → Option WireRecord → List ℕ
slot_declaration w None = []
slot_declaration w (Some r) =
    codes "$var wire " ++ (decimal r.width ++ (32 ∷ (code w ++ (32 ∷ (r.name ++ line (codes " $end"))))))

abbrev pub declaration : Circuit → ℕ → List ℕ
declaration n w = slot_declaration w (wire_at n w)

-- the value line of a wire at a time
abbrev pub value_at : Circuit → ℕ → ℕ → List ℕ
value_at n t w = value_line (width_of (wire_at n w)) w (level n w t)

abbrev pub time_mark : ℕ → List ℕ
time_mark t = 35 ∷ line (decimal t)

-- whether the level of a wire differs from the one a unit before
abbrev pub is_changed : Circuit → ℕ → ℕ → Bool
is_changed n t w = not (level n w t == level n w (t - 1))

-- the wires whose level differs from the one a unit before, by number
abbrev pub changed : Circuit → ℕ → List ℕ
changed n t = filter (is_changed n t) (standing n)

-- a time and the values of some wires, and nothing where there are none
abbrev pub marked : Circuit → ℕ → List ℕ → List ℕ
marked n t [] = []
marked n t (w ∷ ws) = time_mark t ++ flat_map (value_at n t) (w ∷ ws)

abbrev pub unit_text : Circuit → ℕ → List ℕ
unit_text n t = marked n t (changed n t)

-- how long a unit of time is, and the scope
abbrev pub opening_lines : Timescale → List ℕ
opening_lines scale =
    codes "$timescale " ++ (number_word scale.number ++ (32 ∷ (unit_word scale.unit ++ (line (codes " $end") ++ line (codes "$scope module top $end")))))

-- how long a unit of time is, the declarations, and the level of each wire at time 0
abbrev pub preamble : Timescale → Circuit → List ℕ
preamble scale n =
    opening_lines scale ++ (flat_map (declaration n) (standing n) ++ (block_start ++ (flat_map (value_at n 0) (standing n) ++ line (codes "$end"))))

-- the preamble, the levels that differ at each later time below the horizon, and the horizon
unfoldable pub dump : Timescale → Circuit → List ℕ
dump scale n = preamble scale n ++ (flat_map (unit_text n) (range_with_len 1 (n.horizon - 1)) ++ time_mark n.horizon)
