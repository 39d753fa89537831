-- The changes of all wires by time.
use Rattle.std.specs.Prelude.{◌≡◌, ◌+◌, ◌-◌, ◌<◌, ◌≤◌, ◌∷◌, ◌==◌, if◌then◌else◌}
use Rattle.mp_exports.specs.vcd.Names.{flat_map, WireRecord, Circuit, wire_at, width_of, level, ℕ, List, [], length, map, Option, Some, None, slice_index, slice_index_or, QueuedChange}
use Rattle.mp_exports.specs.vcd.Values.{value_line}
use Rattle.mp_exports.specs.vcd.Dumps.{is_changed, changed}

abbrev pub no_entry : QueuedChange
no_entry = record { level = 0; wire = 0; next = 0 }

abbrev pub entry_at : List QueuedChange → ℕ → QueuedChange
entry_at entries place = slice_index_or entries place no_entry

-- from the entry before this place on, each leading to the next, stand these wires and levels; place 0 ends them
abbrev pub IsChain : List QueuedChange → ℕ → List (ℕ × ℕ) → Type 0
IsChain entries place [] = place ≡ 0
IsChain entries place (told ∷ later) =
    (0 < place) × (place ≤ length entries) × ((entry_at entries (place - 1)).next < place)
    × ((entry_at entries (place - 1)).wire ≡ told.0) × ((entry_at entries (place - 1)).level ≡ told.1)
    × IsChain entries (entry_at entries (place - 1)).next later

-- for each time, from its first place on, stand these wires and levels
abbrev pub Tells : List ℕ → List QueuedChange → (ℕ → List (ℕ × ℕ)) → Type 0
Tells firsts entries told = (t : ℕ) → t < length firsts → IsChain entries (slice_index firsts t) (told t)

-- what is told at the times from one on
abbrev pub told_from : ℕ → (ℕ → List (ℕ × ℕ)) → ℕ → List (ℕ × ℕ)
told_from from told k = told (from + k)

-- one wire and level more at a time, before the others
abbrev pub with_told : (ℕ → List (ℕ × ℕ)) → ℕ → ℕ × ℕ → ℕ → List (ℕ × ℕ)
with_told told time change t = if time == t then change ∷ told t else told t

-- some wires with their levels at a time
abbrev pub with_levels : Circuit → ℕ → List ℕ → List (ℕ × ℕ)
with_levels n t ws = map (λ w. (w, level n w t)) ws

-- the wires that change at a time, with their levels
abbrev pub told_at : Circuit → ℕ → List (ℕ × ℕ)
told_at n t = with_levels n t (changed n t)

-- the changes of a wire at a time, each before the others
abbrev pub onto : ℕ → List (ℕ × ℕ) → ℕ → List (ℕ × ℕ) → List (ℕ × ℕ)
onto w [] t others = others
onto w (change ∷ changes) t others = onto w changes t (if change.0 == t then (w, change.1) ∷ others else others)

-- the wire in a slot goes before others with its level at a time, where this differs from the one a unit before
abbrev pub onto_slot : Circuit → ℕ → ℕ → Option WireRecord → List (ℕ × ℕ) → List (ℕ × ℕ)
onto_slot n t w None others = others
onto_slot n t w (Some r) others = if is_changed n t w then (w, level n w t) ∷ others else others

-- the lines of wires with their levels
abbrev pub told_lines : Circuit → List (ℕ × ℕ) → List ℕ
told_lines n told = flat_map (λ change. value_line (width_of (wire_at n change.0)) change.0 change.1) told
