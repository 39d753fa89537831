-- Passages of a dump, and their texts, made ahead.
use Rattle.std.specs.Prelude.{◌≡◌, ◌-◌, ◌<◌}
use Rattle.mp_exports.specs.vcd.Names.{ℕ, List, length, flat_map, range_with_len, slice_index_or, IfSome, Circuit, TimeChunk, Room, DumpBatch}
use Rattle.mp_exports.specs.vcd.Dumps.{unit_text}

-- the changes of the times from one to before another
abbrev pub times_text : Circuit → ℕ → ℕ → List ℕ
times_text n from to = flat_map (unit_text n) (range_with_len from (to - from))

abbrev pub passage_text : TimeChunk → List ℕ
passage_text passage = times_text passage.of.netlist.now passage.from passage.to

-- a text that a room has is that of the passage
abbrev pub IsMade : TimeChunk → Room → Type 0
IsMade passage room = IfSome room.text (λ text. text.items ≡ passage_text passage)

-- a text that a room has is that of the passage at a place, where there is one
abbrev pub IsMadeAt : List TimeChunk → ℕ → Room → Type 0
IsMadeAt passages place room = (p : TimeChunk) → place < length passages → IsMade (slice_index_or passages place p) room

-- the text that each room has is that of the passage at its place
abbrev pub AreMade : DumpBatch → Type 0
AreMade batch = (place : ℕ) (d : Room) → place < length batch.rooms.items → IsMadeAt batch.passages.now place (slice_index_or batch.rooms.items place d)
