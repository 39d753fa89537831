-- The names that many clauses and definitions here cite, passed on from one place. Declares nothing.
pub use Rattle.std.specs.Char.{digit_value, is_ascii_digit, is_ascii_whitespace}
pub use Rattle.std.specs.Fmt.{decimal}
pub use Rattle.std.specs.List.{AllWithin, filter, flat_map, list_all, list_any, range_with_len}
pub use Rattle.std.specs.Prelude.{Bool, IfSome, List, None, Option, Some, [], codes, length, map, nat_le, nat_lt, not, slice_index, slice_index_or, suc, true, zero, ℕ}
pub use Rattle.std.specs.Str.{byte, bytes_eq}
pub use Rattle.std.specs.Str.Parse.{AllDigits, digits_value, digits_value_after}
pub use Rattle.mp_model.specs.Waves.{AreWavesOf, level, slot_wave, wave}
pub use Rattle.mp_netlist.specs.Circuit.{Circuit, IsCircuit, width_of, wire_at}
pub use Rattle.mp_records.specs.declared.wire_record.WireRecord.{WireRecord}
pub use Rattle.mp_streams.specs.Outgoing.{Writes}
pub use Rattle.mp_wave.specs.WaveChanges.{changes_in}
pub use Rattle.mp_wave.specs.Waveform.{Waveform, between, change_after, changes_after, earlier_than, later_than}
pub use Rattle.mp_exports.specs.declared.vcd.change_queue.QueuedChange.{QueuedChange}
pub use Rattle.mp_exports.specs.declared.vcd.dump_batch.DumpBatch.{DumpBatch}
pub use Rattle.mp_exports.specs.declared.vcd.time_chunk.TimeChunk.{TimeChunk}
pub use Rattle.mp_exports.specs.declared.vcd.room.Room.{Room}
pub use Rattle.mp_exports.specs.declared.vcd.preamble.PreamblePart.{PreamblePart}
pub use Rattle.mp_exports.specs.declared.vcd.preamble.PreamblePart.TheVariants.{Declarations, FirstLevels}
