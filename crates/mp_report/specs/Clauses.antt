-- The names that clauses and proofs here cite, passed on from one place. Declares nothing.
pub use Rattle.std.specs.Prelude.{All, IfOk, IsSome, List, OnOk, false, length, map, true, vec_len, ℕ}
pub use Rattle.mp_report.specs.Ahead.{AreAhead, IsAhead}
pub use Rattle.mp_report.specs.Names.{AllZip, AreWavesOf, BundleRecord, Circuit, IsBundle, IsCircuit, IsWaveform, Memory, bundle_place, changes, findings, findings_of, flat_map, has_event, input_by, is_requested_soon, level, level_of, levels_at, module_place, no_findings, piece_level, places, range_with_len, wave_upto, wire_at}
pub use Rattle.mp_report.specs.Places.{codes_at, finding_at, found_by_place, found_over}
