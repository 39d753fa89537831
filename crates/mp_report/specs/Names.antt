-- The names that many clauses and definitions here cite, passed on from one place. Declares nothing.
pub use Rattle.std.specs.Fmt.{decimal}
pub use Rattle.std.specs.List.{AllZip, filter, flat_map, list_any, range_with_len}
pub use Rattle.std.specs.Prelude.{List, None, Option, Some, [], codes, map, ℕ}
pub use Rattle.mp_model.specs.Findings.{bundle_place, changes, findings, is_busy, is_found, is_found_at_bundle, is_requested_soon, module_place, places}
pub use Rattle.mp_model.specs.Levels.{built, input_by, inputs_by}
pub use Rattle.mp_model.specs.Waves.{AreWavesOf, level, state, wave}
pub use Rattle.mp_model.specs.declared.finding.Finding.{Finding}
pub use Rattle.mp_model.specs.declared.finding.Place.{Place}
pub use Rattle.mp_model.specs.declared.finding.Place.TheVariants.{Bundle, Module}
pub use Rattle.mp_modules.specs.Findings.{by_number, code_word, has_code, no_findings, with_code_if}
pub use Rattle.mp_modules.specs.Histories.{has_event}
pub use Rattle.mp_modules.specs.declared.finding_code.FindingCode.{FindingCode}
pub use Rattle.mp_modules.specs.declared.finding_code.FindingCode.TheVariants.{AckWhileIdle, DataWhileBusy, MergeCollision, RequestWhileBusy, Setup}
pub use Rattle.mp_modules.specs.declared.finding_set.FindingSet.{FindingSet}
pub use Rattle.mp_modules.specs.declared.memory.Memory.{Memory}
pub use Rattle.mp_netlist.specs.Circuit.{Circuit, IsBundle, IsCircuit, bundle_at, module_at, wire_at}
pub use Rattle.mp_records.specs.declared.bundle_record.BundleRecord.{BundleRecord}
pub use Rattle.mp_records.specs.declared.module_record.ModuleRecord.{ModuleRecord}
pub use Rattle.mp_records.specs.declared.ports.Input.{Input}
pub use Rattle.mp_model.specs.response.Pieces.{later_by, levels_at, piece_level, put_off}
pub use Rattle.mp_model.specs.response.Span.{IsSpan, findings_of, found_at}
pub use Rattle.mp_wave.specs.WaveChanges.{changes_in}
pub use Rattle.mp_wave.specs.Waveform.{AreChanges, IsWaveform, Waveform, between, changes_after, last_time, level_from, level_of, wave_upto}
pub use Rattle.mp_report.specs.declared.ahead.Ahead.{Ahead}
pub use Rattle.mp_report.specs.declared.watch.Watch.{Watch}
