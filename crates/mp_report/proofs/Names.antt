-- The names that many proofs here cite, passed on from one place. Declares nothing.
pub use Rattle.std.proofs.Common.{All, Bool, Err, Global, IfOk, IsSome, List, MatchResult, None, Ok, Option, Some, Vec, [], ap, append-nil, append_assoc, arith, cond, false, filter, flat_map, inl, inr, is_lt, length, map, min, nat_cmp, nat_le, nat_lt, ne_eqb, not, refl, rules, slice_get, subst, suc, sym, take, true, vec_len, zero, ℕ, ◌&&◌, ◌++◌, ◌+◌, ◌-◌, ◌<◌, ◌==◌, ◌∙◌, ◌∷◌, ◌≡◌, ◌≢◌, ◌≤◌, ◌⊎◌}
pub use Rattle.std.proofs.lemmas.Bool.{cases_eq, cases_lt}
pub use Rattle.std.proofs.lemmas.Bool.Decides.{nat_tests}
pub use Rattle.std.proofs.lemmas.List.{map-append}
pub use Rattle.std.proofs.lemmas.Simd.{map-map}
pub use Rattle.mp_report.specs.Bundles.{bundle_set}
pub use Rattle.mp_report.specs.Lines.{finding_line, finding_lines}
pub use Rattle.mp_report.specs.Names.{Ahead, AllZip, AreChanges, AreWavesOf, BundleRecord, Circuit, Finding, FindingCode, Input, IsCircuit, IsSpan, IsWaveform, Memory, MergeCollision, ModuleRecord, Place, Waveform, between, built, bundle_at, bundle_place, by_number, changes, changes_in, found_at, has_event, input_by, inputs_by, is_busy, is_found_at_bundle, is_requested_soon, last_time, later_by, level, level_from, level_of, levels_at, list_any, module_at, module_place, no_findings, piece_level, places, put_off, range_with_len, state, wave, wave_upto, wire_at}
unfoldable pub use Rattle.mp_report.specs.Places.{found_over}
unfoldable pub use Rattle.mp_model.specs.response.Span.{findings_of}
pub use Rattle.mp_model.specs.declared.response.in_piece.InPiece.{InPiece}
pub use Rattle.mp_modules.specs.storage.AnyModules.{start}
unfoldable pub use Rattle.mp_modules.specs.storage.AnyModules.{any_part_of, found}
pub use Rattle.mp_wave.proofs.ChangesLemmas.{AreChanges-changes_after, form_of_wave, last_time-changes_after, level_from-changes_after, levels_of_wave}
pub use Rattle.mp_report.specs.Clauses.{AreAhead, IsAhead, codes_at, finding_at, found_by_place}
