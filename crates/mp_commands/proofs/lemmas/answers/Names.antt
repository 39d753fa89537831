-- The names that many proofs here cite, passed on from one place. Declares nothing.
pub use Rattle.std.proofs.Common.{List, ap, arith, length, refl, ℕ}
pub use Rattle.std.proofs.lemmas.List.{drop_all, drop_more}
pub use Rattle.mp_commands.specs.answers.EditAnswers.{edits_from, numbered_at}
pub use Rattle.mp_commands.specs.answers.WorkLines.{entry_line, work_text}
pub use Rattle.mp_streams.proofs.LeftLemmas.{Left, left_as, left_failed, left_none, left_then, left_whole}
pub use Rattle.mp_streams.proofs.OutLemmas.{puts_as, puts_unmade, writes_failed}
