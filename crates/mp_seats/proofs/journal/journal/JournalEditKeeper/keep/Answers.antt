use Rattle.std.proofs.Common.{◌++◌, ◌∷◌, []}
use Rattle.mp_text.specs.edit_lines.EditLines.{edit_text}
use Rattle.mp_seats.proofs.lemmas.journal.JournalLemmas.{kept_one, kept_all}
use Rattle.mp_seats.proofs.journal.journal.JournalEditKeeper.keep.Goals as goal

pub returns-clause-kept : goal.returns-clause-kept
returns-clause-kept g c = λ story has. kept_one c.append.result c.args.self.now c.append.new.self story.edits c.args.edit.now c.append.ensures has

pub returns-clause-same : goal.returns-clause-same
returns-clause-same g c = λ story has. kept_all c.append.result c.args.self.now c.append.new.self story.edits (edit_text c.args.edit.now ++ 10 ∷ []) c.append.ensures has
