use Rattle.std.proofs.Common.{◌++◌, ◌∷◌, [], subst}
use Rattle.mp_text.specs.edit_lines.EditLines.{edit_text}
use Rattle.mp_seats.specs.journal.Journals.{Journal, Passes}
use Rattle.mp_seats.proofs.lemmas.journal.JournalLemmas.{passes}
use Rattle.mp_seats.proofs.journal.journal.Journal.put_line.Goals as goal

pub returns-clause-taken : goal.returns-clause-taken
returns-clause-taken g c =
    subst (λ (j : Journal). Passes c.put_whole.result j.taken c.put_whole.new.out.taken (edit_text c.args.edit.now ++ 10 ∷ [])) c.self.view_is
    (passes c.put_whole.result c.self.inside.out c.put_whole.new.out (edit_text c.args.edit.now ++ 10 ∷ []) c.put_whole.ensures.written c.self.invariant c.put_whole.ensures.flushed)
