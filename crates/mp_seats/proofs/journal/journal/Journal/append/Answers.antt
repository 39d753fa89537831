use Rattle.std.proofs.Common.{◌≡◌, ◌++◌, ◌∷◌, [], false, true, is_err, subst, sym, rules}
use Rattle.mp_text.specs.edit_lines.EditLines.{edit_text}
use Rattle.mp_seats.specs.journal.Journals.{Journal, Passes}
use Rattle.mp_seats.proofs.lemmas.journal.JournalLemmas.{continued, torn_at}
use Rattle.mp_seats.proofs.journal.journal.Journal.append.Goals as goal

pub returns : goal.returns
returns g c =
    let line = edit_text c.args.edit.now ++ 10 ∷ [] in
    let put = c.put_line.ensures in
    let well : is_err c.put_line.result ≡ false = search rules in
    continued c.args.self.now c.put_line.new.self c.put_line.result line c.requires put.same.0 put.same.1 put.before put.taken well

pub returns-then-is_err : goal.returns-then-is_err
returns-then-is_err g c =
    let line = edit_text c.args.edit.now ++ 10 ∷ [] in
    let old = c.args.self.now in
    let put = c.put_line.ensures in
    let at = c.self.inside in
    let mid : Journal = record { before = g.T.Sink.taken at.opened.value; taken = at.out.taken; is_lost = at.is_lost; opening = at.opening } in
    let err : is_err c.put_line.result ≡ true = search rules in
    torn_at old mid c.put_line.result line c.requires (subst (λ (j : Journal). j.opening ≡ old.opening) (sym c.self.view_is) put.same.1)
    (subst (λ (j : Journal). j.before ≡ old.before) (sym c.self.view_is) put.before) (subst (λ (j : Journal). Passes c.put_line.result old.taken j.taken line) (sym c.self.view_is) put.taken) err
