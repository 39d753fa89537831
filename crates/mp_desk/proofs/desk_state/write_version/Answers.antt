use Rattle.std.proofs.Common.{◌≡◌, ◌+◌, length, ap, sym, ◌∙◌, arith, rules}
use Rattle.std.specs.Arc.{arc_value}
use Rattle.std.proofs.lemmas.List.{length_push}
use Rattle.mp_version.specs.publication.Chronicles.{Shown, Signed, Written, written_on}
use Rattle.mp_desk.proofs.desk_state.write_version.Goals as goal

pub new-next-requires-clause-each : goal.new-next-requires-clause-each
new-next-requires-clause-each g c =
    let was = c.args.writer.now in
    let is = c.add.new.self in
    let written : is ≡ written_on was (arc_value c.args.draft.version) c.args.author = search rules in
    let more = c.requires.follows.one_more in
    let each = c.requires.each in
    let authors : length is.authors ≡ length was.authors + 1 = ap (λ (w : Written). length w.authors) written ∙ length_push was.authors c.args.author in
    let edits : length is.story.edits ≡ length (arc_value c.args.draft.version).edits = ap (λ (w : Written). length w.story.edits) written in
    let both : length is.authors ≡ length is.story.edits = omega (arith, authors, edits, more, each) in
    ap (λ (s : Signed). length s.authors) c.of-signatures.ensures ∙ both ∙ ap (λ (s : Shown). length s.story.edits) (sym c.prefix-2.ensures)
