use Rattle.std.proofs.Common.{[], length, sym, ap, ◌∙◌, subst}
use Rattle.mp_active.specs.declared.compare.numbers.Numbers.{Numbers}
use Rattle.mp_active.specs.declared.compare.comparison.Comparison.{Comparison}
use Rattle.mp_active.specs.compare.Listing.{AreLinked}
use Rattle.mp_active.specs.compare.Numbering.{AreInputs}
use Rattle.mp_active.proofs.lemmas.compare.ReadingLemmas.{same_numbers}
use Rattle.mp_active.proofs.lemmas.compare.BeginningLemmas.{prepared, within_sources, unread_cursors, read_cursors, are_first, are_unseen, are_never_or_zero}
use Rattle.mp_active.proofs.compare.comparison.Comparison.first.Goals as goal

pub note_readers-requires-clause-inputs : goal.note_readers-requires-clause-inputs
note_readers-requires-clause-inputs c =
    subst (λ (numbers : Numbers). AreInputs c.args.change.now.new.now (length numbers.wires.items) c.args.inputs.now) (sym c.in_ok-comparison.ensures.numbers) c.requires.inputs

pub note_readers-requires-clause-places : goal.note_readers-requires-clause-places
note_readers-requires-clause-places c = c.in_ok-comparison.ensures.unread.asleep

pub note_readers-requires-clause-wires : goal.note_readers-requires-clause-wires
note_readers-requires-clause-wires c =
    within_sources c.args.change.now.old.now c.args.change.now.new.now c.args.active.now c.in_ok-comparison.comparison
    (prepared c.args.change.now.old.now c.args.change.now.new.now c.args.active.now c.args.numbers c.in_ok-sources.sources.items c.in_ok-comparison.comparison c.in_ok-comparison.ensures.numbers c.in_ok-comparison.ensures.sources
    c.in_ok-comparison.ensures.unread c.requires.numbers c.in_ok-sources.ensures.places c.in_ok-sources.ensures.each)

pub list_all-requires-clause-wires : goal.list_all-requires-clause-wires
list_all-requires-clause-wires c =
    let ready = prepared c.args.change.now.old.now c.args.change.now.new.now c.args.active.now c.args.numbers c.in_ok-sources.sources.items c.in_ok-comparison.comparison c.in_ok-comparison.ensures.numbers c.in_ok-comparison.ensures.sources
    c.in_ok-comparison.ensures.unread c.requires.numbers c.in_ok-sources.ensures.places c.in_ok-sources.ensures.each in
    c.wire_slots.ensures.value ∙ sym (c.note_readers.ensures.long ∙ ready.long)

pub list_all-requires-clause-cursors : goal.list_all-requires-clause-cursors
list_all-requires-clause-cursors c =
    let ready = prepared c.args.change.now.old.now c.args.change.now.new.now c.args.active.now c.args.numbers c.in_ok-sources.sources.items c.in_ok-comparison.comparison c.in_ok-comparison.ensures.numbers c.in_ok-comparison.ensures.sources
    c.in_ok-comparison.ensures.unread c.requires.numbers c.in_ok-sources.ensures.places c.in_ok-sources.ensures.each in
    read_cursors c.args.change.now.run.now 0 [] _ _ c.in_ok-comparison.comparison c.note_readers.new.self c.note_readers.ensures
    (unread_cursors c.args.change.now.old.now c.args.change.now.new.now c.horizon-old_horizon.ensures.form c.args.change.now.run.now c.requires.run c.in_ok-comparison.comparison ready.are ready.long ready.unread)

pub list_all-requires-clause-linked : goal.list_all-requires-clause-linked
list_all-requires-clause-linked c =
    subst AreLinked (sym (same_numbers _ _ c.in_ok-comparison.comparison c.note_readers.new.self c.note_readers.ensures ∙ c.in_ok-comparison.ensures.numbers)) c.requires.numbers.linked

pub returns-clause-numbers : goal.returns-clause-numbers
returns-clause-numbers c =
    ap (λ (s : Comparison). s.numbers) c.in_ok-list_all.ensures.kept ∙ same_numbers _ _ c.in_ok-comparison.comparison c.note_readers.new.self c.note_readers.ensures ∙ c.in_ok-comparison.ensures.numbers

pub returns-clause-first : goal.returns-clause-first
returns-clause-first c =
    let ready = prepared c.args.change.now.old.now c.args.change.now.new.now c.args.active.now c.args.numbers c.in_ok-sources.sources.items c.in_ok-comparison.comparison c.in_ok-comparison.ensures.numbers c.in_ok-comparison.ensures.sources
    c.in_ok-comparison.ensures.unread c.requires.numbers c.in_ok-sources.ensures.places c.in_ok-sources.ensures.each in
    are_first c.args.change.now.old.now c.args.change.now.new.now c.args.active.now c.args.inputs.now c.in_ok-comparison.comparison c.note_readers.new.self c.list_all.new.self ready.long ready.first ready.unread c.note_readers.ensures c.in_ok-list_all.ensures.kept

pub returns-clause-unseen : goal.returns-clause-unseen
returns-clause-unseen c = are_unseen c.in_ok-comparison.comparison c.note_readers.new.self c.list_all.new.self _ _ c.in_ok-comparison.ensures.unread c.note_readers.ensures c.in_ok-list_all.ensures.kept

pub returns-clause-complete : goal.returns-clause-complete
returns-clause-complete c =
    let ready = prepared c.args.change.now.old.now c.args.change.now.new.now c.args.active.now c.args.numbers c.in_ok-sources.sources.items c.in_ok-comparison.comparison c.in_ok-comparison.ensures.numbers c.in_ok-comparison.ensures.sources
    c.in_ok-comparison.ensures.unread c.requires.numbers c.in_ok-sources.ensures.places c.in_ok-sources.ensures.each in
    c.in_ok-list_all.ensures.complete (are_never_or_zero c.args.change.now.old.now c.args.change.now.new.now c.args.active.now c.in_ok-comparison.comparison c.note_readers.new.self _ _ ready.long ready.first c.note_readers.ensures)
