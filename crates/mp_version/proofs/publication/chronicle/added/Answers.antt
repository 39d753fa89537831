use Rattle.std.proofs.Common.{rules, ◌≡◌, length, sym, ◌∙◌, ap}
use Rattle.std.specs.Arc.{arc_value}
use Rattle.mp_version.specs.publication.Chronicles.{entry}
use Rattle.mp_version.proofs.lemmas.publication.AddingLemmas.{adds_moves}
use Rattle.mp_version.proofs.publication.chronicle.added.Goals as goal

pub compare_exchange-found-requires : goal.compare_exchange-found-requires
compare_exchange-found-requires c =
    let word = c.requires.word in
    let offer = c.plain-offer.ensures in
    let pen = c.no_pen-pen.ensures in
    let book = sym (ap (λ w. w.book) word) in
    let number : c.number.result ≡ length (arc_value c.args.version.now).edits = search rules in (
      ap (λ w. w.tracked) word,
      book,
      pen.0 ∙ book,
      offer.0,
      rw (ap (λ w. w.key) word, pen.1, offer.1, offer.3, number) (adds_moves c.args.seen.log (entry (arc_value c.args.version.now) c.args.author) c.args.old (sym c.requires.old) c.requires.follows),
    )
