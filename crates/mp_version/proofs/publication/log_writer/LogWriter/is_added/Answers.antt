use Rattle.std.proofs.Common.{◌≡◌, ◌∷◌, ◌++◌, [], ap, sym, ◌∙◌}
use Rattle.std.specs.Arc.{arc_value}
use Rattle.mp_version.specs.publication.Chronicles.{entry, latest, authors, writer_of}
use Rattle.mp_version.proofs.lemmas.publication.AddingLemmas.{some_in, latest_in, authors_in}
use Rattle.mp_version.proofs.publication.log_writer.LogWriter.is_added.Goals as goal

pub invariant_of-self : goal.invariant_of-self
invariant_of-self c =
    let log = c.self.inside.seen.log in
    let y = entry (arc_value c.args.version.now) c.args.author in
    let is : c.in-Some.seen.log ≡ log ++ y ∷ [] = c.in-Some.ensures.log ∙ ap (λ s. s.log ++ y ∷ []) c.again.ensures in (
      c.self.invariant.0 ∙ ap (λ b. writer_of b) (sym (c.in-Some.ensures.book ∙ ap (λ s. s.book) c.again.ensures)),
      some_in log c.in-Some.seen.log y is,
    )

pub returns-in-Some : goal.returns-in-Some
returns-in-Some c =
    let log = c.self.inside.seen.log in
    let y = entry (arc_value c.args.version.now) c.args.author in
    let is : c.in-Some.seen.log ≡ log ++ y ∷ [] = c.in-Some.ensures.log ∙ ap (λ s. s.log ++ y ∷ []) c.again.ensures in
    let book : c.in-Some.seen.book ≡ c.args.self.now.book = c.in-Some.ensures.book ∙ ap (λ s. s.book) c.again.ensures ∙ ap (λ w. w.book) c.self.view_is in
    let story : latest c.in-Some.seen.log ≡ arc_value c.args.version.now = latest_in log c.in-Some.seen.log y is in
    let by : authors c.in-Some.seen.log ≡ c.args.self.now.authors ++ c.args.author ∷ [] =
    authors_in log c.in-Some.seen.log y is c.self.invariant.1 ∙ ap (λ w. w.authors ++ c.args.author ∷ []) c.self.view_is in
    λ i. record { book = book i; story = story i; authors = by i }
