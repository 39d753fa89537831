use Rattle.std.proofs.Common.{◌≡◌, ℕ, ◌+◌, List, [], ◌∷◌, ◌++◌, suc, sym, subst, ◌∙◌, arith}
use Rattle.mp_holding.proofs.lemmas.sets.ReaderLemmas.{AreReadersUpto, IsNoted, noted_next, all_noted}
use Rattle.mp_holding.proofs.sets.readers.Readers.of.Goals as goal

pub loop-place-preserved : goal.loop-place-preserved
loop-place-preserved c =
    let needs = c.args.needs.now in
    let place = c.loop-place.place in
    let old = c.loop-place.last.items in
    let new = c.note.new.last.items in
    let noted = c.note.result in
    let is = c.need_at.ensures in
    let says = c.note.ensures in
    let noted_here : IsNoted needs place old new noted = record {
      places = says.places;
      before = λ k names. says.before k (is ∙ names);
      last = λ k low names. says.last k low (is ∙ names);
      others = λ k other. says.others k (λ names. other (sym is ∙ names));
      other = λ none. says.other (λ k names. none k (sym is ∙ names));
    } in
    let one : suc place ≡ place + 1 = omega arith in
    let next = noted_next needs place old new c.loop-place.before.items noted c.loop-place.invariant noted_here in
    subst (λ (l : List ℕ). AreReadersUpto needs (place + 1) new l) (sym c.in_ok-push.ensures.items)
    (subst (λ (i : ℕ). AreReadersUpto needs i new (c.loop-place.before.items ++ noted ∷ [])) one next)

pub returns : goal.returns
returns c =
    let test = c.loop-place-test.false in
    let end = c.loop-place.auto.place-end in
    all_noted c.args.needs.now c.loop-place.place (record { last = c.loop-place.last; before = c.loop-place.before }) (omega (arith, test, end)) c.loop-place.invariant
