use Rattle.std.proofs.Common.{◌≡◌, ◌+◌, ◌-◌, [], refl, sym, ap, ◌∙◌, arith}
use Rattle.std.proofs.lemmas.Bool.{false≢true}
use Rattle.mp_active.specs.compare.Comparing.{is_tracked}
use Rattle.mp_active.proofs.lemmas.compare.RelistingLemmas.{counted_cursors}
use Rattle.mp_active.proofs.lemmas.compare.AsleepLemmas.{one_asleep}
use Rattle.mp_active.proofs.compare.comparison.Comparison.read_one_asleep.Goals as goal

pub returns-then-not-is_tracked-clause-complete : goal.returns-then-not-is_tracked-clause-complete
returns-then-not-is_tracked-clause-complete c =
    let run = c.args.run.now in
    let was = c.args.self.now in
    let mid = c.count_asleep.new.self in
    let next : c.args.time - 1 + 1 ≡ c.args.time = (let some = c.requires.some in omega arith) in
    (one_asleep run (c.args.time - 1) c.in-Some.number was mid mid c.count_asleep.ensures.kept c.count_asleep.ensures.asleep
    (counted_cursors run (c.args.time - 1) [] was mid c.count_asleep.ensures.kept c.count_asleep.ensures.places c.requires.cursors)
    (record { kept = refl; others = λ x listed. listed })
    (λ tracked. absurd (false≢true (sym c.if-not-is_tracked.true ∙ c.is_tracked.ensures ∙ ap (is_tracked mid c.in-Some.number) (sym next) ∙ tracked)))).complete

pub returns-clause-complete : goal.returns-clause-complete
returns-clause-complete c =
    let run = c.args.run.now in
    let was = c.args.self.now in
    let mid = c.count_asleep.new.self in
    let is = c.list.new.self in
    (one_asleep run (c.args.time - 1) c.in-Some.number was mid is c.count_asleep.ensures.kept c.count_asleep.ensures.asleep c.in_ok-list.ensures.cursors
    (record { kept = c.in_ok-list.ensures.kept; others = c.in_ok-list.ensures.others })
    (λ tracked. c.in_ok-list.ensures.listed)).complete
