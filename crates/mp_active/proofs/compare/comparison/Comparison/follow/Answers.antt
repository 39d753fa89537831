use Rattle.std.proofs.Common.{cond, refl, ap, ◌∙◌}
use Rattle.std.proofs.lemmas.Bool.{eq-eqb}
use Rattle.mp_active.specs.compare.Comparing.{source_at}
use Rattle.mp_active.specs.compare.Waking.{turned_on}
use Rattle.mp_active.proofs.lemmas.compare.WakingLemmas.{one_turned, on_own}
use Rattle.mp_active.proofs.compare.comparison.Comparison.follow.Goals as goal

pub returns-clause-complete : goal.returns-clause-complete
returns-clause-complete c =
    let run = c.args.run.now in
    let was = c.args.self.now in
    let mid = c.set_on.new.self in
    let is = c.list.new.self in
    let wire = c.args.wire in
    let kept = c.set_on.ensures.kept in
    let here = c.set_on.ensures.sources wire ∙ ap (λ b. cond b (turned_on (source_at was wire)) (source_at was wire)) (eq-eqb wire wire refl) in
    (one_turned run c.args.now wire turned_on was mid is kept c.set_on.ensures.sources c.in_ok-list.ensures.cursors
    (record { kept = c.in_ok-list.ensures.kept; others = c.in_ok-list.ensures.others })
    (on_own run c.args.now wire was mid is kept here (λ follows. c.in_ok-list.ensures.listed))).complete
