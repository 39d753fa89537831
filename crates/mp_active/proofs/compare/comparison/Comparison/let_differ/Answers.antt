use Rattle.std.proofs.Common.{cond, refl, ap, ◌∙◌, arith}
use Rattle.std.proofs.lemmas.Bool.{eq-eqb}
use Rattle.mp_kernel.specs.timers.TimerWheels.{never}
use Rattle.mp_active.specs.compare.Comparing.{source_at}
use Rattle.mp_active.specs.compare.Waking.{from_then}
use Rattle.mp_active.proofs.lemmas.compare.WakingLemmas.{one_turned, differ_own}
use Rattle.mp_active.proofs.compare.comparison.Comparison.let_differ.Goals as goal

pub set_until-requires : goal.set_until-requires
set_until-requires c = record { within = c.requires.within.within c.in-Some.wire.0 c.in-Some.is }

pub track-requires-clause-within : goal.track-requires-clause-within
track-requires-clause-within c =
    let low = c.requires.within.within c.in-Some.wire.0 c.in-Some.is in
    let long = c.set_until.ensures.places in
    omega arith

pub returns-clause-complete : goal.returns-clause-complete
returns-clause-complete c =
    let run = c.args.run.now in
    let was = c.args.self.now in
    let mid = c.set_until.new.self in
    let is = c.track.new.self in
    let wire = c.in-Some.wire.0 in
    let kept = c.set_until.ensures.kept in
    let here = c.set_until.ensures.sources wire ∙ ap (λ b. cond b (from_then never (source_at was wire)) (source_at was wire)) (eq-eqb wire wire refl) in
    (one_turned run c.args.now wire (from_then never) was mid is kept c.set_until.ensures.sources c.in_ok-track.ensures.cursors
    (record { kept = c.in_ok-track.ensures.kept; others = c.in_ok-track.ensures.others })
    (differ_own run c.args.now wire was mid is kept here c.in_ok-track.ensures.listed)).complete
