use Rattle.std.proofs.Common.{arith, sym, subst}
use Rattle.mp_active.proofs.lemmas.compare.TrackLemmas.{IsTracking, HasListed, listed_none, tracking_starts, tracking_goes_on, tracking_ends}
use Rattle.mp_active.proofs.compare.comparison.Comparison.track.Goals as goal
use Rattle.mp_active.proofs.compare.comparison.Comparison.track.Goals.{then-asleep_of-gt0+in_ok-list, else-asleep_of-gt0}
use Rattle.mp_active.proofs.lemmas.compare.ChainLemmas.{none_of}

pub loop-number-init : goal.loop-number-init
loop-number-init c =
    let few = c.requires.cursors.shape.few in
    let low = c.requires.within in
    tracking_starts c.args.run.now c.args.now c.args.wire c.args.self.now (omega arith) c.requires.cursors

pub loop-number-preserved : goal.loop-number-preserved
loop-number-preserved c =
    let run = c.args.run.now in
    let now = c.args.now in
    let x = c.in-Some.x in
    let mid = c.loop-number.self in
    let is = c.if-asleep_of-gt0.self in
    let listed : HasListed run now x mid is = elim c.if-asleep_of-gt0.branch as (λ _. HasListed run now x mid is) [
      | then-asleep_of-gt0+in_ok-list w ↦ subst (HasListed run now x mid) (sym w.self-is) (record {
        kept = w.in_ok-list.ensures.kept;
        cursors = w.in_ok-list.ensures.cursors;
        others = w.in_ok-list.ensures.others;
        listed = λ some. w.in_ok-list.ensures.listed;
      })
      | else-asleep_of-gt0 w ↦ subst (HasListed run now x mid) (sym w.self-is)
          (listed_none run now x mid (let none = w.if-asleep_of-gt0 in let at = c.asleep_of.ensures in omega arith) c.loop-number.invariant.cursors)
    ] in
    tracking_goes_on run now c.args.wire x c.after-number.result c.args.self.now mid is c.requires.linked c.after-number.ensures
    (subst (λ o. IsTracking run now c.args.wire o c.args.self.now mid) c.in-Some.is c.loop-number.invariant) listed

pub returns-clause-listed : goal.returns-clause-listed
returns-clause-listed c =
    let run = c.args.run.now in
    let now = c.args.now in
    let was = c.args.self.now in
    let is = c.loop-number.self in
    tracking_ends run now c.args.wire was is c.requires.linked c.requires.cursors
    (subst (λ o. IsTracking run now c.args.wire o was is) (none_of c.loop-number.number c.in_default.not-Some) c.loop-number.invariant)
