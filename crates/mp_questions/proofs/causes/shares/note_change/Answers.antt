use Rattle.std.proofs.Common.{◌≡◌, slice_index_or, sym, ap, ◌∙◌, arith}
use Rattle.mp_netlist.proofs.LimitLemmas.{horizon_within}
use Rattle.mp_questions.specs.causes.Causes.{cause_of, followed}
use Rattle.mp_questions.proofs.lemmas.causes.ChainLemmas.{followed_time}
use Rattle.mp_questions.proofs.lemmas.causes.ShareLemmas.{room_enough}
use Rattle.mp_questions.proofs.causes.shares.note_change.Goals as goal

pub overflow_sub-units : goal.overflow_sub-units
overflow_sub-units c =
    let n = c.args.tracer.now.levels.netlist.now in
    let next : followed (cause_of n c.args.change) ≡ c.followed.result = sym (c.followed.ensures ∙ ap followed c.cause_of-cause.ensures.cause) in
    let earlier = followed_time n c.requires.form c.args.change c.requires.from c.followed.result next in
    omega (arith, c.time_of.ensures, earlier.1)

pub note-requires : goal.note-requires
note-requires c = record {
  room = λ m d low here.
      (let n = c.args.tracer.now.levels.netlist.now in
      room_enough _ (slice_index_or c.args.shares.now.items m d) (omega (arith, c.requires.within, horizon_within n c.requires.form)) (c.requires.room m d low));
}
