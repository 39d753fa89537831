use Rattle.std.proofs.Common.{All, subst, sym}
use Rattle.mp_active.specs.steps.Putting.{IsAhead, room}
use Rattle.mp_active.proofs.lemmas.steps.PutLemmas.{between_ahead}
use Rattle.mp_active.proofs.steps.wheel_entries.put_old_changes.Goals as goal

pub put_changes-requires : goal.put_changes-requires
put_changes-requires c =
    let units = room c.args.wire.has_data c.args.simulation.now in
    subst (λ cs. All (IsAhead c.args.now units) cs) (sym c.changes_between.ensures.value)
    (between_ahead c.args.from c.args.to c.args.now units c.args.wire.wave.now.changes c.requires.later c.requires.within)
