use Rattle.std.proofs.Common.{◌≡◌, subst, arith}
use Rattle.mp_depend.specs.work.Work.{IsWindow}
use Rattle.mp_redo.proofs.lemmas.rerun.WindowLemmas.{next_window}
use Rattle.mp_redo.proofs.rerun.rerun.Rerun.look_ahead.Goals as goal

pub idle_end-next-requires-clause-begins : goal.idle_end-next-requires-clause-begins
idle_end-next-requires-clause-begins g c =
    let new = c.args.change.now.new.now in
    let before = c.requires.before in
    let last = before.is.within in
    let some = c.requires.some in
    let over = c.if-time-self.false in
    let ends : c.args.self.now.window_end ≡ c.args.time = omega (arith, last, some, over) in
    next_window new c.requires.change.form before.from c.args.time (subst (IsWindow new before.from) ends before.is.window) c.requires.below
