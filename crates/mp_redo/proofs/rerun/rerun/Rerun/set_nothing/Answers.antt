use Rattle.std.proofs.Common.{◌≡◌, ◌+◌, ◌-◌, ◌<◌, [], refl, sym, subst, arith}
use Rattle.mp_active.specs.excerpt.Setting.{AreSetOutside}
use Rattle.mp_redo.specs.declared.rerun.rerun.Rerun.{Rerun}
use Rattle.mp_redo.specs.rerun.Idle.{IsQuiet}
use Rattle.mp_redo.specs.rerun.Joining.{NoneIsApart}
use Rattle.mp_redo.specs.rerun.Reruns.{IsFollowed, active_of, on_of}
use Rattle.mp_redo.proofs.lemmas.rerun.FindingLemmas.{below_never}
use Rattle.mp_redo.proofs.lemmas.rerun.PassingLemmas.{set_there}
use Rattle.mp_redo.proofs.lemmas.rerun.IdleLemmas.{nothing_heard, quiet_apart, quiet_outside, quiet_followed}
use Rattle.mp_redo.proofs.rerun.rerun.Rerun.set_nothing.Goals as goal

pub skip-requires-clause-is : goal.skip-requires-clause-is
skip-requires-clause-is c = (c.args.time - 1, [], c.requires.is.1.is.followed.cursors.timers)

pub returns-clause-none : goal.returns-clause-none
returns-clause-none c =
    let s = c.args.self.now in
    let change = c.requires.change in
    let at = c.requires.is.1 in
    let old = c.args.change.now.old.now in
    let new = c.args.change.now.new.now in
    let time = c.args.time in
    let t = c.args.time - 1 in
    let some = c.requires.some in
    let next : t + 1 ≡ time = omega (arith, some) in
    let early = subst (λ u. u < new.horizon) (sym next) c.requires.below in
    let nothing = nothing_heard t s c.comes_up.ensures (below_never new change.form (t + 1) early) at.is.followed.cursors.timers (subst (λ u. IsQuiet u s) (sym next) c.requires.quiet) in
    subst (NoneIsApart old new (active_of s)) next
    (quiet_apart old new change.old_form change.form change.revision c.args.change.now.run.now change.run at.numbering at.since t early s at.is nothing
    c.wires_agree.ensures.wires c.readers_agree.ensures.sleepers c.readers_agree.ensures.quiet)

pub returns-clause-followed : goal.returns-clause-followed
returns-clause-followed c numbering since is =
    let s = c.args.self.now in
    let change = c.requires.change in
    let old = c.args.change.now.old.now in
    let new = c.args.change.now.new.now in
    let run = c.args.change.now.run.now in
    let time = c.args.time in
    let t = c.args.time - 1 in
    let some = c.requires.some in
    let next : t + 1 ≡ time = omega (arith, some) in
    let early = subst (λ u. u < new.horizon) (sym next) c.requires.below in
    let nothing = nothing_heard t s c.comes_up.ensures (below_never new change.form (t + 1) early) is.followed.cursors.timers (subst (λ u. IsQuiet u s) (sym next) c.requires.quiet) in
    let after : Rerun = record s { comparison = record (s.comparison) { timers = c.skip.new.self }; set = record { bits = c.clear.new.self; levels = c.clear-2.new.self } } in
    subst (λ u. IsFollowed old new run numbering since u after) next
    (quiet_followed old new change.old_form change.form change.revision run change.run numbering since t early s is nothing
    c.wires_agree.ensures.wires c.readers_agree.ensures.sleepers c.readers_agree.ensures.quiet c.sleepers_agree.ensures.on after c.skip.new.self refl refl c.skip.ensures.times
    (c.skip.ensures.is t is.followed.cursors.timers) refl refl)

pub returns-clause-set : goal.returns-clause-set
returns-clause-set c =
    let s = c.args.self.now in
    let change = c.requires.change in
    let at = c.requires.is.1 in
    let old = c.args.change.now.old.now in
    let new = c.args.change.now.new.now in
    let time = c.args.time in
    let t = c.args.time - 1 in
    let some = c.requires.some in
    let next : t + 1 ≡ time = omega (arith, some) in
    let early = subst (λ u. u < new.horizon) (sym next) c.requires.below in
    let nothing = nothing_heard t s c.comes_up.ensures (below_never new change.form (t + 1) early) at.is.followed.cursors.timers (subst (λ u. IsQuiet u s) (sym next) c.requires.quiet) in
    let after : Rerun = record s { comparison = record (s.comparison) { timers = c.skip.new.self }; set = record { bits = c.clear.new.self; levels = c.clear-2.new.self } } in
    set_there new time s after refl
    (subst (AreSetOutside new (active_of s) (on_of s) c.clear.new.self.items c.clear-2.new.self.items) next
    (quiet_outside old new change.old_form change.form change.revision c.args.change.now.run.now change.run at.numbering at.since t early s at.is nothing
    c.wires_agree.ensures.wires c.wires_agree.ensures.sleepers c.clear.new.self.items c.clear-2.new.self.items c.clear.ensures.items c.clear-2.ensures.items))
