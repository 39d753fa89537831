use Rattle.std.proofs.Common.{◌≡◌, ◌+◌, ◌-◌, [], sym, subst, arith}
use Rattle.mp_active.specs.compare.Comparing.{HasCursors, AreUnseen}
use Rattle.mp_redo.specs.declared.rerun.rerun.Rerun.{Rerun}
use Rattle.mp_redo.specs.rerun.Joining.{AreJoining, AreDeparting}
use Rattle.mp_redo.specs.rerun.Reruns.{active_of}
use Rattle.mp_redo.proofs.lemmas.rerun.LookingLemmas.{looked_on, looked_twice}
use Rattle.mp_redo.proofs.rerun.rerun.Rerun.find_joining.Goals as goal

pub list_readers-requires : goal.list_readers-requires
list_readers-requires c =
    let next : c.args.time - 1 + 1 ≡ c.args.time = let some = c.requires.some in omega (arith, some) in (
      c.args.change.now.old.now,
      c.args.change.now.new.now,
      c.args.change.now.run.now,
      c.requires.is.0,
      c.args.time - 1,
      c.in_ok-find_departing.ensures.is c.requires.is.0 c.requires.is.1,
      subst (λ u. AreDeparting c.args.change.now.old.now c.args.change.now.new.now u c.find_departing.new.self) (sym next) c.in_ok-find_departing.ensures.departing,
    )

pub returns-clause-looked : goal.returns-clause-looked
returns-clause-looked c = looked_twice c.args.self.now c.find_departing.new.self c.list_readers.new.self c.in_ok-find_departing.ensures.looked c.in_ok-list_readers.ensures.looked

pub returns-clause-is : goal.returns-clause-is
returns-clause-is c latest at =
    let mid = c.in_ok-find_departing.ensures.is latest at in
    looked_on c.args.change.now.old.now c.args.change.now.new.now c.args.change.now.run.now latest (c.args.time - 1) c.find_departing.new.self c.list_readers.new.self c.in_ok-list_readers.ensures.looked
    (subst (λ (r : Rerun). HasCursors c.args.change.now.run.now (c.args.time - 1) [] r.comparison) (sym c.in_ok-list_readers.ensures.kept) mid.is.followed.cursors) mid

pub returns-clause-unseen : goal.returns-clause-unseen
returns-clause-unseen c = subst (λ (r : Rerun). AreUnseen (c.args.time + 1) r.comparison) (sym c.in_ok-list_readers.ensures.kept) c.in_ok-find_departing.ensures.unseen

pub returns-clause-joining : goal.returns-clause-joining
returns-clause-joining c =
    let next : c.args.time - 1 + 1 ≡ c.args.time = let some = c.requires.some in omega (arith, some) in
    let change = c.requires.change in
    let old = c.args.change.now.old.now in
    let new = c.args.change.now.new.now in
    let joining = c.list_readers.new.self.activity.joining.items in
    let back = subst (λ u. AreDeparting old new u c.find_departing.new.self) (sym next) c.in_ok-find_departing.ensures.departing in
    let are = c.in_ok-list_readers.ensures.joining old new c.args.change.now.run.now c.requires.is.0 (c.args.time - 1) change.old_form change.form change.revision
    (c.in_ok-find_departing.ensures.is c.requires.is.0 c.requires.is.1) back in
    subst (λ u. AreJoining old new (active_of c.args.self.now) u joining) next
    (let same = subst (λ (r : Rerun). AreJoining old new (active_of r) (c.args.time - 1 + 1) joining) c.in_ok-find_departing.ensures.looked are in
    record { stand = same.stand; asleep = same.asleep; apart = same.apart; all = same.all; once = same.once })
