use Rattle.std.proofs.Common.{◌≡◌, ◌+◌, ◌-◌, sym, ap, subst, arith}
use Rattle.mp_model.specs.Waves.{level}
use Rattle.mp_simulation.specs.run.Stimuli.{left_of}
use Rattle.mp_active.specs.declared.compare.comparison.Comparison.{Comparison}
use Rattle.mp_redo.proofs.lemmas.rerun.DueLemmas.{only_bits, only_levels}
use Rattle.mp_redo.proofs.lemmas.rerun.LookingLemmas.{looked_on}
use Rattle.mp_redo.proofs.lemmas.rerun.DepartingLemmas.{AreComing, coming_is}
use Rattle.mp_redo.proofs.lemmas.rerun.FindingLemmas.{below_never, coming_within, coming_new, coming_low, agree_from, agree_asleep, departing_is}
use Rattle.mp_redo.proofs.rerun.rerun.Rerun.find_departing.Goals as goal

pub find_departing-requires-clause-time : goal.find_departing-requires-clause-time
find_departing-requires-clause-time c = below_never c.args.change.now.new.now c.requires.change.form c.args.time c.requires.below

pub find_departing-requires-clause-cursors : goal.find_departing-requires-clause-cursors
find_departing-requires-clause-cursors c = c.requires.is.1.is.followed.cursors

pub find_departing-requires-clause-within : goal.find_departing-requires-clause-within
find_departing-requires-clause-within c =
    let s = c.args.self.now in
    let change = c.requires.change in
    let at = c.requires.is.1 in
    let some = c.requires.some in
    let next : c.args.time - 1 + 1 ≡ c.args.time = omega (arith, some) in
    let coming = c.coming_changes-coming.result in
    let are = coming_is c.args.time (left_of s.stimuli) (left_of s.pending_outputs) s.simulation c.list_due-2.new.set coming c.coming_changes-coming.ensures
    (only_bits c.args.time s.stimuli.place s.pending_outputs.place s.stimuli.list.items s.pending_outputs.list.items c.as_slice.result.now c.as_slice-2.result.now c.as_slice.ensures.value c.as_slice-2.ensures.value
    c.clear.new.self.items c.list_due.new.set.bits.items c.list_due-2.new.set.bits.items c.clear.ensures.items c.in_ok-list_due.ensures.bits c.in_ok-list_due-2.ensures.bits)
    (only_levels c.args.time s.stimuli.place s.pending_outputs.place s.stimuli.list.items s.pending_outputs.list.items c.as_slice.result.now c.as_slice-2.result.now c.as_slice.ensures.value c.as_slice-2.ensures.value
    c.clear-2.new.self.items c.list_due.new.set.levels.items c.list_due-2.new.set.levels.items c.clear-2.ensures.items c.in_ok-list_due.ensures.levels c.in_ok-list_due-2.ensures.levels) in
    coming_within c.args.change.now.old.now c.args.change.now.new.now change.old_form change.form change.revision c.args.change.now.run.now at.numbering at.since (c.args.time - 1) s at.is coming
    (subst (λ u. AreComing u (left_of s.stimuli) (left_of s.pending_outputs) s.simulation coming) (sym next) are)

pub returns-clause-is : goal.returns-clause-is
returns-clause-is c latest at =
    let s = c.args.self.now in
    looked_on c.args.change.now.old.now c.args.change.now.new.now c.args.change.now.run.now latest (c.args.time - 1) s (record s { comparison = c.find_departing.new.self; set = c.list_due-2.new.set })
    (ap (λ (x : Comparison). record s { comparison = x; set = c.list_due-2.new.set }) c.in_ok-find_departing.ensures.kept) c.in_ok-find_departing.ensures.cursors at

pub returns-clause-departing : goal.returns-clause-departing
returns-clause-departing c =
    let s = c.args.self.now in
    let change = c.requires.change in
    let at = c.requires.is.1 in
    let old = c.args.change.now.old.now in
    let new = c.args.change.now.new.now in
    let run = c.args.change.now.run.now in
    let time = c.args.time in
    let some = c.requires.some in
    let below = c.requires.below in
    let same = change.revision.horizon in
    let next : c.args.time - 1 + 1 ≡ c.args.time = omega (arith, some) in
    let coming = c.coming_changes-coming.result in
    let are = coming_is time (left_of s.stimuli) (left_of s.pending_outputs) s.simulation c.list_due-2.new.set coming c.coming_changes-coming.ensures
    (only_bits time s.stimuli.place s.pending_outputs.place s.stimuli.list.items s.pending_outputs.list.items c.as_slice.result.now c.as_slice-2.result.now c.as_slice.ensures.value c.as_slice-2.ensures.value
    c.clear.new.self.items c.list_due.new.set.bits.items c.list_due-2.new.set.bits.items c.clear.ensures.items c.in_ok-list_due.ensures.bits c.in_ok-list_due-2.ensures.bits)
    (only_levels time s.stimuli.place s.pending_outputs.place s.stimuli.list.items s.pending_outputs.list.items c.as_slice.result.now c.as_slice-2.result.now c.as_slice.ensures.value c.as_slice-2.ensures.value
    c.clear-2.new.self.items c.list_due.new.set.levels.items c.list_due-2.new.set.levels.items c.clear-2.ensures.items c.in_ok-list_due.ensures.levels c.in_ok-list_due-2.ensures.levels) in
    let there = subst (λ u. AreComing u (left_of s.stimuli) (left_of s.pending_outputs) s.simulation coming) (sym next) are in
    departing_is old new change.old_form change.form change.revision run at.numbering at.since (time - 1) s at.is (record s { comparison = c.find_departing.new.self; set = c.list_due-2.new.set }) time
    (ap (λ (x : Comparison). record s { comparison = x; set = c.list_due-2.new.set }) c.in_ok-find_departing.ensures.kept)
    (c.in_ok-find_departing.ensures.departing (level old) (level new) (c.runs_are_old.ensures.levels old change.old_form run change.run time (omega (arith, below, same))) at.is.followed.complete
    (agree_from old new change.old_form change.form change.revision run at.numbering at.since (time - 1) s at.is c.wires_agree.ensures.wires time next (below_never new change.form time below))
    (agree_asleep old new change.old_form change.form change.revision run at.numbering at.since (time - 1) s at.is c.readers_agree.ensures.sleepers)
    (coming_new old new change.old_form change.form change.revision run at.numbering at.since (time - 1) s at.is coming there time next)
    (coming_low old new change.old_form change.form change.revision run at.numbering at.since (time - 1) s at.is coming there))
