use Rattle.std.proofs.Common.{◌≡◌, ◌+◌, ◌-◌, ap, arith}
use Rattle.mp_model.specs.Waves.{level}
use Rattle.mp_active.specs.declared.compare.comparison.Comparison.{Comparison}
use Rattle.mp_redo.proofs.lemmas.rerun.DueLemmas.{due_bits, due_levels, due_left}
use Rattle.mp_redo.proofs.lemmas.rerun.FindingLemmas.{below_never}
use Rattle.mp_redo.proofs.lemmas.rerun.PassingLemmas.{followed_at, set_there}
use Rattle.mp_redo.proofs.lemmas.rerun.SettingLemmas.{set_outside_at}
use Rattle.mp_redo.proofs.rerun.rerun.Rerun.set_wires.Goals as goal

pub pass_unit-requires-clause-time : goal.pass_unit-requires-clause-time
pass_unit-requires-clause-time c = below_never c.args.change.now.new.now c.requires.change.form c.args.time c.requires.below

pub pass_unit-requires-clause-cursors : goal.pass_unit-requires-clause-cursors
pass_unit-requires-clause-cursors c = c.requires.is.1.is.followed.cursors

pub returns-clause-followed : goal.returns-clause-followed
returns-clause-followed c numbering since is =
    let s = c.args.self.now in
    let some = c.requires.some in
    let next : c.args.time - 1 + 1 ≡ c.args.time = omega (arith, some) in
    let kept = ap (λ (x : Comparison). record s { comparison = x; stimuli = record (s.stimuli) { place = c.in_ok-self.field-0 }; pending_outputs = record (s.pending_outputs) { place = c.in_ok-self-2.field-0 }; set = c.list_due-2.new.set })
    c.in_ok-pass_unit.ensures.kept in
    followed_at c.args.change.now.old.now c.args.change.now.new.now c.args.change.now.run.now numbering since (c.args.time - 1) c.args.time s
    (record s { comparison = c.pass_unit.new.self; stimuli = record (s.stimuli) { place = c.in_ok-self.field-0 }; pending_outputs = record (s.pending_outputs) { place = c.in_ok-self-2.field-0 }; set = c.list_due-2.new.set })
    next kept c.sleepers_agree.ensures.on c.requires.quiet c.in_ok-pass_unit.ensures.cursors (c.in_ok-pass_unit.ensures.complete is.followed.complete)
    (due_left c.args.time c.in_ok-self.field-0 s.stimuli.place s.stimuli.list.items c.as_slice.result.now c.as_slice.ensures.value c.in_ok-self.ensures.left)
    (due_left c.args.time c.in_ok-self-2.field-0 s.pending_outputs.place s.pending_outputs.list.items c.as_slice-2.result.now c.as_slice-2.ensures.value c.in_ok-self-2.ensures.left)
    is.followed

pub returns-clause-set : goal.returns-clause-set
returns-clause-set c =
    let s = c.args.self.now in
    let change = c.requires.change in
    let at = c.requires.is.1 in
    let old = c.args.change.now.old.now in
    let new = c.args.change.now.new.now in
    let run = c.args.change.now.run.now in
    let time = c.args.time in
    let some = c.requires.some in
    let below = c.requires.below in
    let same = change.revision.horizon in
    let next : c.args.time - 1 + 1 ≡ c.args.time = omega (arith, some) in
    let kept = ap (λ (x : Comparison). record s { comparison = x; stimuli = record (s.stimuli) { place = c.in_ok-self.field-0 }; pending_outputs = record (s.pending_outputs) { place = c.in_ok-self-2.field-0 }; set = c.list_due-2.new.set })
    c.in_ok-pass_unit.ensures.kept in
    set_there new time s
    (record s { comparison = c.pass_unit.new.self; stimuli = record (s.stimuli) { place = c.in_ok-self.field-0 }; pending_outputs = record (s.pending_outputs) { place = c.in_ok-self-2.field-0 }; set = c.list_due-2.new.set })
    kept
    (set_outside_at old new change.old_form change.form change.revision c.wires_agree.ensures.wires c.wires_agree.ensures.sleepers run at.numbering at.since (time - 1) time s
    (record { bits = c.clear.new.self; levels = c.clear-2.new.self }) c.pass_unit.new.set c.list_due-2.new.set.bits.items c.list_due-2.new.set.levels.items next (below_never new change.form time below)
    at.is.followed c.clear.ensures.items c.clear-2.ensures.items
    (c.in_ok-pass_unit.ensures.set (level old) (c.runs_are_old.ensures.levels old change.old_form run change.run time (omega (arith, below, same))) at.is.followed.complete)
    (due_bits time s.stimuli.place s.pending_outputs.place s.stimuli.list.items s.pending_outputs.list.items c.as_slice.result.now c.as_slice-2.result.now c.as_slice.ensures.value c.as_slice-2.ensures.value
    c.pass_unit.new.set.bits.items c.list_due.new.set.bits.items c.list_due-2.new.set.bits.items c.in_ok-self.ensures.bits c.in_ok-self-2.ensures.bits)
    (due_levels time s.stimuli.place s.pending_outputs.place s.stimuli.list.items s.pending_outputs.list.items c.as_slice.result.now c.as_slice-2.result.now c.as_slice.ensures.value c.as_slice-2.ensures.value
    c.pass_unit.new.set.levels.items c.list_due.new.set.levels.items c.list_due-2.new.set.levels.items c.in_ok-self.ensures.levels c.in_ok-self-2.ensures.levels))
