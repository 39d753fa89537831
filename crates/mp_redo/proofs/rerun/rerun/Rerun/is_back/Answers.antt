use Rattle.std.proofs.Common.{◌≡◌, ◌⊎◌, ◌<◌, true, false, IsTrue, length, sym, ◌∙◌, arith, inl, inr}
use Rattle.std.proofs.lemmas.Bool.{cases_Bool, both_ways}
use Rattle.std.proofs.lemmas.List.{get_or_read}
use Rattle.mp_model.proofs.SlotLemmas.{slot_within}
use Rattle.mp_netlist.specs.Circuit.{module_at}
use Rattle.mp_partition.specs.runs.Marks.{is_marked}
use Rattle.mp_depend.specs.recording.Live.{IsWorking}
use Rattle.mp_redo.proofs.lemmas.rerun.BorderLemmas.{can_tell, told_state, can_leave_at, works_on}
use Rattle.mp_redo.proofs.lemmas.rerun.StandingLemmas.{standing}
use Rattle.mp_redo.proofs.rerun.rerun.Rerun.is_back.Goals as goal

pub index-requires : goal.index-requires
index-requires c =
    let new = c.args.change.now.new.now in
    let r = standing (module_at new c.args.id.0) (c.is_at_work.ensures.0 c.if-not-is_at_work.false).0 in
    let within = slot_within new.modules c.args.id.0 r.0 r.1 in
    let places = c.requires.touched.places in
    omega (arith, within, places)

pub memory-requires : goal.memory-requires
memory-requires c =
    let change = c.args.change.now in
    can_tell change.old.now change.new.now c.requires.change.form change.run.now c.requires.is.0 c.args.time c.requires.below c.args.self.now c.requires.is.1 c.args.id.0 (c.is_at_work.ensures.0 c.if-not-is_at_work.false).0

pub returns-then-not-is_at_work-clause-others : goal.returns-then-not-is_at_work-clause-others
returns-then-not-is_at_work-clause-others c = λ stands on. absurd (both_ways c.is_at_work.result c.if-not-is_at_work.true (c.is_at_work.ensures.1 (stands, on)))

pub returns-then-index-clause-others : goal.returns-then-index-clause-others
returns-then-index-clause-others c = λ stands on.
    let new = c.args.change.now.new.now in
    let m = c.args.id.0 in
    let marks = c.args.self.now.activity.touched.items in
    let r = standing (module_at new m) stands in
    let within = slot_within new.modules m r.0 r.1 in
    let places = c.requires.touched.places in
    let low : m < length marks = omega (arith, within, places) in
    let marked : is_marked marks m ≡ true = sym (get_or_read marks m c.index.result.now low c.index.ensures false) ∙ c.if-index.true in
    inr (inl (c.requires.touched.marked m marked))

pub returns-clause-can : goal.returns-clause-can
returns-clause-can c = λ told.
    let change = c.args.change.now in
    let old = change.old.now in
    let new = change.new.now in
    let run = change.run.now in
    let ok = c.requires.change in
    let m = c.args.id.0 in
    let s = c.args.self.now in
    let marks = s.activity.touched.items in
    let works = c.is_at_work.ensures.0 c.if-not-is_at_work.false in
    let r = standing (module_at new m) works.0 in
    let within = slot_within new.modules m r.0 r.1 in
    let places = c.requires.touched.places in
    let low : m < length marks = omega (arith, within, places) in
    let unmarked : is_marked marks m ≡ false = sym (get_or_read marks m c.index.result.now low c.index.ensures false) ∙ c.if-index.false in
    can_leave_at old new ok.old_form ok.form ok.revision run ok.run c.args.time c.requires.border c.requires.some c.requires.below s c.requires.touched m r.0 r.1 unmarked c.memory.result
    (told_state old new ok.form run c.requires.is.0 c.args.time c.requires.below s c.requires.is.1 m r.0 r.1 works.1 c.memory.result c.memory.ensures) works.1 (c.is_old_state.ensures.0 told)

pub returns-clause-others : goal.returns-clause-others
returns-clause-others c = λ stands on.
    let change = c.args.change.now in
    let old = change.old.now in
    let new = change.new.now in
    let run = change.run.now in
    let ok = c.requires.change in
    let m = c.args.id.0 in
    let s = c.args.self.now in
    let marks = s.activity.touched.items in
    let r = standing (module_at new m) stands in
    let within = slot_within new.modules m r.0 r.1 in
    let places = c.requires.touched.places in
    let low : m < length marks = omega (arith, within, places) in
    let unmarked : is_marked marks m ≡ false = sym (get_or_read marks m c.index.result.now low c.index.ensures false) ∙ c.if-index.false in
    elim (cases_Bool c.is_old_state.result) as (λ _. IsTrue c.is_old_state.result ⊎ IsWorking old new c.args.time m c.args.time) [
      | inl told ↦ inl told
      | inr not ↦ inr (works_on old new ok.old_form ok.form ok.revision run ok.run c.args.time c.requires.border c.requires.some c.requires.below s c.requires.touched m r.0 r.1 unmarked c.memory.result
          (told_state old new ok.form run c.requires.is.0 c.args.time c.requires.below s c.requires.is.1 m r.0 r.1 on c.memory.result c.memory.ensures)
          (λ same. both_ways c.is_old_state.result not (c.is_old_state.ensures.1 same)))
    ]
