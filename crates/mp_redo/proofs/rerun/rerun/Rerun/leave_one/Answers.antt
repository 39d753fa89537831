use Rattle.std.proofs.Common.{rules, ◌≡◌, ◌<◌, None, Some, true, false, IsSome, is_some, length, refl, ap, sym, subst, ◌∙◌, arith, inl, inr}
use Rattle.std.proofs.lemmas.List.{get_or_read}
use Rattle.mp_netlist.specs.Circuit.{module_at}
use Rattle.mp_model.proofs.SlotLemmas.{slot_within}
use Rattle.mp_partition.specs.runs.Marks.{is_marked}
use Rattle.mp_depend.specs.declared.recording.rerun_recorder.RerunRecorder.{RerunRecorder}
use Rattle.mp_depend.specs.recording.Recorders.{CanLeave}
use Rattle.mp_redo.specs.declared.rerun.rerun.Rerun.{Rerun}
use Rattle.mp_redo.proofs.rerun.rerun.Rerun.leave_one.Goals as goal

pub returns-in_default : goal.returns-in_default
returns-in_default c =
    let none : module_at c.args.change.now.new.now c.args.id.0 ≡ None = search rules in
    inl (record { asleep = λ stands. let has = subst IsSome none stands in let no : ⊥ = cc in absurd no; same = refl; none = refl })

pub index-requires : goal.index-requires
index-requires c =
    let new = c.args.change.now.new.now in
    let within = slot_within new.modules c.args.id.0 c.in-Some.found.now (sym c.in-Some.ensures.value) in
    let places = c.requires.places in
    omega (arith, within, places)

pub returns-then-not-index : goal.returns-then-not-index
returns-then-not-index c =
    let new = c.args.change.now.new.now in
    let marks = c.args.self.now.activity.active.items in
    let within = slot_within new.modules c.args.id.0 c.in-Some.found.now (sym c.in-Some.ensures.value) in
    let places = c.requires.places in
    let low : c.args.id.0 < length marks = omega (arith, within, places) in
    let off : is_marked marks c.args.id.0 ≡ false = sym (get_or_read marks c.args.id.0 c.index.result.now low c.index.ensures false) ∙ c.if-not-index.true in
    inl (record { asleep = λ stands. off; same = refl; none = refl })

pub fall_asleep-requires : goal.fall_asleep-requires
fall_asleep-requires c =
    let new = c.args.change.now.new.now in
    let marks = c.args.self.now.activity.active.items in
    let within = slot_within new.modules c.args.id.0 c.in-Some.found.now (sym c.in-Some.ensures.value) in
    let places = c.requires.places in
    let low : c.args.id.0 < length marks = omega (arith, within, places) in
    let on : is_marked marks c.args.id.0 ≡ true = sym (get_or_read marks c.args.id.0 c.index.result.now low c.index.ensures false) ∙ c.if-not-index.false in
    c.requires.can c.in-Some.found.now (sym c.in-Some.ensures.value) on

pub leave-requires : goal.leave-requires
leave-requires c =
    let new = c.args.change.now.new.now in
    let marks = c.args.self.now.activity.active.items in
    let at : module_at new c.args.id.0 ≡ Some c.in-Some.found.now = sym c.in-Some.ensures.value in
    let within = slot_within new.modules c.args.id.0 c.in-Some.found.now at in
    let places = c.requires.places in
    let low : c.args.id.0 < length marks = omega (arith, within, places) in
    let on : is_marked marks c.args.id.0 ≡ true = sym (get_or_read marks c.args.id.0 c.index.result.now low c.index.ensures false) ∙ c.if-not-index.false in
    subst (λ (h : RerunRecorder). CanLeave h c.args.id.0 c.args.time) (sym (ap (λ (x : Rerun). x.recorder) c.in_ok-fall_asleep.ensures.kept)) (c.requires.leaves (ap is_some at) on)

pub returns : goal.returns
returns c =
    let new = c.args.change.now.new.now in
    let marks = c.args.self.now.activity.active.items in
    let at : module_at new c.args.id.0 ≡ Some c.in-Some.found.now = sym c.in-Some.ensures.value in
    let within = slot_within new.modules c.args.id.0 c.in-Some.found.now at in
    let places = c.requires.places in
    let low : c.args.id.0 < length marks = omega (arith, within, places) in
    let on : is_marked marks c.args.id.0 ≡ true = sym (get_or_read marks c.args.id.0 c.index.result.now low c.index.ensures false) ∙ c.if-not-index.false in
    inr (record {
      part = c.in-Some.found.now;
      stands = at;
      awake = on;
      mid = c.fall_asleep.new.self;
      falls = c.in_ok-fall_asleep.ensures;
      kept = refl;
      told = c.leave.ensures.left;
      all = c.longest.ensures.all;
      most = c.longest.ensures.most;
    })
