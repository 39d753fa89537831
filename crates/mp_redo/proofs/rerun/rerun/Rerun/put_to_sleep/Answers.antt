use Rattle.std.proofs.Common.{◌≡◌, ℕ, ◌<◌, ◌≤◌, false, IsSome, is_some, length, slice_index_or, refl, sym, ap, subst, ◌∙◌, arith, inl, inr}
use Rattle.std.specs.List.{Contains}
use Rattle.std.proofs.lemmas.Bool.{cases_eq}
use Rattle.std.proofs.lemmas.List.{get_or_default}
use Rattle.std.proofs.lemmas.List.Elements.{Contains-get_or}
use Rattle.mp_records.specs.declared.ids.ModuleId.{ModuleId}
use Rattle.mp_netlist.specs.Circuit.{module_at}
use Rattle.mp_netlist.proofs.LimitLemmas.{horizon_within}
use Rattle.mp_depend.specs.recording.Recorders.{IsRecorder}
use Rattle.mp_depend.proofs.lemmas.recording.HistoryLemmas.{can_leave}
use Rattle.mp_redo.specs.declared.rerun.rerun.Rerun.{Rerun}
use Rattle.mp_redo.specs.rerun.Reruns.{active_of}
use Rattle.mp_redo.proofs.lemmas.rerun.FallLemmas.{falling_begins}
use Rattle.mp_redo.proofs.lemmas.rerun.FallingLemmas.{can_fall, falling_on, off_here, off_still, value_low}
use Rattle.mp_redo.proofs.lemmas.rerun.SleptLemmas.{have_left, rerun_slept}
use Rattle.mp_redo.proofs.rerun.rerun.Rerun.put_to_sleep.Goals as goal

pub loop-id-init : goal.loop-id-init
loop-id-init c =
    let change = c.args.change.now in
    record {
      falling = λ numbering since is. falling_begins change.old.now change.new.now change.run.now numbering since c.args.time c.args.leaving.now c.args.self.now is c.requires.recorder;
      done = λ k d low. absurd (let no : ⊥ = omega (arith, low) in no);
      low = omega arith;
    }

pub leave_one-requires-clause-places : goal.leave_one-requires-clause-places
leave_one-requires-clause-places c =
    let re = c.requires.is.2 in
    (c.loop-id.invariant.falling re.numbering re.since re.is).modules

pub leave_one-requires-clause-can : goal.leave_one-requires-clause-can
leave_one-requires-clause-can c = λ r at on.
    let change = c.args.change.now in
    let re = c.requires.is.2 in
    can_fall change.old.now change.new.now c.requires.change.form change.run.now re.numbering re.since c.args.time c.requires.border c.requires.some c.requires.below c.args.leaving.now c.args.self.now c.loop-id.self re.is c.loop-id.units
    (c.loop-id.invariant.falling re.numbering re.since re.is) (slice_index_or c.args.leaving.now c.loop-id.id-index (record { 0 = 0 })).0 r at on

pub leave_one-requires-clause-leaves : goal.leave_one-requires-clause-leaves
leave_one-requires-clause-leaves c = λ stands on.
    let change = c.args.change.now in
    let re = c.requires.is.2 in
    let high = horizon_within change.new.now c.requires.change.form in
    let below = c.requires.below in
    can_leave change.old.now change.new.now change.run.now (λ m. c.args.time) c.args.time (active_of c.loop-id.self) c.loop-id.self.recorder (c.loop-id.invariant.falling re.numbering re.since re.is).recorder
    (slice_index_or c.args.leaving.now c.loop-id.id-index (record { 0 = 0 })).0 c.args.time stands on refl below (omega (arith, high, below))

pub loop-id-preserved : goal.loop-id-preserved
loop-id-preserved c =
    let change = c.args.change.now in
    let old = change.old.now in
    let new = change.new.now in
    let run = change.run.now in
    let ok = c.requires.change.form in
    let time = c.args.time in
    let border = c.requires.border in
    let some = c.requires.some in
    let below = c.requires.below in
    let leaving = c.args.leaving.now in
    let s = c.args.self.now in
    let now = c.loop-id.self in
    let next = c.leave_one.new.self in
    let inv = c.loop-id.invariant in
    let index = c.loop-id.id-index in
    let id : ModuleId = slice_index_or leaving index (record { 0 = 0 }) in
    let within : index < length leaving = c.loop-id-test.true in
    let has : Contains leaving id = Contains-get_or leaving index (record { 0 = 0 }) within in
    let can = c.requires.can id.0 has in
    let stands : IsSome (module_at new id.0) = ap is_some can.kept.after in
    let value = c.in_ok-most.most in
    let units = c.max-units.result in
    let least : c.loop-id.units ≤ units = omega arith in
    let most : value ≤ units = omega arith in
    let re = c.requires.is.2 in
    let are = inv.falling re.numbering re.since re.is in
    let low_value = value_low old new ok run re.numbering re.since time border some below leaving s now re.is c.loop-id.units are id.0 value units next c.in_ok-most.ensures in
    let low = inv.low in
    record {
      falling = λ numbering since is.
          falling_on old new ok run numbering since time border some below leaving s now is c.loop-id.units (inv.falling numbering since is) id.0 value units next c.in_ok-most.ensures has least most;
      done = λ k d before. elim (cases_eq k index) as (λ _. active_of next (slice_index_or leaving k d).0 ≡ false) [
        | inl same ↦
            let here : slice_index_or leaving k d ≡ id = ap (λ (j : ℕ). slice_index_or leaving j d) same ∙ get_or_default leaving index d (record { 0 = 0 }) within in
            ap (λ (x : ModuleId). active_of next x.0) here
            ∙ off_here old new ok run re.numbering re.since time border some below leaving s now re.is c.loop-id.units are id.0 value units next c.in_ok-most.ensures stands
        | inr other ↦
            off_still old new ok run re.numbering re.since time border some below leaving s now re.is c.loop-id.units are id.0 value units next c.in_ok-most.ensures (slice_index_or leaving k d).0
            (inv.done k d (omega (arith, before, other)))
      ];
      low = omega (arith, low, low_value);
    }

pub take_tails-requires : goal.take_tails-requires
take_tails-requires c =
    let high = horizon_within c.args.change.now.new.now c.requires.change.form in
    let below = c.requires.below in
    let low = c.loop-id.invariant.low in
    omega (arith, high, below, low)

pub returns-clause-left : goal.returns-clause-left
returns-clause-left c =
    let change = c.args.change.now in
    let re = c.requires.is.2 in
    have_left change.old.now change.new.now c.requires.change.form change.run.now re.numbering re.since c.args.time c.loop-id.units c.args.leaving.now c.args.self.now c.loop-id.self c.requires.some c.requires.below re.is
    (c.loop-id.invariant.falling re.numbering re.since re.is) c.take_tails.new.self c.in_ok-take_tails.ensures
    (λ m has.
    let low = has.1 in
    let end = c.loop-id-test.false in
    let off = c.loop-id.invariant.done has.0 (record { 0 = m }) (omega (arith, low, end)) in
    sym (ap (λ (x : ModuleId). active_of c.loop-id.self x.0) has.2) ∙ off)

pub returns-clause-is : goal.returns-clause-is
returns-clause-is c =
    let change = c.args.change.now in
    let re = c.requires.is.2 in
    let le = c.requires.is.1 in
    rerun_slept change.old.now change.new.now c.requires.change.form change.run.now re.numbering re.since c.args.time c.loop-id.units c.args.leaving.now c.args.self.now c.loop-id.self c.requires.some c.requires.below re.is
    (c.loop-id.invariant.falling re.numbering re.since re.is) c.take_tails.new.self c.in_ok-take_tails.ensures c.requires.can (λ m. let first = re.early m in omega (arith, first, le))

pub returns-clause-recorder : goal.returns-clause-recorder
returns-clause-recorder c =
    let change = c.args.change.now in
    let re = c.requires.is.2 in
    let told = c.in_ok-take_tails.ensures in
    subst (λ (x : Rerun). IsRecorder change.old.now change.new.now change.run.now (λ m. c.args.time) c.args.time (active_of x) x.recorder) (sym told.kept) (c.loop-id.invariant.falling re.numbering re.since re.is).recorder
