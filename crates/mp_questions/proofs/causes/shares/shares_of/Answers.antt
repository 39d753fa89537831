use Rattle.std.proofs.Common.{◌+◌, List, filter, length, drop, slice_index_or, sym, ap, subst, ◌∙◌, arith}
use Rattle.mp_netlist.proofs.LimitLemmas.{horizon_within}
use Rattle.mp_netlist.specs.Circuit.{IsCircuit}
use Rattle.mp_questions.specs.declared.causes.levels.Levels.{Levels}
use Rattle.mp_questions.specs.declared.causes.wire_change.WireChange.{WireChange}
use Rattle.mp_questions.specs.declared.causes.module_share.ModuleShare.{ModuleShare}
use Rattle.mp_questions.specs.causes.Noting.{AreByNumber, noted}
use Rattle.mp_questions.specs.causes.Shares.{by_units, has_steps, is_step_in, units_of}
use Rattle.mp_questions.proofs.lemmas.causes.ShareLemmas.{IsShareOf, all_noted, noted_next, noted_room}
use Rattle.mp_questions.proofs.lemmas.causes.OrderLemmas.{shares_by_number}
use Rattle.mp_questions.proofs.causes.shares.shares_of.Goals as goal

pub note_change-requires-clause-form : goal.note_change-requires-clause-form
note_change-requires-clause-form c = subst (λ (levels : Levels). IsCircuit levels.netlist.now) (sym c.loop-change.invariant.levels) c.requires.form

pub note_change-requires-clause-room : goal.note_change-requires-clause-room
note_change-requires-clause-room c m d low =
    let n = c.args.tracer.now.levels.netlist.now in
    noted_room n c.args.changes.now (drop c.loop-change.change-index c.args.changes.now) m (slice_index_or c.loop-change.shares.items m d) c.requires.few
    (λ k e within. let one = c.requires.within k e within in omega (arith, one.1, horizon_within n c.requires.form))
    (c.loop-change.invariant.each m d (omega (arith, low, c.loop-change.invariant.places)))

pub loop-change-preserved : goal.loop-change-preserved
loop-change-preserved c =
    let n = c.args.tracer.now.levels.netlist.now in
    let all = c.args.changes.now in
    let i = c.loop-change.change-index in
    let none : WireChange = record { wire = record { 0 = 0 }; time = 0; level = 0 } in
    let change : WireChange = slice_index_or all i none in
    record {
      levels = c.note_change.ensures.levels ∙ c.loop-change.invariant.levels;
      places = c.note_change.ensures.places ∙ c.loop-change.invariant.places;
      each = λ m d low.
          (let s : ModuleShare = slice_index_or c.loop-change.shares.items m d in
          subst (IsShareOf n all (drop (i + 1) all) m)
          (sym
          (c.note_change.ensures.each m d (omega (arith, low, c.loop-change.invariant.places))
          ∙ ap (λ (levels : Levels). noted (is_step_in levels.netlist.now m change) (units_of levels.netlist.now change) s) c.loop-change.invariant.levels))
          (noted_next n all i m none s c.loop-change-test.true (c.loop-change.invariant.each m d low)));
    }

pub by_units-requires : goal.by_units-requires
by_units-requires c =
    let n = c.args.tracer.now.levels.netlist.now in
    subst (AreByNumber 0) (sym (all_noted n c.args.changes.now c.loop-change.change-index c.loop-change.shares.items c.loop-change-test.false c.loop-change.invariant.places c.loop-change.invariant.each))
    (shares_by_number n c.args.changes.now 0 (length n.modules))

pub returns-clause-value : goal.returns-clause-value
returns-clause-value c =
    let n = c.args.tracer.now.levels.netlist.now in
    c.by_units.ensures
    ∙ ap (λ (ss : List ModuleShare). by_units (filter has_steps ss)) (all_noted n c.args.changes.now c.loop-change.change-index c.loop-change.shares.items c.loop-change-test.false c.loop-change.invariant.places c.loop-change.invariant.each)
