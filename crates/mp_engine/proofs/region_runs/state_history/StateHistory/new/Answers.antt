use Rattle.std.proofs.Common.{◌∙◌, arith}
use Rattle.mp_engine.proofs.lemmas.region_runs.StateHistoryLemmas.{none_listed, one_marked, first_history}
use Rattle.mp_engine.proofs.region_runs.state_history.StateHistory.new.Goals as goal

pub loop-m-init : goal.loop-m-init
loop-m-init c = record {
  places = c.in_ok-marks.ensures.places ∙ c.module_slots.ensures.value;
  marked = λ k low. absurd (omega arith);
  listed = none_listed c.in_ok-marks.marks.items _ c.in_ok-marks.ensures.none;
}

pub loop-m-preserved : goal.loop-m-preserved
loop-m-preserved c =
    let now = c.loop-m.invariant in
    let added = c.in_ok-mark.ensures in
    record {
      places = added.places ∙ now.places;
      marked = one_marked c.loop-m.m c.loop-m.marks.items c.mark.new.marks.items c.loop-m.list.items c.mark.new.due.items (let low = c.loop-m-test.true in let size = now.places in omega arith) added now.marked;
      listed = added.listed now.listed;
    }

pub returns : goal.returns
returns c =
    let last = c.loop-m.invariant in
    record {
      kept = first_history c.args.netlist.now c.loop-m.marks.items c.in_ok-kept.kept.items last.places (λ k low. last.marked k (omega arith)) c.in_ok-kept.ensures;
      listed = last.listed;
    }
