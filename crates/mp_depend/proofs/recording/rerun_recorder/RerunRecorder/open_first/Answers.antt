use Rattle.std.proofs.Common.{◌≡◌, ◌+◌, ◌≤◌, Some, false, true, IsTrue, IsSome, length, slice_set, refl, ap, sym, subst, ◌∙◌, arith}
use Rattle.mp_partition.specs.runs.Marks.{is_marked}
use Rattle.mp_netlist.specs.Circuit.{module_at}
use Rattle.mp_model.proofs.SlotLemmas.{some_within}
use Rattle.mp_depend.specs.declared.work.work_span.WorkSpan.{WorkSpan}
use Rattle.mp_depend.specs.work.Work.{window_end}
use Rattle.mp_depend.specs.declared.recording.rerun_recorder.RerunRecorder.{RerunRecorder}
use Rattle.mp_depend.proofs.lemmas.recording.FirstLemmas.{AreFirst, first_none, first_skipped, first_opened, first_end, first_work_spans, first_open, IsListedTo, listed_one, listed_none_here, listed_all}
use Rattle.mp_depend.proofs.recording.rerun_recorder.RerunRecorder.open_first.Goals as goal
use Rattle.mp_depend.proofs.recording.rerun_recorder.RerunRecorder.open_first.Goals.{then-is_touched+in_ok-open, else-is_touched}

pub loop-m-init : goal.loop-m-init
loop-m-init c = record {
  overlays = refl;
  first = subst (AreFirst c.args.new.now c.window_end-first_end.result c.horizon-horizon.result 0 (is_marked c.args.touched.now) c.args.self.now.places.items) (sym c.requires.none)
      (first_none c.args.new.now c.window_end-first_end.result c.horizon-horizon.result (is_marked c.args.touched.now) c.args.self.now.places.items c.requires.places c.requires.unopened);
  listed = λ m low. absurd (let no : ⊥ = omega (arith, low) in no);
}

pub open-requires : goal.open-requires
open-requires c =
    let at = c.is_touched.ensures.0 c.if-is_touched.true in
    let within = some_within c.args.new.now.modules c.loop-m.m at.0 in
    let size = c.loop-m.invariant.first.size in
    omega (arith, within, size)

pub loop-m-preserved : goal.loop-m-preserved
loop-m-preserved c =
    let new = c.args.new.now in
    let live = is_marked c.args.touched.now in
    let end = c.window_end-first_end.result in
    let horizon = c.horizon-horizon.result in
    let m = c.loop-m.m in
    let now : RerunRecorder = c.loop-m.self in
    let inv = c.loop-m.invariant in
    elim c.if-is_touched.branch [
      | then-is_touched+in_ok-open w ↦
          let after : RerunRecorder = w.open.new.self in
          let is : c.if-is_touched.self ≡ after = cc (w.self-is) in
          let done = w.in_ok-open.ensures in
          let at = w.if-is_touched.ensures.0 refl in
          let work_span : WorkSpan = record { «module» = record { 0 = m }; from = 0; first_end = end; last_end = horizon } in
          record {
            overlays = ap (λ (h : RerunRecorder). h.overlays) is ∙ done.overlays ∙ inv.overlays;
            first = subst (λ (h : RerunRecorder). AreFirst new end horizon (m + 1) live h.places.items h.work_spans.items) (sym is)
                (subst (λ xs. AreFirst new end horizon (m + 1) live xs after.work_spans.items) (sym done.places)
                (subst (AreFirst new end horizon (m + 1) live (slice_set now.places.items m (Some (length now.work_spans.items)))) (sym done.work_spans)
                (first_opened new end horizon m live now.places.items now.work_spans.items work_span inv.first refl at.0 at.1 refl refl refl)));
            listed = subst (λ (h : RerunRecorder). IsListedTo new (m + 1) live h.live.items) (sym is)
                (subst (IsListedTo new (m + 1) live) (sym done.live) (listed_one new m live now.live.items (record { 0 = m }) refl inv.listed));
          }
      | else-is_touched w ↦
          let is : c.if-is_touched.self ≡ now = cc (w.self-is) in
          let none : IsSome (module_at new m) → live m ≡ true → ⊥ = λ stands on. let no : IsTrue false = w.if-is_touched.ensures.1 (stands, on) in let n : ⊥ = cc in n in
          record {
            overlays = ap (λ (h : RerunRecorder). h.overlays) is ∙ inv.overlays;
            first = subst (λ (h : RerunRecorder). AreFirst new end horizon (m + 1) live h.places.items h.work_spans.items) (sym is)
                (first_skipped new end horizon m live now.places.items now.work_spans.items none inv.first);
            listed = subst (λ (h : RerunRecorder). IsListedTo new (m + 1) live h.live.items) (sym is) (listed_none_here new m live now.live.items none inv.listed);
          }
    ]

pub returns-clause-worked : goal.returns-clause-worked
returns-clause-worked c = λ old.
    let new = c.args.new.now in
    let end = c.window_end-first_end.result in
    let horizon = c.horizon-horizon.result in
    let count = c.module_slots-m-end.ensures.value in
    let all : length new.modules ≤ c.loop-m.m = omega (arith, count) in
    let long = c.horizon-horizon.ensures.value in
    let short : end ≡ window_end new 0 = first_end new c.least_delay.result horizon end c.window_end-first_end.ensures c.least_delay.ensures long in
    first_work_spans new c.requires.form end horizon c.loop-m.m (is_marked c.args.touched.now) c.loop-m.self.places.items c.loop-m.self.work_spans.items c.loop-m.invariant.first all short long old

pub returns-clause-opened : goal.returns-clause-opened
returns-clause-opened c =
    let new = c.args.new.now in
    let end = c.window_end-first_end.result in
    let horizon = c.horizon-horizon.result in
    let count = c.module_slots-m-end.ensures.value in
    let all : length new.modules ≤ c.loop-m.m = omega (arith, count) in
    let long = c.horizon-horizon.ensures.value in
    let short : end ≡ window_end new 0 = first_end new c.least_delay.result horizon end c.window_end-first_end.ensures c.least_delay.ensures long in
    first_open new c.requires.form end horizon c.loop-m.m (is_marked c.args.touched.now) c.loop-m.self.places.items c.loop-m.self.work_spans.items c.loop-m.invariant.first all short long

pub returns-clause-listed : goal.returns-clause-listed
returns-clause-listed c =
    let count = c.module_slots-m-end.ensures.value in
    listed_all c.args.new.now c.loop-m.m (is_marked c.args.touched.now) c.loop-m.self.live.items (omega (arith, count)) c.loop-m.invariant.listed
