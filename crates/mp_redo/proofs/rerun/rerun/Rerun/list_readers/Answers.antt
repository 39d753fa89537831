use Rattle.std.proofs.Common.{◌≡◌, ℕ, ◌+◌, ◌<◌, ◌++◌, Bool, List, [], take, length, get_or, All, refl, sym, ap, subst, ◌∙◌, arith}
use Rattle.std.proofs.lemmas.List.{take_all}
use Rattle.mp_records.specs.declared.ids.ModuleId.{ModuleId}
use Rattle.mp_kernel.specs.declared.events.fanout_entry.FanoutEntry.{FanoutEntry}
use Rattle.mp_kernel.specs.events.Adding.{listed}
use Rattle.mp_kernel.specs.events.Toggling.{row_at, entries_from}
use Rattle.mp_simulation.proofs.lemmas.bits.ListedLemmas.{listed_here}
use Rattle.mp_partition.specs.runs.Marks.{is_marked}
use Rattle.mp_redo.specs.declared.rerun.rerun.Rerun.{Rerun}
use Rattle.mp_depend.specs.Hearing.{AreHearing}
use Rattle.mp_redo.specs.rerun.Reruns.{active_of}
use Rattle.mp_depend.proofs.HearingLemmas.{hearing_none}
use Rattle.mp_redo.proofs.lemmas.rerun.HearingLemmas.{entries_more, same_hearing}
use Rattle.mp_redo.proofs.lemmas.rerun.LookingLemmas.{joining_looked, joining_kept}
use Rattle.mp_redo.proofs.lemmas.rerun.JoiningLemmas.{departing_within, row_within, row_eventful, all_join}
use Rattle.mp_redo.proofs.rerun.rerun.Rerun.list_readers.Goals as goal

pub loop-place-init : goal.loop-place-init
loop-place-init c = record {
  kept = refl;
  hearing = subst (λ (ids : List ModuleId). AreHearing (active_of c.args.self.now) [] ids) (sym c.clear.ensures.items) (hearing_none (active_of c.args.self.now));
  end = c.len-place-end.ensures ∙ c.args.self.now.comparison.departing.ok.0;
}

pub of-requires : goal.of-requires
of-requires c =
    let s = c.args.self.now in
    let items = s.comparison.departing.items in
    let place = c.loop-place.place in
    let number = c.index-number.result.now in
    let within = c.loop-place-test.true in
    let end = c.loop-place.invariant.end in
    let here : number ≡ get_or items place number = c.index-number.ensures ∙ ap (λ (r : Rerun). get_or r.comparison.departing.items place number) c.loop-place.invariant.kept in
    let some = subst (λ x. 0 < listed x items) (sym here) (listed_here items place number (omega (arith, within, end))) in
    subst (λ (r : Rerun). number < length r.simulation.bits.simulator.fanout) (sym c.loop-place.invariant.kept)
    (departing_within c.requires.0 c.requires.1 c.requires.2 c.requires.5.numbering c.requires.5.since c.requires.4 s c.requires.5.is c.requires.6 number some)

pub list_all_asleep-requires-clause-within : goal.list_all_asleep-requires-clause-within
list_all_asleep-requires-clause-within c =
    let number = c.index-number.result.now in
    let row = row_at c.loop-place.self.simulation.bits.simulator.fanout number in
    subst (λ (es : List FanoutEntry). All (λ (e : FanoutEntry). e.module < length c.as_slice.result.now) es) (sym c.of.ensures)
    (subst (λ (bs : List Bool). All (λ (e : FanoutEntry). e.module < length bs) row) (sym c.as_slice.ensures.value)
    (subst (λ (r : Rerun). All (λ (e : FanoutEntry). e.module < length r.activity.active.items) (row_at r.simulation.bits.simulator.fanout number)) (sym c.loop-place.invariant.kept)
    (row_within c.requires.0 c.requires.1 c.requires.2 c.requires.5.numbering c.requires.5.since c.requires.4 c.args.self.now c.requires.5.is c.requires.6 number)))

pub list_all_asleep-requires-clause-eventful : goal.list_all_asleep-requires-clause-eventful
list_all_asleep-requires-clause-eventful c =
    let number = c.index-number.result.now in
    subst (λ (es : List FanoutEntry). All (λ (e : FanoutEntry). 0 < e.event) es) (sym c.of.ensures)
    (subst (λ (r : Rerun). All (λ (e : FanoutEntry). 0 < e.event) (row_at r.simulation.bits.simulator.fanout number)) (sym c.loop-place.invariant.kept)
    (row_eventful c.requires.0 c.requires.1 c.requires.2 c.requires.5.numbering c.requires.5.since c.requires.4 c.args.self.now c.requires.5.is c.requires.6 number))

pub loop-place-preserved : goal.loop-place-preserved
loop-place-preserved c =
    let s = c.args.self.now in
    let items = s.comparison.departing.items in
    let rows = s.simulation.bits.simulator.fanout in
    let place = c.loop-place.place in
    let number = c.index-number.result.now in
    let kept = c.loop-place.invariant.kept in
    let within = c.loop-place-test.true in
    let end = c.loop-place.invariant.end in
    let joining = c.list_all_asleep.new.joining in
    let before = entries_from rows (take place items) in
    let here : number ≡ get_or items place number = c.index-number.ensures ∙ ap (λ (r : Rerun). get_or r.comparison.departing.items place number) kept in
    let row : c.of.result.now ≡ row_at rows (get_or items place number) = c.of.ensures ∙ ap (λ (r : Rerun). row_at r.simulation.bits.simulator.fanout number) kept ∙ ap (λ x. row_at rows x) here in
    let entries : entries_from rows (take (place + 1) items) ≡ before ++ c.of.result.now =
    entries_more rows items place number (omega (arith, within, end)) ∙ ap (λ (es : List FanoutEntry). before ++ es) (sym row) in
    let marks : c.as_slice.result.now ≡ s.activity.active.items = c.as_slice.ensures.value ∙ ap (λ (r : Rerun). r.activity.active.items) kept in
    let step = c.in_ok-list_all_asleep.ensures before
    (subst (λ (bs : List Bool). AreHearing (is_marked bs) before c.loop-place.self.activity.joining.items) (sym marks) c.loop-place.invariant.hearing) in
    record {
      kept = ap (λ (r : Rerun). record r { activity = record (r.activity) { joining = joining } }) kept;
      hearing = subst (λ (es : List FanoutEntry). AreHearing (active_of s) es joining.items) (sym entries)
          (subst (λ (bs : List Bool). AreHearing (is_marked bs) (before ++ c.of.result.now) joining.items) marks step);
      end = c.loop-place.invariant.end;
    }

pub returns-clause-looked : goal.returns-clause-looked
returns-clause-looked c =
    let ids = c.list_once.new.ids in
    let last : Rerun = record (c.loop-place.self) { activity = record (c.loop-place.self.activity) { joining = ids } } in
    joining_looked c.args.self.now last (ap (λ (r : Rerun). record r { activity = record (r.activity) { joining = ids } }) c.loop-place.invariant.kept)

pub returns-clause-kept : goal.returns-clause-kept
returns-clause-kept c =
    let ids = c.list_once.new.ids in
    let last : Rerun = record (c.loop-place.self) { activity = record (c.loop-place.self.activity) { joining = ids } } in
    joining_kept c.args.self.now last (ap (λ (r : Rerun). record r { activity = record (r.activity) { joining = ids } }) c.loop-place.invariant.kept)

pub returns-clause-joining : goal.returns-clause-joining
returns-clause-joining c old n run latest t old_ok ok revised at are =
    let end = c.loop-place.invariant.end in
    let over = c.loop-place-test.false in
    let s = c.args.self.now in
    let entries = entries_from s.simulation.bits.simulator.fanout s.comparison.departing.items in
    let joining = c.loop-place.self.activity.joining.items in
    let hearing : AreHearing (active_of s) entries joining =
    subst (λ (xs : List ℕ). AreHearing (active_of s) (entries_from s.simulation.bits.simulator.fanout xs) joining)
    (take_all c.loop-place.place s.comparison.departing.items (omega (arith, end, over))) c.loop-place.invariant.hearing in
    all_join old n run at.numbering at.since t s at.is are old_ok ok revised c.readers_agree.ensures.quiet c.list_once.new.ids.items
    (same_hearing (active_of s) entries joining c.list_once.new.ids.items c.list_once.ensures.same hearing) c.list_once.ensures.once
