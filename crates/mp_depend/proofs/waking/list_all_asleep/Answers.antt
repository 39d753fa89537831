use Rattle.std.proofs.Common.{◌<◌, ◌++◌, List, length, subst, sym}
use Rattle.std.proofs.lemmas.List.{take_all, append-nil}
use Rattle.std.proofs.lemmas.List.Elements.{All-get_or}
use Rattle.mp_kernel.specs.declared.events.fanout_entry.FanoutEntry.{FanoutEntry}
use Rattle.mp_partition.specs.runs.Marks.{is_marked}
use Rattle.mp_depend.specs.Hearing.{AreHearing}
use Rattle.mp_depend.proofs.HearingLemmas.{hearing_next}
use Rattle.mp_depend.proofs.waking.list_all_asleep.Goals as goal

pub list_asleep-requires-clause-within : goal.list_asleep-requires-clause-within
list_asleep-requires-clause-within c =
    All-get_or (λ (e : FanoutEntry). e.module < length c.args.active.now) c.args.entries.now c.loop-entry.entry-index (record { «module» = 0; event = 0 }) c.loop-entry-test.true c.requires.within

pub list_asleep-requires-clause-some : goal.list_asleep-requires-clause-some
list_asleep-requires-clause-some c =
    All-get_or (λ (e : FanoutEntry). 0 < e.event) c.args.entries.now c.loop-entry.entry-index (record { «module» = 0; event = 0 }) c.loop-entry-test.true c.requires.eventful

pub loop-entry-init : goal.loop-entry-init
loop-entry-init c before are =
    subst (λ (es : List FanoutEntry). AreHearing (is_marked c.args.active.now) es c.args.joining.now.items) (sym (append-nil before)) are

pub loop-entry-preserved : goal.loop-entry-preserved
loop-entry-preserved c before are =
    hearing_next (is_marked c.args.active.now) before c.args.entries.now c.loop-entry.entry-index (record { «module» = 0; event = 0 }) c.loop-entry.joining.items c.list_asleep.new.joining.items
    c.loop-entry-test.true (c.loop-entry.invariant before are) c.in_ok-list_asleep.ensures

pub returns : goal.returns
returns c before are =
    subst (λ (es : List FanoutEntry). AreHearing (is_marked c.args.active.now) (before ++ es) c.loop-entry.joining.items)
    (take_all c.loop-entry.entry-index c.args.entries.now c.loop-entry-test.false) (c.loop-entry.invariant before are)
