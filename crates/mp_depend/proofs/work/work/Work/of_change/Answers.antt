use Rattle.std.proofs.Common.{◌∙◌, [], arith, rules, ap, sym, subst}
use Rattle.std.proofs.lemmas.List.Sorted.{answers_always}
use Rattle.mp_netlist.specs.Delays.{least_delay}
use Rattle.mp_netlist.proofs.DelayLemmas.{delays_are_least}
use Rattle.mp_depend.specs.work.Merges.{entries_left}
use Rattle.mp_depend.specs.work.Work.{IsWork}
use Rattle.mp_depend.proofs.lemmas.work.SortLemmas.{key_of, sorted_each, sorted_work}
use Rattle.mp_depend.proofs.work.work.Work.of_change.Goals as goal

pub of-requires-clause-least : goal.of-requires-clause-least
of-requires-clause-least c =
    let positive = (delays_are_least c.args.new.now c.horizon.ensures.form).positive in
    let same = c.least_delay.ensures in
    omega (arith, positive, same)

pub of-requires-clause-work_spans : goal.of-requires-clause-work_spans
of-requires-clause-work_spans c =
    rw c.horizon.ensures.value
    (sorted_each c.args.old.now c.args.new.now c.horizon.ensures.form c.args.work_spans.items c.sort_unstable_by_key.new.self.items c.requires c.sort_unstable_by_key.ensures.permutation)

pub returns : goal.returns
returns c =
    let sorted = c.sort_unstable_by_key.new.self.items in
    let order = c.sort_unstable_by_key.ensures.sorted key_of (answers_always _ _ _ (λ f a r g called. search rules)) in
    let work = sorted_work c.args.old.now c.args.new.now c.horizon.ensures.form c.args.work_spans.items sorted c.requires c.sort_unstable_by_key.ensures.permutation order in
    let e = c.of.ensures ∙ ap (λ least. entries_left least c.horizon.result [] sorted) c.least_delay.ensures ∙ ap (λ horizon. entries_left (least_delay c.args.new.now) horizon [] sorted) c.horizon.ensures.value in
    subst (IsWork c.args.old.now c.args.new.now) (sym e) work
