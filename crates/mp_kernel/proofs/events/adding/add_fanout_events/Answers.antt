use Rattle.std.proofs.Common.{◌<◌, length, ◌∙◌, sym, subst, arith, List}
use Rattle.mp_kernel.specs.declared.events.fanout_entry.FanoutEntry.{FanoutEntry}
use Rattle.mp_kernel.specs.events.Adding.{IsAdding, AreAdded}
use Rattle.mp_kernel.proofs.lemmas.events.TogglingLemmas.{next_added, rest_added, all_added}
use Rattle.mp_kernel.proofs.events.adding.add_fanout_events.Goals as goal

pub add_events-requires : goal.add_events-requires
add_events-requires c =
    let most = c.batch_end-to.ensures.within in
    let here = c.loop-place-test.true in
    let within : c.loop-place.place < length c.args.wires.now = omega arith in
    subst (λ (row : List FanoutEntry). IsAdding c.loop-place.states.items c.loop-place.due.items row) (sym c.of.ensures)
    (next_added c.args.rows.now c.args.wires.now c.loop-place.place c.loop-place.states.items c.loop-place.due.items within c.loop-place.invariant.adding)

pub loop-place-preserved : goal.loop-place-preserved
loop-place-preserved c =
    let rows = c.args.rows.now in
    let ws = c.args.wires.now in
    let i = c.loop-place.place in
    let most = c.batch_end-to.ensures.within in
    let here = c.loop-place-test.true in
    let within : i < length ws = omega arith in
    let v = c.loop-place.invariant in
    let e = c.in_ok-add_events.ensures in
    let states = c.loop-place.states.items in
    let new = c.add_events.new.states.items in
    let added = subst (λ (row : List FanoutEntry). AreAdded states new row) c.of.ensures e.added in
    record {
      added = all_added rows ws i c.args.states.now.items states new within v.added added;
      adding = rest_added rows ws i states new c.loop-place.due.items c.add_events.new.due.items within v.adding added e.adding e.places;
      places = e.places ∙ v.places;
    }
