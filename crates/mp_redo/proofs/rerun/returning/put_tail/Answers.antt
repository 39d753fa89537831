use Rattle.std.proofs.Common.{◌≡◌, ◌+◌, ◌<◌, ◌≤◌, false, List, drop, length, slice_index_or, subst, arith}
use Rattle.std.proofs.lemmas.List.{drop_more, drop_all}
use Rattle.mp_simulation.specs.declared.run.stimuli.StimulusChange.{StimulusChange}
use Rattle.mp_active.specs.steps.Putting.{entries_of, room}
use Rattle.mp_redo.specs.rerun.Returning.{IsTailIn, tail_of}
use Rattle.mp_redo.proofs.lemmas.rerun.TailLemmas.{all_behind}
use Rattle.mp_redo.proofs.lemmas.rerun.PutLemmas.{ArePutUpTo, none_up_to, one_up_to, all_up_to, room_kept}
use Rattle.mp_redo.proofs.rerun.returning.put_tail.Goals as goal

pub loop-place-init : goal.loop-place-init
loop-place-init c = none_up_to c.args.wire.has_data c.args.wire.number c.args.now (drop c.args.from c.args.list.now) c.args.others.now.items c.args.simulation.now

pub put_or_keep-requires : goal.put_or_keep-requires
put_or_keep-requires c =
    let list = c.args.list.now in
    let w = c.args.wire.number in
    let wide = c.args.wire.has_data in
    let until = c.requires.0 in
    let s = c.args.simulation.now in
    let none : StimulusChange = record { time = 0; wire = 0; has_data = false; level = 0 } in
    let low : c.loop-place.place < length list = omega arith in
    let before : c.args.from ≤ c.loop-place.place = omega arith in
    let so = c.loop-place.invariant in (
      until,
      λ here.
          let is = all_behind (λ (x : StimulusChange). x.wire ≡ w → IsTailIn c.args.now until (room wide s) wide x) list c.args.from c.loop-place.place none c.requires.1 before low here in
          let same = room_kept wide wide (entries_of w c.args.now (tail_of w so.done)) s c.loop-place.simulation so.put in
          record { later = is.later; before = is.before; within = let fits = is.within in omega (arith, fits, same); sort = is.sort },
    )

pub loop-place-preserved : goal.loop-place-preserved
loop-place-preserved c =
    let list = c.args.list.now in
    let w = c.args.wire.number in
    let wide = c.args.wire.has_data in
    let t = c.args.now in
    let l = c.loop-place in
    let none : StimulusChange = record { time = 0; wire = 0; has_data = false; level = 0 } in
    let low : l.place < length list = omega arith in
    let all = drop c.args.from list in
    let were = c.args.others.now.items in
    let s = c.args.simulation.now in
    let here = slice_index_or list l.place none in
    one_up_to wide w t all (drop (l.place + 1) list) were here s l.simulation c.put_or_keep.new.simulation l.others.items c.put_or_keep.new.others.items
    (subst (λ (xs : List StimulusChange). ArePutUpTo wide w t all xs were s l.simulation l.others.items) (drop_more list l.place none low) l.invariant)
    c.in_ok-put_or_keep.ensures.put c.in_ok-put_or_keep.ensures.others

pub returns-clause-put : goal.returns-clause-put
returns-clause-put c =
    let list = c.args.list.now in
    let w = c.args.wire.number in
    let l = c.loop-place in
    let past : length list ≤ l.place = omega arith in
    (all_up_to c.args.wire.has_data w c.args.now (drop c.args.from list) c.args.others.now.items c.args.simulation.now l.simulation l.others.items
    (subst (λ (xs : List StimulusChange). ArePutUpTo c.args.wire.has_data w c.args.now (drop c.args.from list) xs c.args.others.now.items c.args.simulation.now l.simulation l.others.items) (drop_all l.place list past) l.invariant)).0

pub returns-clause-others : goal.returns-clause-others
returns-clause-others c =
    let list = c.args.list.now in
    let w = c.args.wire.number in
    let l = c.loop-place in
    let past : length list ≤ l.place = omega arith in
    (all_up_to c.args.wire.has_data w c.args.now (drop c.args.from list) c.args.others.now.items c.args.simulation.now l.simulation l.others.items
    (subst (λ (xs : List StimulusChange). ArePutUpTo c.args.wire.has_data w c.args.now (drop c.args.from list) xs c.args.others.now.items c.args.simulation.now l.simulation l.others.items) (drop_all l.place list past) l.invariant)).1
