use Rattle.std.proofs.Common.{◌++◌, Option, map, take, drop, option_map, slice_index_or, slice_set, ap, ◌∙◌, length, ◌<◌}
use Rattle.mp_model.specs.Tracks.{Progress, advanced}
use Rattle.mp_model.proofs.SlotLemmas.{index-mapped, set-mapped}
use Rattle.mp_model.proofs.evaluation.advance_all.Goals as goal

pub loop-slot-preserved : goal.loop-slot-preserved
loop-slot-preserved c =
    let xs = c.args.tracks.now.items in
    let i = c.loop-slot.slot-index in
    let old = c.slot-item.result in
    let f : Option Progress → Option Progress = option_map (advanced c.args.time) in
    let within : i < length xs = rw (← c.deref_mut-slot-items.ensures.value) c.loop-slot-test.true in
    ap (λ l. slice_set l i c.advance.new.slot) c.loop-slot.invariant
    ∙ ap (slice_set (map f (take i xs) ++ drop i xs) i) (c.advance.ensures ∙ ap (λ l. f (slice_index_or l i old)) c.loop-slot.invariant ∙ ap f (index-mapped f xs i old))
    ∙ set-mapped f xs i old within
