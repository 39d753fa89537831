use Rattle.std.proofs.Common.{drop}
use Rattle.mp_picture.proofs.RowLemmas.{wide_first, wide_step, wide_over, stops_at, joined}
use Rattle.mp_picture.proofs.row.push_wide.Goals as goal

pub loop-cell-init : goal.loop-cell-init
loop-cell-init c =
    let item = c.in-Some.ensures.item in
    let cells = c.args.cells.now in
    let k = c.still_count-room.result in
    record {
      whole = joined c.args.layout c.push_run.new.row.items c.args.row.now.items _ c.split_at.result.1.now (drop k cells) _ c.in_ok-push_run.ensures c.split_at.ensures.back
          (wide_first c.args.layout cells c.in-Some.first.now k item.3.0 item.1 c.still_count-room.ensures.value);
      stopped = stops_at cells c.split_at.result.1.now k c.split_at.ensures.back c.still_count-room.ensures.value;
    }

pub loop-cell-preserved : goal.loop-cell-preserved
loop-cell-preserved c =
    let cell = c.in-Some-split_first.cell.now in
    let later = c.in-Some-split_first.later.now in
    let k = c.still_count-room-in-Some-split_first.result in
    let rest = c.split_at-in-Some-split_first.result.1.now in
    record {
      whole = wide_step c.args.layout c.loop-cell.row.items c.extend_from_slice.new.self.items c.push_run-in-Some-split_first.new.row.items c.text.result.now _ c.loop-cell.rest.now cell later rest k
          c.in_ok-extend_from_slice.ensures.items c.text.ensures c.in_ok-push_run-2.ensures c.in-Some-split_first.ensures.cases.0 c.split_at-in-Some-split_first.ensures.back
          c.still_count-room-in-Some-split_first.ensures.value c.loop-cell.invariant.stopped c.loop-cell.invariant.whole;
      stopped = stops_at later rest k c.split_at-in-Some-split_first.ensures.back c.still_count-room-in-Some-split_first.ensures.value;
    }

pub returns : goal.returns
returns c = wide_over c.args.layout c.loop-cell.row.items _ c.loop-cell.rest.now c.in_default-split_first.ensures.cases c.loop-cell.invariant.whole
