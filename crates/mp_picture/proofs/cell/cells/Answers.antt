use Rattle.std.proofs.Common.{◌≡◌, ◌<◌, map, sym, ap, subst, ◌∙◌, arith}
use Rattle.std.specs.List.{range_with_len}
use Rattle.mp_wave.specs.Waveform.{level_of}
use Rattle.mp_wave.specs.WaveChanges.{changes_in}
use Rattle.mp_picture.specs.declared.cell.ColumnCell.{ColumnCell}
use Rattle.mp_picture.specs.Columns.{count}
use Rattle.mp_picture.specs.Cells.{cells, cell_at}
use Rattle.mp_picture.proofs.CellLemmas.{IsRest, rest_first, step, cells_more}
use Rattle.mp_picture.proofs.cell.cells.Goals as goal

pub loop-column-init : goal.loop-column-init
loop-column-init c =
    let w = c.args.wave.now in
    let cs = c.args.columns in
    record {
      within = omega arith;
      done = c.in_ok-list.ensures.items;
      left =
          subst (λ v. IsRest (level_of w) cs 0 v (changes_in c.changes_between-rest.result)) (sym c.level_at-level.ensures.value)
          (subst (λ r. IsRest (level_of w) cs 0 (level_of w cs.from) r) (sym c.changes_between-rest.ensures.value)
          (rest_first w cs c.level_at-level.ensures.form cs.some));
    }

pub loop-column-preserved : goal.loop-column-preserved
loop-column-preserved c =
    let f = level_of c.args.wave.now in
    let cs = c.args.columns in
    let j = c.loop-column.column in
    let below : j < count cs = omega arith in
    let next =
    step f cs j c.loop-column.level (changes_in c.loop-column.rest) cs.some cs.wide below c.loop-column.invariant.left c.end.result c.count_before-count.result c.last_level-level.result
    (changes_in c.before_place.result) (changes_in c.from_place-rest.result) c.events_of.result c.end.ensures.value c.count_before-count.ensures.value c.before_place.ensures c.from_place-rest.ensures c.last_level-level.ensures c.events_of.ensures in
    let x : ColumnCell = record { events = c.events_of.result; level = c.last_level-level.result } in
    record {
      within = omega arith;
      done = cells_more f cs j c.loop-column.list.items c.push.new.self.items x c.in_ok-push.ensures.items c.loop-column.invariant.done next.cell;
      left = next.left;
    }

pub returns : goal.returns
unfolding cells
returns c =
    let whole : c.loop-column.column ≡ count c.args.columns = omega (arith, c.loop-column.invariant.within, c.loop-column-test.false, c.count-column-end.ensures.value) in
    c.loop-column.invariant.done ∙ ap (λ n. map (cell_at (level_of c.args.wave.now) c.args.columns) (range_with_len 0 n)) whole
