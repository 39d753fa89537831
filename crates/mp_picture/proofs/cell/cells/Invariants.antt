use Rattle.std.proofs.Common.{◌≡◌, ◌≤◌, map}
use Rattle.std.specs.List.{range_with_len}
use Rattle.mp_wave.specs.Waveform.{level_of}
use Rattle.mp_wave.specs.WaveChanges.{changes_in}
use Rattle.mp_picture.specs.Columns.{count}
use Rattle.mp_picture.specs.Cells.{cell_at}
use Rattle.mp_picture.proofs.CellLemmas.{IsRest}
use Rattle.mp_picture.proofs.cell.cells.Given as goal

-- the cells so far, and the changes that are left
abbrev pub invariant-loop-column : goal.invariant-loop-column
invariant-loop-column l = record {
  within : l.column ≤ count l.columns;
  done : l.list.items ≡ map (cell_at (level_of l.wave) l.columns) (range_with_len 0 l.column);
  left : IsRest (level_of l.wave) l.columns l.column l.level (changes_in l.rest);
}
