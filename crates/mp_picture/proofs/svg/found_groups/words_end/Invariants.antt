use Rattle.std.proofs.Common.{◌≡◌, ◌<◌, ◌^◌, take}
use Rattle.mp_picture.specs.svg.FoundGroups.{words_end}
use Rattle.mp_picture.proofs.svg.found_groups.words_end.Given as goal

-- the end of the words so far
abbrev pub invariant-loop-row : goal.invariant-loop-row
invariant-loop-row l = record {
  value : l.end ≡ words_end l.frame (take l.row-index l.rows);
  low : l.end < 2 ^ 63;
}
