use Rattle.std.proofs.Common.{◌≡◌, ◌++◌, take}
use Rattle.std.specs.List.{flat_map}
use Rattle.mp_modules.specs.Findings.{by_number}
use Rattle.mp_picture.specs.svg.MarkNumbers.{number_of}
use Rattle.mp_picture.specs.svg.MarkRows.{row_if}
use Rattle.mp_picture.proofs.svg.mark_rows.push_rows.Given as goal

-- the rows of the codes so far
abbrev pub invariant-loop-code : goal.invariant-loop-code
invariant-loop-code l = l.rows.items ≡ l.fn.rows.items ++ flat_map (λ code. row_if l.place code (number_of l.lasts l.place code)) (take l.code-index by_number)
