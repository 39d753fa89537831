use Rattle.std.proofs.Common.{◌≡◌, ◌++◌, ◌∷◌, []}
use Rattle.std.specs.List.{flat_map, range_with_len, repeat}
use Rattle.mp_picture.specs.Rows.{padded, tick, tick_step}
use Rattle.mp_picture.proofs.ruler.push_ruler.Given as goal

-- the blanks and the times so far
abbrev pub invariant-loop-number : goal.invariant-loop-number
invariant-loop-number l =
    l.row.items ≡ l.fn.row.items ++ (repeat l.fn.layout.margin (32 ∷ []) ++ flat_map (λ i. padded (tick_step l.fn.layout.columns) (tick l.fn.layout.columns i)) (range_with_len 0 l.number))
