use Rattle.std.proofs.Common.{◌≡◌, flat_map, take}
use Rattle.mp_questions.proofs.late.bundles.joined.Given as goal

-- those of the lists so far
abbrev pub invariant-loop-list : goal.invariant-loop-list
invariant-loop-list l = l.all.items ≡ flat_map (λ list. list.items) (take l.list-index l.lists)
