use Rattle.std.specs.Prelude.{◌≡◌, map, drop}
use Rattle.mp_request.specs.faults.Nearest.{nearest, nearest_behind}
use Rattle.mp_request.proofs.faults.nearest.near_word.Given as goal

-- the nearest so far, with the words that are left
abbrev pub invariant-loop-name : goal.invariant-loop-name
invariant-loop-name l = nearest_behind l.word l.best (map (λ name. name.now) (drop l.name-index l.words)) ≡ nearest l.word (map (λ name. name.now) l.words)
