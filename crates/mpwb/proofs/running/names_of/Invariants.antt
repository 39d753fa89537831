use Rattle.std.proofs.Common.{◌≡◌, map, take}
use Rattle.mpwb.proofs.running.names_of.Given as goal

-- the words so far
abbrev pub invariant-loop-word : goal.invariant-loop-word
invariant-loop-word l = l.names.items ≡ map (λ word. word.now) (take l.word-index l.words)
