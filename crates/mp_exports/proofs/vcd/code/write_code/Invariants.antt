use Rattle.mp_exports.proofs.lemmas.vcd.Names.{◌≡◌, ◌+◌, ◌<◌, ◌++◌, ℕ, List, IsPlaced, code}
use Rattle.mp_exports.proofs.vcd.code.write_code.Given as goal

-- the rest's code completes the wire's, which has five digits at most
abbrev pub invariant-loop-rest : goal.invariant-loop-rest
invariant-loop-rest l = (digits : List ℕ) × IsPlaced l.fn.room l.room l.at digits l.end × (digits ++ code l.rest ≡ code l.wire) × (l.end < l.at + 5)

abbrev pub decreases-loop-rest : goal.decreases-loop-rest
decreases-loop-rest l = l.rest
