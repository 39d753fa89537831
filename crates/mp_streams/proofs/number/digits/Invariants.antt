use Rattle.std.proofs.Common.{◌≡◌, ◌<◌, ◌^◌, drop}
use Rattle.mp_streams.specs.Numbers.{number_from}
use Rattle.mp_streams.proofs.number.digits.Given as goal

-- the digits that are left go on from the value
abbrev pub invariant-loop-byte : goal.invariant-loop-byte
invariant-loop-byte l = (l.value < 2 ^ 64) × (number_from 0 l.word ≡ number_from l.value (drop l.byte-index l.word))
