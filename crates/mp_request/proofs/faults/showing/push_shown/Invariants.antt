use Rattle.std.specs.Prelude.{◌≡◌, ◌++◌, map, take}
use Rattle.mp_request.specs.faults.FaultTexts.{shown_byte}
use Rattle.mp_request.proofs.faults.showing.push_shown.Given as goal

-- the bytes so far stand behind the text
abbrev pub invariant-loop-byte : goal.invariant-loop-byte
invariant-loop-byte l = l.text.items ≡ l.fn.text.items ++ map shown_byte (take l.byte-index l.bytes)
