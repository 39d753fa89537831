use Rattle.std.specs.Prelude.{◌≡◌, ◌++◌, replicate}
use Rattle.mp_request.proofs.faults.showing.push_times.Given as goal

-- so many bytes stand behind the text
abbrev pub invariant-loop-done : goal.invariant-loop-done
invariant-loop-done l = l.text.items ≡ l.fn.text.items ++ replicate l._done l.byte
