use Rattle.std.specs.Prelude.{◌≡◌, ◌+◌, drop, not, is_ok}
use Rattle.std.specs.List.{position_or_len}
use Rattle.mp_text.specs.Names.{texts}
use Rattle.mp_request.specs.faults.WordPlaces.{first_unread}
use Rattle.mp_request.proofs.faults.word_places.first_unread.Given as goal

-- the first is among those that are left
abbrev pub invariant-loop-place : goal.invariant-loop-place
invariant-loop-place g l =
    l.place + position_or_len (λ word. not (is_ok (g.W.Worded.read word.now))) (drop l.place l.words) ≡ first_unread g.W.Worded.read (texts l.words)
