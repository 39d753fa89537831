-- How what somebody writes at a seat ends.
use Rattle.std.specs.Prelude.{◌≡◌, ◌⊎◌, ◌<◌, true}
use Rattle.mp_text.specs.lines.Incoming.{Incoming}

-- the source told its end, or failed
abbrev pub HasEnded : Incoming → Type 0
HasEnded lines = (lines.ended ≡ true) ⊎ (0 < lines.faults)
