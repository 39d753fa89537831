-- The lines to a part of a netlist and from it.
use Rattle.std.specs.Prelude.{◌≡◌, ℕ, List, map, All, Option, Some}
use Rattle.crossbeam_channel.specs.Claims.{view}
use Rattle.mp_engine.specs.declared.messages.message.Subject.{Ghosts}
use Rattle.mp_engine.specs.declared.messages.message.Window.{Window}
use Rattle.mp_engine.specs.declared.messages.message.Heading.{Heading}
use Rattle.mp_engine.specs.declared.messages.line.LineFrom.{LineFrom}
use Rattle.mp_engine.specs.declared.messages.line.LineTo.{LineTo}
use Rattle.mp_engine.specs.messages.LineRules.{heading_of}

module _ {J : Type 0} {subject : Ghosts J} where
  -- the parts from which lines come
  abbrev pub parts_of : List (LineFrom J subject) → List ℕ
  parts_of lines = map (λ line. line.by) lines

  -- the parts to which lines go
  abbrev pub readers_of : List (LineTo J subject) → List ℕ
  readers_of lines = map (λ line. line.to) lines

  -- the heading of the message that was sent last
  abbrev pub sent_on : LineTo J subject → Option Heading
  sent_on line = heading_of (view line.pass)

  -- what a part tells of a window was sent last on each of these lines
  abbrev pub AreSent : ℕ → Window → List (LineTo J subject) → Type 0
  AreSent part window lines = All (λ line. sent_on line ≡ Some (record { by = part; to = line.to; window = window })) lines
