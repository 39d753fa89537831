-- The rule of a line between two parts.
use Rattle.std.specs.Prelude.{◌≡◌, ◌⊎◌, List, [], ◌∷◌, Option, Some, None}
use Rattle.mp_engine.specs.declared.messages.message.Subject.{Ghosts}
use Rattle.mp_engine.specs.declared.messages.message.Heading.{Heading}
use Rattle.mp_engine.specs.declared.messages.message.Message.{Message}
use Rattle.mp_engine.specs.declared.messages.line_rule.Known.{Known}
use Rattle.mp_engine.specs.declared.messages.line_rule.Known.TheVariants.{Whole, Sends, Takes}

-- the heading of which a pass knows
abbrev pub heading_of : Known → Option Heading
heading_of Whole = None
heading_of (Sends last) = last
heading_of (Takes last) = last

module _ {J : Type 0} {subject : Ghosts J} where
  -- the heading that came last: of the last message in the line, or of the one that was taken last
  abbrev pub last_heading : Option Heading → List (Message J subject) → Option Heading
  last_heading taken [] = taken
  last_heading taken (message ∷ messages) = last_heading (Some message.heading) messages

  -- nothing is in a line that isn't cut; what the sender of a line knows as sent came last
  abbrev pub Keeps : List (Message J subject) → List Known → Type 0
  Keeps messages views = ((views ≡ Whole ∷ []) × (messages ≡ [])) ⊎ ((taken : Option Heading) × (views ≡ Sends (last_heading taken messages) ∷ Takes taken ∷ []))
