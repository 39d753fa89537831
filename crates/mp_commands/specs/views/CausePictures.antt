-- The pictures with the causes of a level.
use Rattle.std.specs.Prelude.{ℕ, List, [], drop, map, slice_get, Option, Some, None, min}
use Rattle.mp_netlist.specs.Circuit.{Circuit, wire_named}
use Rattle.mp_questions.specs.declared.causes.cause_link.CauseLink.{CauseLink}
use Rattle.mp_questions.specs.declared.causes.wire_change.WireChange.{WireChange}
use Rattle.mp_questions.specs.causes.Links.{links}
use Rattle.mp_picture.specs.declared.numerals.Numerals.{Numerals}
use Rattle.mp_picture.specs.declared.svg.arrow.Arrow.{Arrow}
use Rattle.mp_picture.specs.declared.svg.arrow.WirePoint.{WirePoint}
use Rattle.mp_picture.specs.ColumnRanges.{columns_in}
use Rattle.mp_picture.specs.svg.Svg.{most_columns, svg}
use Rattle.mp_commands.specs.views.AskedWires.{wire_id, wires_of}
use Rattle.mp_commands.specs.views.Chains.{at}

abbrev pub point_of : WireChange → WirePoint
point_of change = record { wire = change.wire; time = change.time }

-- from a cause to its effect
abbrev pub arrow_of : CauseLink → Arrow
arrow_of link = record { from = point_of link.cause; to = point_of link.effect }

-- those of the chain of causes of a wire's level at a time, if it stands
abbrev pub wire_arrows : Circuit → ℕ → Option ℕ → List Arrow
wire_arrows n time None = []
wire_arrows n time (Some w) = map arrow_of (links n (at time (wire_id w)))

abbrev pub named_arrows : Circuit → ℕ → Option (List ℕ) → List Arrow
named_arrows n time None = []
named_arrows n time (Some name) = wire_arrows n time (wire_named n name)

-- those of the first of some names
abbrev pub arrows_of : Circuit → ℕ → List (List ℕ) → List Arrow
arrows_of n time names = named_arrows n time (slice_get names 0)

-- the SVG of a picture with the causes of the level that the wire of the first name has at a time: the other wires are shown, or all
abbrev pub cause_picture : Circuit → List (List ℕ) → ℕ → ℕ → ℕ → ℕ → List ℕ → Numerals → List ℕ
cause_picture n names time from to asked title numerals =
    svg n (columns_in n.horizon from to (min asked most_columns)) numerals (wires_of n (drop 1 names)) title (arrows_of n time names)
