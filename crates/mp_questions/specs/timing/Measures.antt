-- The events, gaps and margins of a netlist over a range of times, as text.
use Rattle.std.specs.Prelude.{ℕ, ◌-◌, List, [], ◌∷◌, ◌++◌, length, bytes_eq, codes, Option, Some, None, option_map}
use Rattle.std.specs.List.{flat_map, filter_map, range_with_len}
use Rattle.std.specs.Fmt.{decimal}
use Rattle.mp_records.specs.declared.wire_record.WireRecord.{WireRecord}
use Rattle.mp_records.specs.declared.bundle_record.BundleRecord.{BundleRecord}
use Rattle.mp_netlist.specs.Circuit.{Circuit, wire_at, wire_named, bundle_at}
use Rattle.mp_model.specs.Waves.{level}
use Rattle.mp_questions.specs.declared.timing.extremes.Extremes.{Extremes}
use Rattle.mp_questions.specs.timing.Ranges.{read_time, read_end}
use Rattle.mp_questions.specs.timing.Events.{event_times, last_event, first_event}
use Rattle.mp_questions.specs.timing.Extremes.{extremes}
use Rattle.mp_questions.specs.declared.late.late.Late.{Late}
use Rattle.mp_questions.specs.late.Searching.{late_over}
use Rattle.mp_questions.specs.late.Lists.{units_within}
use Rattle.mp_questions.specs.Once.{firsts}

-- ---- what is measured

-- from a time and from each later one to the next
abbrev pub gaps_from : ℕ → List ℕ → List ℕ
gaps_from t [] = []
gaps_from t (u ∷ later) = (u - t) ∷ gaps_from u later

-- from each time to the next
abbrev pub gaps : List ℕ → List ℕ
gaps [] = []
gaps (t ∷ later) = gaps_from t later

-- for how long the data of a request at a time stood, where they changed at all
abbrev pub stood_for : (ℕ → ℕ) → ℕ → Option ℕ
stood_for payload t = option_map (λ u. t - u) (last_event payload t)

-- how long after a request at a time the next acknowledge came below a horizon, where one did
abbrev pub answered_after : (ℕ → ℕ) → ℕ → ℕ → Option ℕ
answered_after acknowledge horizon t = option_map (λ u. u - t) (first_event acknowledge t (horizon - 1 - t))

-- the same of each of some requests
abbrev pub setups : (ℕ → ℕ) → List ℕ → Option Extremes
setups payload requests = extremes (filter_map (stood_for payload) requests)

abbrev pub responses : (ℕ → ℕ) → ℕ → List ℕ → Option Extremes
responses acknowledge horizon requests = extremes (filter_map (answered_after acknowledge horizon) requests)

-- by how much data of a bundle are late that change from one time on to before another, of all that is late at it
abbrev pub lateness : ℕ → ℕ → List Late → Option Extremes
lateness from to late = extremes (filter_map (units_within from to) late)

-- ---- how it is written

abbrev pub last_from : ℕ → List ℕ → ℕ
last_from t [] = t
last_from t (u ∷ later) = last_from u later

-- two numbers, each behind a space
abbrev pub two_numbers : ℕ → ℕ → List ℕ
two_numbers a b = codes " " ++ (decimal a ++ (codes " " ++ decimal b))

-- the first and the last time, where there is one
abbrev pub ends_text : List ℕ → List ℕ
ends_text [] = []
ends_text (t ∷ later) = two_numbers t (last_from t later)

-- the least and the greatest, behind a word, where there are any
abbrev pub extremes_text : List ℕ → Option Extremes → List ℕ
extremes_text word None = []
extremes_text word (Some e) = word ++ two_numbers e.least e.most

-- the least alone
abbrev pub least_text : List ℕ → Option Extremes → List ℕ
least_text word None = []
least_text word (Some e) = word ++ (codes " " ++ decimal e.least)

-- the greatest alone
abbrev pub most_text : List ℕ → Option Extremes → List ℕ
most_text word None = []
most_text word (Some e) = word ++ (codes " " ++ decimal e.most)

-- a kind of thing, its name and a count, and figures behind them
abbrev pub figures_line : List ℕ → List ℕ → ℕ → List ℕ → List ℕ
figures_line kind name count figures = kind ++ (name ++ (codes " " ++ (decimal count ++ (figures ++ codes "\n"))))

abbrev pub wire_figures : List ℕ → List ℕ
wire_figures times = ends_text times ++ extremes_text [] (extremes (gaps times))

-- the line of a wire with events at these times
abbrev pub wire_line : List ℕ → List ℕ → List ℕ
wire_line name times = figures_line (codes "wire ") name (length times) (wire_figures times)

abbrev pub bundle_figures : Circuit → BundleRecord → List ℕ → Option Extremes → List ℕ
bundle_figures n b requests late =
    least_text (codes " setup") (setups (level n b.payload.0) requests)
    ++ (extremes_text (codes " response") (responses (level n b.acknowledge.0) n.horizon requests) ++ most_text (codes " late") late)

-- the line of a bundle with requests at these times, where its data are so late
abbrev pub bundle_line : Circuit → BundleRecord → List ℕ → Option Extremes → List ℕ
bundle_line n b requests late = figures_line (codes "bundle ") b.name (length requests) (bundle_figures n b requests late)

-- ---- of a netlist

-- the line of what stands in a wire's slot, and of what stands in a bundle's, from one time on to before another
abbrev pub slot_line : Circuit → ℕ → ℕ → ℕ → Option WireRecord → List ℕ
slot_line n from to w None = []
slot_line n from to w (Some r) = wire_line r.name (event_times (level n w) from to)

abbrev pub bundle_slot_line : Circuit → ℕ → ℕ → ℕ → Option BundleRecord → List ℕ
bundle_slot_line n from to k None = []
bundle_slot_line n from to k (Some b) =
    bundle_line n b (event_times (level n b.request.0) from to) (lateness from to (late_over n (record { 0 = k })))

abbrev pub wire_measure : Circuit → ℕ → ℕ → ℕ → List ℕ
wire_measure n from to w = slot_line n from to w (wire_at n w)

abbrev pub bundle_measure : Circuit → ℕ → ℕ → ℕ → List ℕ
bundle_measure n from to b = bundle_slot_line n from to b (bundle_at n b)

-- a line for each wire and for each bundle by number
abbrev pub measured : Circuit → ℕ → ℕ → List ℕ
measured n from to =
    flat_map (wire_measure n from to) (range_with_len 0 (length n.wires))
    ++ flat_map (bundle_measure n from to) (range_with_len 0 (length n.bundles))

-- over the range that is asked for
unfoldable pub measure : Circuit → ℕ → ℕ → List ℕ
measure n from to = measured n (read_time n.horizon from) (read_end n.horizon to)

-- ---- of wires that are asked for by name

-- the line of the wire of a number, if there is one
abbrev pub found_measure : Circuit → ℕ → ℕ → Option ℕ → List ℕ
found_measure n from to None = []
found_measure n from to (Some w) = wire_measure n from to w

abbrev pub named_measure : Circuit → ℕ → ℕ → List ℕ → List ℕ
named_measure n from to name = found_measure n from to (wire_named n name)

-- the lines of the wires with these names, each once, in the order of the names
abbrev pub named_measures : Circuit → ℕ → ℕ → List (List ℕ) → List ℕ
named_measures n from to names = flat_map (named_measure n from to) (firsts bytes_eq names)

-- over the range that is asked for
unfoldable pub wire_measures : Circuit → ℕ → ℕ → List (List ℕ) → List ℕ
wire_measures n from to names = named_measures n (read_time n.horizon from) (read_end n.horizon to) names
