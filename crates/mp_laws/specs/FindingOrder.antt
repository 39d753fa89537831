-- The order of findings. With the rules that tell them it fixes their list.
use Rattle.std.specs.Prelude.{◌≡◌, ◌↔◌, ◌⊎◌, ◌<◌, ◌≤◌, List}
use Rattle.std.specs.List.{Contains, AllPairs}
use Rattle.mp_modules.specs.Findings.{code_number}
use Rattle.mp_netlist.specs.Circuit.{Circuit}
use Rattle.mp_model.specs.Findings.{findings}
use Rattle.mp_model.specs.FindingLaws.{Rule}
use Rattle.mp_model.specs.declared.finding.Place.{Place}
use Rattle.mp_model.specs.declared.finding.Place.TheVariants.{Module, Bundle}
use Rattle.mp_model.specs.declared.finding.Finding.{Finding}

-- a place comes before another: the modules by number, and then the bundles by number
abbrev pub IsPlaceBefore : Place → Place → Type 0
IsPlaceBefore (Module m) (Module k) = m.0 < k.0
IsPlaceBefore (Module m) (Bundle b) = Unit {0}
IsPlaceBefore (Bundle b) (Module m) = ⊥
IsPlaceBefore (Bundle b) (Bundle c) = b.0 < c.0

-- a finding comes before another of the same time: by its place, and at one place by the number of its code
abbrev pub IsBeforeInUnit : Finding → Finding → Type 0
IsBeforeInUnit f g = IsPlaceBefore f.place g.place ⊎ ((f.place ≡ g.place) × (code_number f.code < code_number g.code))

-- a finding comes before another: by time, and at one time by place and code
abbrev pub IsBefore : Finding → Finding → Type 0
IsBefore f g = (f.time < g.time) ⊎ ((f.time ≡ g.time) × IsBeforeInUnit f g)

-- each finding of a netlist comes before those that stand behind it in the list
abbrev pub AreInOrder : Type 0
AreInOrder = (n : Circuit) → AllPairs IsBefore (findings n)

-- the rule of a finding's code holds, at its place and at its time, from 1 to one below the horizon
abbrev pub IsRuled : Circuit → Finding → Type 0
IsRuled n f = (1 ≤ f.time) × (f.time < n.horizon) × Rule n f.place f.time f.code

-- a list in this order that has what is ruled, and nothing else, is the list of findings
abbrev pub IsOnlyList : Type 0
IsOnlyList = (n : Circuit) (fs : List Finding) → AllPairs IsBefore fs → ((f : Finding) → Contains fs f ↔ IsRuled n f) → fs ≡ findings n
