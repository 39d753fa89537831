use Rattle.std.proofs.Common.{◌≡◌, ◌-◌, true, take}
use Rattle.std.specs.List.{list_all}
use Rattle.mp_steady.specs.Periods.{heard_from}
use Rattle.mp_steady.specs.WireSets.{numbers}
use Rattle.mp_steady.proofs.TimesLemmas.{is_soon}
use Rattle.mp_steady.proofs.repeats.Trial.refusing.Given as goal

-- the levels of the wires so far do
abbrev pub invariant-loop-wire : goal.invariant-loop-wire
invariant-loop-wire l =
    let n = l.self.set.of.netlist.now in
    list_all (is_soon n l.units (heard_from n (numbers l.self.set.wires.now) - l.units)) (numbers (take l.wire-index l.self.set.wires.now)) ≡ true
