use Rattle.std.proofs.Common.{◌≡◌, ℕ, ◌-◌, ◌<◌, ◌^◌, length, nat_cmp}
use Rattle.std.specs.Prelude.{IfSome}
use Rattle.std.specs.List.{All}
use Rattle.std.specs.BTreeSet.{contains}
use Rattle.mp_questions.specs.declared.causes.wire_change.WireChange.{WireChange}
use Rattle.mp_steady.specs.Cycles.{cycle, most_places}
use Rattle.mp_steady.specs.WireSets.{numbers}
use Rattle.mp_steady.proofs.CycleLemmas.{IsWithin, found_on, has_key}
use Rattle.mp_steady.proofs.cycle.Repeating.cycle.Given as goal

-- the changes so far are in the run, their numbers are those that were seen, and what is found from the next one on is the cycle
abbrev pub invariant-loop : goal.invariant-loop
invariant-loop l = record {
  tracer : l.tracer.levels ≡ l.fn.tracer.levels;
  keys : (q : ℕ) → contains nat_cmp l.seen q ≡ has_key q l.way.items;
  small : All (λ (d : WireChange). d.wire.0 < 2 ^ 32) l.way.items;
  few : length l.way.items ≡ l.counter;
  within : All (IsWithin l.self.set.of.netlist.now) l.way.items;
  next : IfSome l.next (IsWithin l.self.set.of.netlist.now);
  found : found_on l.self.set.of.netlist.now l.self.units l.way.items (most_places - l.counter) l.next ≡ cycle l.self.set.of.netlist.now (numbers l.self.set.wires.now) l.self.units;
}
