use Rattle.std.proofs.Common.{◌≡◌, ◌-◌, ◌<◌, ap, sym, ◌∙◌, arith}
use Rattle.mp_wave.specs.Waveform.{Waveform}
use Rattle.mp_wave.specs.WaveChanges.{changes_in}
use Rattle.mp_steady.specs.declared.wire_set.WireSet.{WireSet}
use Rattle.mp_steady.specs.Periods.{repeats}
use Rattle.mp_steady.specs.WireSets.{numbers}
use Rattle.mp_steady.proofs.PeriodLemmas.{IsGuide, in_order, next_found, next_none, next_other, none_left, some_changes, stands_of, too_long}
use Rattle.mp_steady.proofs.period.least_distance.Goals as goal
use Rattle.mp_steady.proofs.period.least_distance.Goals.{After-len-last}

pub wave_of-requires : goal.wave_of-requires
wave_of-requires c =
    let set = c.args.trial.set in
    stands_of set.of.netlist.now set.wires.now c.args.trial.suspect.0 set.stand c.args.trial.one_of_them

some : (c : After-len-last) → 0 < c.len-last.result
some c =
    let set = c.args.trial.set in
    let is = c.changes-changes.ensures.value ∙ ap (λ (v : Waveform). v.changes) c.wave_of.ensures in
    let some = some_changes set.of.netlist.now (numbers set.wires.now) c.args.trial.suspect.0 (changes_in c.changes-changes.result) c.requires is in
    omega (arith, some, c.len-last.ensures)

guide : (c : After-len-last) → IsGuide c.args.trial.set.of.netlist.now (numbers c.args.trial.set.wires.now) c.args.trial.suspect.0 (changes_in c.changes-changes.result) (c.len-last.result - 1)
guide c = record {
  has = c.args.trial.one_of_them;
  late = c.requires;
  is = c.changes-changes.ensures.value ∙ ap (λ (v : Waveform). v.changes) c.wave_of.ensures;
  long = omega (arith, some c, c.len-last.ensures);
}

pub overflow_sub-last : goal.overflow_sub-last
overflow_sub-last c = let more = some c in omega (arith, more)

pub time_at-time-requires : goal.time_at-time-requires
time_at-time-requires c = let more = some (goal.at.time_at-time-requires c).After-len-last in omega (arith, more, c.len-last.ensures)

pub level_at-level-requires : goal.level_at-level-requires
level_at-level-requires c = let more = some (goal.at.level_at-level-requires c).After-len-last in omega (arith, more, c.len-last.ensures)

pub overflow_sub-units : goal.overflow_sub-units
overflow_sub-units c =
    let set = c.args.trial.set in
    in_order set.of.netlist.now (numbers set.wires.now) c.args.trial.suspect.0 (changes_in c.changes-changes.result) (c.len-last.result - 1) (guide (goal.at.overflow_sub-units c).After-len-last) c.loop-back.back c.loop-back-test.true
    c.loop-back.invariant.none c.time_at-time.result c.time_at.result c.longest_period-longest.result c.time_at-time.ensures c.time_at.ensures
    (c.longest_period-longest.ensures set.of.netlist.now (numbers set.wires.now) c.args.trial.are_times)

pub returns-then-units-longest : goal.returns-then-units-longest
returns-then-units-longest c =
    let set = c.args.trial.set in
    too_long set.of.netlist.now (numbers set.wires.now) c.args.trial.suspect.0 (changes_in c.changes-changes.result) (c.len-last.result - 1) (guide (goal.at.returns-then-units-longest c).After-len-last) c.loop-back.back
    c.loop-back-test.true c.loop-back.invariant.none c.time_at-time.result c.time_at.result c.longest_period-longest.result c.time_at-time.ensures c.time_at.ensures
    (c.longest_period-longest.ensures set.of.netlist.now (numbers set.wires.now) c.args.trial.are_times) c.if-units-longest.true

pub loop-back-preserved-then-level_at-level : goal.loop-back-preserved-then-level_at-level
loop-back-preserved-then-level_at-level c =
    let set = c.args.trial.set in
    record {
      set = c.loop-back.invariant.set;
      times = c.loop-back.invariant.times;
      none =
          next_other set.of.netlist.now (numbers set.wires.now) c.args.trial.suspect.0 (changes_in c.changes-changes.result) (c.len-last.result - 1) (guide (goal.at.loop-back-preserved-then-level_at-level c).After-len-last)
          c.loop-back.back c.loop-back-test.true c.loop-back.invariant.none c.time_at-time.result c.time_at.result c.longest_period-longest.result c.time_at-time.ensures c.time_at.ensures
          (c.longest_period-longest.ensures set.of.netlist.now (numbers set.wires.now) c.args.trial.are_times) c.if-units-longest.false
          (λ same. c.if-level_at-level.true (c.level_at.ensures ∙ same ∙ sym c.level_at-level.ensures));
    }

pub returns-then-found : goal.returns-then-found
returns-then-found c =
    let set = c.args.trial.set in
    let units = c.time_at-time.result - c.time_at.result in
    let value : repeats set.of.netlist.now (numbers set.wires.now) units ≡ c.in_ok-found.found = sym (c.in_ok-found.ensures.value ∙ ap (λ (s : WireSet). repeats s.of.netlist.now (numbers s.wires.now) units) c.loop-back.invariant.set) in
    next_found set.of.netlist.now (numbers set.wires.now) c.args.trial.suspect.0 (changes_in c.changes-changes.result) (c.len-last.result - 1) (guide (goal.at.returns-then-found c).After-len-last) c.loop-back.back c.loop-back-test.true
    c.loop-back.invariant.none c.time_at-time.result c.time_at.result c.longest_period-longest.result c.time_at-time.ensures c.time_at.ensures
    (c.longest_period-longest.ensures set.of.netlist.now (numbers set.wires.now) c.args.trial.are_times) c.if-units-longest.false (value ∙ c.if-found.true)

pub loop-back-preserved : goal.loop-back-preserved
loop-back-preserved c =
    let set = c.args.trial.set in
    let units = c.time_at-time.result - c.time_at.result in
    let value : repeats set.of.netlist.now (numbers set.wires.now) units ≡ c.in_ok-found.found = sym (c.in_ok-found.ensures.value ∙ ap (λ (s : WireSet). repeats s.of.netlist.now (numbers s.wires.now) units) c.loop-back.invariant.set) in
    record {
      set = c.in_ok-found.ensures.set ∙ c.loop-back.invariant.set;
      times = c.in_ok-found.ensures.times ∙ c.loop-back.invariant.times;
      none =
          next_none set.of.netlist.now (numbers set.wires.now) c.args.trial.suspect.0 (changes_in c.changes-changes.result) (c.len-last.result - 1) (guide (goal.at.loop-back-preserved c).After-len-last) c.loop-back.back
          c.loop-back-test.true c.loop-back.invariant.none c.time_at-time.result c.time_at.result c.longest_period-longest.result c.time_at-time.ensures c.time_at.ensures
          (c.longest_period-longest.ensures set.of.netlist.now (numbers set.wires.now) c.args.trial.are_times) c.if-units-longest.false (value ∙ c.if-found.false);
    }

pub returns : goal.returns
returns c =
    let set = c.args.trial.set in
    none_left set.of.netlist.now (numbers set.wires.now) c.args.trial.suspect.0 (changes_in c.changes-changes.result) (c.len-last.result - 1) (guide (goal.at.returns c).After-len-last) c.loop-back.back c.loop-back-test.false
    c.loop-back.invariant.none
