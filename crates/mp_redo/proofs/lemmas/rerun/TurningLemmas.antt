-- A wire is turned on between two units.
use Rattle.std.proofs.Common.{◌≡◌, ℕ, ◌+◌, ◌<◌, ◌≤◌, Bool, true, false, cond, [], Some, IsSome, length, refl, ap, sym, subst, ◌∙◌, arith, inl, inr}
use Rattle.std.specs.Prelude.{◌==◌, ◌||◌, slice_index_or}
use mathlib.Core.Path.{fun_ext}
use Rattle.std.proofs.lemmas.Bool.{cases_lt, eqb-true, or_left, or_right, true≢false}
use Rattle.std.proofs.lemmas.List.{get_or_default}
use Rattle.mp_wave.specs.Waveform.{Waveform}
use Rattle.mp_netlist.specs.declared.driver.Driver.{Driver}
use Rattle.mp_netlist.specs.declared.driver.Driver.TheVariants.{Nothing, Stimulus, Port}
use Rattle.mp_netlist.specs.Circuit.{Circuit, IsCircuit, Drives, wire_at}
use Rattle.mp_netlist.specs.Drivers.{driver, is_port}
use Rattle.mp_netlist.proofs.DriverLemmas.{finds_only_ports, driven_stands}
use Rattle.mp_model.specs.Waves.{level}
use Rattle.mp_model.proofs.SlotLemmas.{some_within}
use Rattle.mp_simulation.specs.declared.bits.simulator.Simulator.{Simulator}
use Rattle.mp_kernel.specs.timers.TimerWheels.{never}
use Rattle.mp_partition.specs.runs.Outcomes.{Outcome, wave_of}
use Rattle.mp_depend.specs.work.Revisions.{IsRevision, IsKept}
use Rattle.mp_simulation.specs.declared.units.data_modules.DataModules.{DataModules}
use Rattle.mp_simulation.specs.declared.units.netlist_simulation.NetlistSimulation.{NetlistSimulation}
use Rattle.mp_simulation.specs.units.DataLevels.{is_data}
use Rattle.mp_simulation.specs.run.Stimuli.{left_of}
use Rattle.mp_active.specs.excerpt.Numberings.{Numbering}
use Rattle.mp_active.specs.excerpt.Showing.{Shows}
use Rattle.mp_active.specs.excerpt.Turning.{IsTurnedOn}
use Rattle.mp_active.proofs.lemmas.excerpt.TurningLemmas.{turning_shows}
use Rattle.mp_active.specs.agreement.Sources.{AreSources, WiresAgree}
use Rattle.mp_active.specs.declared.compare.wire_source.WireSource.{WireSource}
use Rattle.mp_active.specs.declared.compare.comparison.Comparison.{Comparison}
use Rattle.mp_active.specs.compare.Comparing.{source_at, off, HasCursors, IsComplete}
use Rattle.mp_active.specs.compare.Waking.{turned_on}
use Rattle.mp_active.specs.steps.TurningOn.{TurnsOn}
use Rattle.mp_active.specs.declared.compare.change.Change.{Change}
use Rattle.mp_redo.specs.declared.rerun.rerun.Rerun.{Rerun}
use Rattle.mp_redo.specs.rerun.Following.{AreTails, AreSetAnew}
use Rattle.mp_redo.specs.rerun.Seats.{AreSeats}
use Rattle.mp_redo.specs.rerun.Reruns.{IsChange, active_of, on_of, until_of, IsFollowed, IsRerunBy, IsRerunAt}
use Rattle.mp_redo.specs.rerun.Waking.{HasTurnedOn}
use Rattle.mp_redo.proofs.lemmas.rerun.OldWaveLemmas.{old_levels}
use Rattle.mp_redo.proofs.lemmas.rerun.StayingLemmas.{HasSameWiring, numbered_kept, sources_long, counted_kept, ports_more}

-- ---- a wire that is off
module _ (old new : Circuit) (run : Outcome) (old_ok : IsCircuit old) (ok : IsCircuit new) (numbering : Numbering) (since : ℕ → ℕ) (t : ℕ) (s : Rerun)
    (is : IsFollowed old new run numbering since t s) (w : ℕ) (rests : on_of s w ≡ false) where
  pub off_until : until_of s w ≡ 0
  off_until = elim (cases_lt 0 (until_of s w)) as (λ _. until_of s w ≡ 0) [
    | inl some ↦ let lit = is.lit w some in absurd (true≢false (sym lit ∙ rests))
    | inr none ↦ omega (arith, none)
  ]

  not_never : until_of s w ≡ never → ⊥
  not_never e = let none = off_until in omega (arith, none, e)

  -- it stands in the old netlist
  pub off_stands : IsSome (wire_at new w) → IsSome (wire_at old w)
  off_stands stands = by (driver new w) refl
    where
      kept : (m p : ℕ) → driver new w ≡ Port (record { 0 = m }) p → (b : Bool) → active_of s m ≡ b → IsSome (wire_at old w)
      kept m p drives true awake = absurd (not_never (is.sources.awake w p (record { 0 = m }) drives awake))
      kept m p drives false sleeps =
          let found = finds_only_ports new w p (record { 0 = m }) drives in
          let same : IsKept old new m found.part = (is.sleeping m found.part found.stands sleeps).kept in
          let was : Drives old m p w = record { part = found.part; stands = same.before; output = found.output } in
          driven_stands old old_ok m p w was

      other : is_port (driver new w) ≡ false → IsSome (wire_at old w)
      other portless = elim (is.sources.others w portless) as (λ _. IsSome (wire_at old w)) [
        | inl e ↦ absurd (not_never e)
        | inr same ↦ elim same.1 as (λ _. IsSome (wire_at old w)) [
          | inl alike ↦ alike.before
          | inr past ↦ let low = some_within new.wires w stands in absurd (omega (arith, low, past))
        ]
      ]

      by : (d : Driver) → driver new w ≡ d → IsSome (wire_at old w)
      by Nothing e = other (ap is_port e)
      by Stimulus e = other (ap is_port e)
      by (Port m p) e = kept m.0 p e (active_of s m.0) refl

  -- it has had the levels of the old run
  pub off_levels : WiresAgree → IsRevision old new → t + 1 < never → (u : ℕ) → u ≤ t → level old w u ≡ level new w u
  off_levels agree revised low u upto =
      agree old new old_ok ok revised (active_of s) since (until_of s) t low is.sleeping is.sources w u (let none = off_until in omega (arith, none)) (omega (arith, upto))

-- ---- what is told of a wire that stands
module _ (old new : Circuit) (run : Outcome) (numbering : Numbering) (since : ℕ → ℕ) (t : ℕ) (s : Rerun) (is : IsFollowed old new run numbering since t s) (w : ℕ) (stands : IsSome (wire_at new w)) where
  inside : w < length new.wires
  inside = some_within new.wires w stands

  pub source_place : w < length s.comparison.sources.items
  source_place = let same = is.numbered.wires in let low = inside in omega (arith, same, low)

  pub kind_place : w < length s.comparison.numbers.have_data.items
  kind_place = let same = is.cursors.shape.have_data in let low = source_place in omega (arith, same, low)

  pub told_rest : (source : WireSource) → source ≡ slice_index_or s.comparison.sources.items w source → source.is_on ≡ false → on_of s w ≡ false
  told_rest source at rests = ap (λ (x : WireSource). x.is_on) (get_or_default s.comparison.sources.items w off source source_place ∙ sym at) ∙ rests

  pub told_on : (source : WireSource) → source ≡ slice_index_or s.comparison.sources.items w source → source.is_on ≡ true → (v : ℕ) → on_of s v ≡ (on_of s v || (v == w))
  told_on source at lit v = by (v == w) refl
    where
      right : (b : Bool) → b ≡ (b || false)
      right true = refl
      right false = refl

      by : (b : Bool) → (v == w) ≡ b → on_of s v ≡ (on_of s v || (v == w))
      by true here =
          ap (on_of s) (eqb-true v w here) ∙ ap (λ (x : WireSource). x.is_on) (get_or_default s.comparison.sources.items w off source source_place ∙ sym at) ∙ lit ∙ sym (or_right (on_of s v) (v == w) here)
      by false else = right (on_of s v) ∙ ap (λ b. on_of s v || b) (sym else)

  pub told_kind : (kind : Bool) → kind ≡ slice_index_or s.comparison.numbers.have_data.items w kind → kind ≡ is_data new w
  told_kind kind at = at ∙ get_or_default s.comparison.numbers.have_data.items w kind false kind_place ∙ is.numbered.with_data w inside

-- ---- it is turned on
on_more : (w v : ℕ) (b : Bool) (was now : WireSource) → (v == w) ≡ b → now ≡ cond (v == w) (turned_on was) was → now.is_on ≡ (was.is_on || (v == w))
on_more w v true was now e is =
    ap (λ (x : WireSource). x.is_on) is ∙ ap (λ b. (cond b (turned_on was) was).is_on) e ∙ sym (or_right was.is_on (v == w) e)
on_more w v false was now e is =
    ap (λ (x : WireSource). x.is_on) is ∙ ap (λ b. (cond b (turned_on was) was).is_on) e ∙ sym (ap (λ b. was.is_on || b) e ∙ or_none was.is_on)
  where
    or_none : (b : Bool) → (b || false) ≡ b
    or_none true = refl
    or_none false = refl

until_same : (b : Bool) (was now : WireSource) → now ≡ cond b (turned_on was) was → now.until ≡ was.until
until_same true was now is = ap (λ (x : WireSource). x.until) is
until_same false was now is = ap (λ (x : WireSource). x.until) is

-- what is compared after a wire is followed
pub record HasFollowed (run : Outcome) (w t : ℕ) (c d : Comparison) : Type 0 where
  pub kept : d ≡ record c { sources = d.sources; timers = d.timers; places = d.places }
  pub cursors : HasCursors run t [] d
  pub complete : IsComplete run t c → IsComplete run t d
  pub sources : (v : ℕ) → source_at d v ≡ cond (v == w) (turned_on (source_at c v)) (source_at c v)

module _ (w t : ℕ) (run : Outcome) (s : Rerun) (sim : NetlistSimulation) (d : Comparison) (follows : HasFollowed run w t s.comparison d) where
  abbrev made : Rerun
  made = record s { simulation = sim; comparison = d }

  pub now_on : (v : ℕ) → on_of made v ≡ (on_of s v || (v == w))
  now_on v = on_more w v (v == w) (source_at s.comparison v) (source_at d v) refl (follows.sources v)

  pub stays_on : (v : ℕ) → on_of s v ≡ true → on_of made v ≡ true
  stays_on v lit = now_on v ∙ or_left (on_of s v) (v == w) lit

  pub now_until : (v : ℕ) → until_of made v ≡ until_of s v
  now_until v = until_same (v == w) (source_at s.comparison v) (source_at d v) (follows.sources v)

  untils : until_of made ≡ until_of s
  untils = fun_ext now_until

  same_numbers : d.numbers ≡ s.comparison.numbers
  same_numbers = ap (λ (x : Comparison). x.numbers) follows.kept

  same_asleep : d.asleep ≡ s.comparison.asleep
  same_asleep = ap (λ (x : Comparison). x.asleep) follows.kept

  pub has_turned : HasTurnedOn s made
  has_turned = record {
    kept = refl;
    seen = ap (λ (x : Comparison). x.seen) follows.kept;
    until = now_until;
    lit = stays_on;
  }

  module _ (old new : Circuit) (numbering : Numbering) (since : ℕ → ℕ) (same : HasSameWiring s.simulation sim) (modules : sim.modules ≡ s.simulation.modules) (is : IsFollowed old new run numbering since t s) where
    pub followed_on : IsFollowed old new run numbering since t made
    followed_on = record {
      numbered = numbered_kept new numbering s.inputs.items s.comparison d s.simulation sim same_numbers (sources_long s.comparison d same_numbers is.cursors.shape follows.cursors.shape) same is.numbered;
      modules = is.modules;
      seats = subst (λ (x : DataModules). AreSeats (length new.modules) s.activity.seats.items x) (sym modules) is.seats;
      ports = ports_more new (active_of s) (on_of s) (on_of made) stays_on is.ports;
      lit = λ v some. stays_on v (is.lit v (subst (λ k. 0 < k) (now_until v) some));
      sleeping = is.sleeping;
      sources = subst (AreSources old new (active_of s) since) (sym untils) is.sources;
      cursors = follows.cursors;
      complete = follows.complete is.complete;
      counted = counted_kept new (active_of s) numbering s.comparison d same_numbers same_asleep is.counted;
      pending_outputs = subst (λ (until : ℕ → ℕ). AreTails new (active_of s) until t (left_of s.pending_outputs)) (sym untils) is.pending_outputs;
      stimuli = subst (λ (until : ℕ → ℕ). AreSetAnew new until t (left_of s.stimuli)) (sym untils) is.stimuli;
    }

-- a simulation in which a wire is turned on keeps its rows and units
turned_wiring : (n : Circuit) (numbering : Numbering) (w t : ℕ) (s new : NetlistSimulation) → IsTurnedOn n numbering w t s new → HasSameWiring s new
turned_wiring n numbering w t s new is = record {
  fanout = ap (λ (x : Simulator). x.fanout) is.simulator;
  outputs = ap (λ (x : Simulator). x.outputs) is.simulator;
  units = ap (λ (x : Simulator). length x.wheel) is.simulator;
  change_units = is.change_units;
}

pub turned_by : (old new : Circuit) (run : Outcome) (w t : ℕ) (numbering : Numbering) (since : ℕ → ℕ) (s : Rerun) (sim : NetlistSimulation) (d : Comparison) → IsCircuit new →
    IsRerunBy old new run numbering since t s → on_of s w ≡ false → IsTurnedOn new numbering w t s.simulation sim → HasFollowed run w t s.comparison d →
    IsRerunBy old new run numbering since t (record s { simulation = sim; comparison = d })
turned_by old new run w t numbering since s sim d ok is rests turned follows = record {
  shows = subst (λ (on : ℕ → Bool). Shows new (active_of s) on numbering t sim) (sym (fun_ext (now_on w t run s sim d follows)))
      (turning_shows new ok (active_of s) (on_of s) is.followed.ports numbering w t s.simulation sim is.shows rests turned);
  followed = followed_on w t run s sim d follows old new numbering since (turned_wiring new numbering w t s.simulation sim turned) turned.modules is.followed;
}

-- in whatever numbering
pub turned_at : (change : Change) → IsChange change → WiresAgree → (w t : ℕ) (s : Rerun) (wave : Waveform) (wide : Bool) (sim : NetlistSimulation) (d : Comparison) → t + 1 < never → t + 1 < change.new.now.horizon →
    on_of s w ≡ false → Some wave ≡ wave_of change.run.now w → is_data change.new.now w ≡ wide →
    TurnsOn wide wave w t s.simulation sim → HasFollowed change.run.now w t s.comparison d →
    (latest : ℕ) → IsRerunAt change.old.now change.new.now change.run.now latest t s → IsRerunAt change.old.now change.new.now change.run.now latest t (record s { simulation = sim; comparison = d })
turned_at change are agree w t s wave wide sim d low below rests kept sort turns follows latest at = record {
  numbering = at.numbering;
  since = at.since;
  is = turned_by change.old.now change.new.now change.run.now w t at.numbering at.since s sim d are.form at.is rests
      (turns change.new.now are.form (active_of s) (on_of s) at.numbering at.is.shows rests sort (λ u upto.
      old_levels change.old.now change.run.now are.run w wave kept u (let same = are.revision.horizon in omega (arith, same, below, upto))
      ∙ off_levels change.old.now change.new.now change.run.now are.old_form are.form at.numbering at.since t s at.is.followed w rests agree are.revision low u upto)) follows;
  early = at.early;
}
