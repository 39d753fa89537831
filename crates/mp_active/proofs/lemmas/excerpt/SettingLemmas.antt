-- What stimuli change in an excerpt.
use Rattle.std.proofs.Common.{◌≡◌, ℕ, ◌<◌, Bool, true, false, not, cond, List, All, slice_index_or, refl, ap, sym, subst, ◌∙◌, arith, inl, inr}
use Rattle.std.specs.Prelude.{◌&&◌}
use Rattle.std.proofs.lemmas.Bool.{cases_Bool, and_parts, and_right}
use Rattle.mp_netlist.specs.declared.driver.Driver.{Driver}
use Rattle.mp_netlist.specs.declared.driver.Driver.TheVariants.{Nothing, Stimulus, Port}
use Rattle.mp_netlist.specs.Circuit.{Circuit, IsCircuit}
use Rattle.mp_netlist.specs.Drivers.{driver}
use Rattle.mp_model.specs.Waves.{level}
use Rattle.mp_modules.specs.automata.Codes.{bit}
use Rattle.mp_simulation.specs.bits.Changes.{change_at}
use Rattle.mp_simulation.specs.bits.Scopes.{Scope}
use Rattle.mp_simulation.specs.bits.WholeRuns.{is_stimulus, AreSet}
use Rattle.mp_kernel.specs.declared.datapath.level_change.LevelChange.{LevelChange}
use Rattle.mp_simulation.specs.units.DataLevels.{is_data, is_bit_wire, changes_of}
use Rattle.mp_simulation.proofs.lemmas.units.PresentLemmas.{change_here}
use Rattle.mp_active.specs.excerpt.Excerpts.{excerpt, ArePortsOn, driver_on}
use Rattle.mp_active.specs.excerpt.Setting.{is_outside, AreSetOutside, SetsAreStimuli}
use Rattle.mp_active.proofs.lemmas.excerpt.LevelLemmas.{excerpt_driver, excerpt_level}
use Rattle.mp_active.proofs.lemmas.excerpt.ChangeLemmas.{data_there, bit_there, change_on}
use Rattle.mp_active.proofs.lemmas.excerpt.TestLemmas.{swapped, bit_true}

outside_by : (active : ℕ → Bool) (b : Bool) (d : Driver) → is_stimulus (cond b (driver_on active d) Nothing) ≡ (b && is_outside active d)
outside_by active false d = refl
outside_by active true Nothing = refl
outside_by active true Stimulus = refl
outside_by active true (Port m p) = by (active m.0)
  where
    by : (b : Bool) → is_stimulus (cond b (Port m p) Stimulus) ≡ not b
    by true = refl
    by false = refl

module _ (n : Circuit) (ok : IsCircuit n) (active on : ℕ → Bool) (ports : ArePortsOn n active on) (set : List ℕ) (changes : List LevelChange) (time : ℕ) (low : time < n.horizon)
    (are : AreSetOutside n active on set changes time) where
  outside : (w : ℕ) → is_stimulus (driver (excerpt n active on) w) ≡ (on w && is_outside active (driver n w))
  outside w = ap is_stimulus (excerpt_driver n ok active on ports w) ∙ outside_by active (on w) (driver n w)

  -- a change of a wire that isn't driven from within
  change_there : (w : ℕ) → (change_at (excerpt n active on) w time && is_stimulus (driver (excerpt n active on) w)) ≡ (change_at n w time && (on w && is_outside active (driver n w)))
  change_there w =
      ap (λ b. change_at (excerpt n active on) w time && b) (outside w)
      ∙ elim (cases_Bool (on w)) as (λ _. (change_at (excerpt n active on) w time && (on w && is_outside active (driver n w))) ≡ (change_at n w time && (on w && is_outside active (driver n w)))) [
        | inl is ↦ ap (λ b. b && (on w && is_outside active (driver n w))) (change_on n ok active on ports time low w time is (omega arith))
        | inr off ↦
            let none : (on w && is_outside active (driver n w)) ≡ false = ap (λ b. b && is_outside active (driver n w)) off in
            and_right (change_at (excerpt n active on) w time) (on w && is_outside active (driver n w)) none ∙ sym (and_right (change_at n w time) (on w && is_outside active (driver n w)) none)
      ]

  set_there : (scope : Scope) → ((w : ℕ) → scope.traces w ≡ is_bit_wire (excerpt n active on) w) → AreSet (excerpt n active on) scope set time
  set_there scope traces w =
      are.bits w
      ∙ ap bit (swapped (change_at n w time) (is_bit_wire n w) (on w && is_outside active (driver n w)))
      ∙ ap (λ b. bit (b && is_bit_wire n w)) (sym (change_there w))
      ∙ ap (λ b. bit ((change_at (excerpt n active on) w time && is_stimulus (driver (excerpt n active on) w)) && b)) (sym (traces w ∙ bit_there n ok active on ports w))

  each_there : (w : ℕ) → changes_of w changes ≡ bit ((change_at (excerpt n active on) w time && is_stimulus (driver (excerpt n active on) w)) && is_data (excerpt n active on) w)
  each_there w =
      are.each w
      ∙ ap bit (swapped (change_at n w time) (is_data n w) (on w && is_outside active (driver n w)))
      ∙ ap (λ b. bit (b && is_data n w)) (sym (change_there w))
      ∙ ap (λ b. bit ((change_at (excerpt n active on) w time && is_stimulus (driver (excerpt n active on) w)) && b)) (sym (data_there n ok active on ports w))

  levels_there : All (λ (c : LevelChange). c.level ≡ level (excerpt n active on) c.number time) changes
  levels_there k e inside =
      let c : LevelChange = slice_index_or changes k e in
      let some : 0 < bit ((change_at n c.number time && is_data n c.number) && (on c.number && is_outside active (driver n c.number))) = subst (λ j. 0 < j) (are.each c.number) (change_here changes k e inside) in
      let all = bit_true ((change_at n c.number time && is_data n c.number) && (on c.number && is_outside active (driver n c.number))) some in
      let last = (and_parts (change_at n c.number time && is_data n c.number) (on c.number && is_outside active (driver n c.number)) all).1 in
      let is = (and_parts (on c.number) (is_outside active (driver n c.number)) last).0 in
      are.levels k e inside ∙ sym (excerpt_level n ok active on ports c.number time is low)

pub sets_are_stimuli : SetsAreStimuli
sets_are_stimuli n ok active on ports set changes time low are = record {
  bits = set_there n ok active on ports set changes time low are;
  levels = record { each = each_there n ok active on ports set changes time low are; levels = levels_there n ok active on ports set changes time low are };
}
