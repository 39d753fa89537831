-- A wire that follows its old wave changes where that does.
use Rattle.std.proofs.Common.{◌≡◌, ℕ, ◌+◌, ◌-◌, ◌<◌, ◌≤◌, Bool, false, not, refl, ap, sym, subst, ◌∙◌, arith, inl, inr}
use Rattle.std.specs.Prelude.{◌==◌}
use Rattle.std.proofs.lemmas.Bool.{cases_lt, cases_Bool}
use Rattle.mp_records.specs.declared.ids.ModuleId.{ModuleId}
use Rattle.mp_netlist.specs.declared.driver.Driver.{Driver}
use Rattle.mp_netlist.specs.declared.driver.Driver.TheVariants.{Nothing, Stimulus, Port}
use Rattle.mp_netlist.specs.Circuit.{Circuit, IsCircuit}
use Rattle.mp_netlist.specs.Drivers.{driver, is_port}
use Rattle.mp_netlist.proofs.DriverLemmas.{finds_only_ports}
use Rattle.mp_model.specs.Waves.{level}
use Rattle.mp_kernel.specs.timers.TimerWheels.{never}
use Rattle.mp_simulation.specs.bits.Changes.{change_at}
use Rattle.mp_depend.specs.work.Revisions.{IsRevision}
use Rattle.mp_active.specs.agreement.Sleeping.{AreSleeping}
use Rattle.mp_active.specs.agreement.Sources.{AreSources, SleepersDriveAlike, WiresAgree}

module _ (old n : Circuit) (old_ok : IsCircuit old) (ok : IsCircuit n) (revised : IsRevision old n) (wires : WiresAgree) (sleepers : SleepersDriveAlike) (active : ℕ → Bool) (since until : ℕ → ℕ) (t : ℕ)
    (below : t + 1 < never) (asleep : AreSleeping old n active since t) (sources : AreSources old n active since until) where
  pub agrees : (w u : ℕ) → until w ≤ u → u ≤ t + 1 → level old w u ≡ level n w u
  agrees w u from within = wires old n old_ok ok revised active since until t below asleep sources w u from within

  -- the level before that which is the first of the old run again is the old one, too
  begins : (w : ℕ) → until w ≡ t + 1 → level old w t ≡ level n w t
  begins w first = by (driver n w) refl
    where
      free : is_port (driver n w) ≡ false → level old w t ≡ level n w t
      free none = elim (sources.others w none) as (λ _. level old w t ≡ level n w t) [
        | inl gone ↦ let no : ⊥ = omega (arith, gone, first, below) in absurd no
        | inr alike ↦ let zero_until = alike.0 in let no : ⊥ = omega (arith, zero_until, first) in absurd no
      ]

      sleeps : (m : ModuleId) (p : ℕ) → driver n w ≡ Port m p → active m.0 ≡ false → level old w t ≡ level n w t
      sleeps m p drives asleep_there =
          let found = finds_only_ports n w p m drives in
          sleepers old n old_ok ok revised active since until t asleep sources w p m found.part drives asleep_there found.stands t (omega (arith, first)) (omega arith)

      by : (d : Driver) → driver n w ≡ d → level old w t ≡ level n w t
      by Nothing is = free (ap is_port is)
      by Stimulus is = free (ap is_port is)
      by (Port m p) is = elim (cases_Bool (active m.0)) as (λ _. level old w t ≡ level n w t) [
        | inl awake ↦ let gone = sources.awake w p m is awake in let no : ⊥ = omega (arith, gone, first, below) in absurd no
        | inr asleep_there ↦ sleeps m p is asleep_there
      ]

  before : (w : ℕ) → until w ≤ t + 1 → level old w t ≡ level n w t
  before w soon = elim (cases_lt t (until w)) as (λ _. level old w t ≡ level n w t) [
    | inl later ↦ begins w (omega (arith, later, soon))
    | inr now ↦ agrees w t now (omega arith)
  ]

  pub follows_on : (w : ℕ) → until w ≤ t + 1 → change_at old w (t + 1) ≡ change_at n w (t + 1)
  follows_on w soon =
      let e : t + 1 - 1 ≡ t = omega arith in
      let was : level old w (t + 1 - 1) ≡ level n w (t + 1 - 1) = subst (λ u. level old w u ≡ level n w u) (sym e) (before w soon) in
      ap (λ v. not (v == level old w (t + 1))) was ∙ ap (λ v. not (level n w (t + 1 - 1) == v)) (agrees w (t + 1) soon (omega arith))
