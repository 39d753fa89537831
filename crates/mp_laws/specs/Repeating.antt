-- What repeats in a run repeats for ever.
use Rattle.std.specs.Prelude.{◌≡◌, ◌↔◌, ℕ, ◌+◌, ◌-◌, ◌<◌, ◌≤◌, true, false, List, Some}
use Rattle.std.specs.List.{Contains}
use Rattle.mp_modules.specs.declared.finding_code.FindingCode.{FindingCode}
use Rattle.mp_records.specs.declared.module_record.ModuleRecord.{ModuleRecord}
use Rattle.mp_records.specs.declared.bundle_record.BundleRecord.{BundleRecord}
use Rattle.mp_netlist.specs.declared.driver.Driver.TheVariants.{Port}
use Rattle.mp_netlist.specs.Circuit.{Circuit, IsCircuit, module_at, bundle_at, stimulus_at}
use Rattle.mp_netlist.specs.Drivers.{driver}
use Rattle.mp_model.specs.Waves.{level}
use Rattle.mp_model.specs.Findings.{findings}
use Rattle.mp_model.specs.declared.finding.Place.{Place}
use Rattle.mp_model.specs.declared.finding.Place.TheVariants.{Module, Bundle}
use Rattle.mp_steady.specs.WireSets.{all_wires, control, has_wire, is_whole, passes_on}
use Rattle.mp_steady.specs.Periods.{longest_period, repeats, start, told_until}
use Rattle.mp_laws.specs.Stimuli.{AreAlikeUpto}

-- the same modules and wires, at least the same horizon, and the same stimuli of these wires; those of others may set anything
pub record GoesOnAt (wires : List ℕ) (n later : Circuit) : Type 0 where
  pub horizon : n.horizon ≤ later.horizon
  pub alike : AreAlikeUpto 0 n later
  pub stimuli : (w : ℕ) → has_wire wires w ≡ true → stimulus_at later w ≡ stimulus_at n w

-- the wires of a whole set that repeats so many units later have, from its start on, at each time the level of so many units before, without end
abbrev pub RepeatsForEver : Type 0
RepeatsForEver =
    (n later : Circuit) → IsCircuit n → IsCircuit later → (wires : List ℕ) → is_whole n wires ≡ true → GoesOnAt wires n later → (units : ℕ) → 1 ≤ units
    → units ≤ longest_period n wires → repeats n wires units ≡ true → (w t : ℕ) → has_wire wires w ≡ true → start n wires units ≤ t → level later w (t + units) ≡ level later w t

-- all wires are a whole set, and the control is one
abbrev pub AreWhole : Type 0
AreWhole = (n : Circuit) → IsCircuit n → (is_whole n (all_wires n) ≡ true) × (is_whole n (control n) ≡ true)

-- a module drives one of these wires by a port that doesn't only pass an input on
pub record IsDriving (n : Circuit) (wires : List ℕ) (m : ℕ) : Type 0 where
  pub wire : ℕ
  pub port : ℕ
  pub part : ModuleRecord
  pub has : has_wire wires wire ≡ true
  pub stands : module_at n m ≡ Some part
  pub drives : driver n wire ≡ Port (record { 0 = m }) port
  pub holds : passes_on part.kind port ≡ false

-- what is found at a place is told by these wires: a bundle, or a module that drives one of them
abbrev pub IsTold : Circuit → List ℕ → Place → Type 0
IsTold n wires (Module m) = IsDriving n wires m.0
IsTold n wires (Bundle b) = Unit {0}

-- what may be found at the place at a time is below the horizon: of a bundle the requests up to the setup later, too
abbrev pub IsBelowHorizon : Circuit → Place → ℕ → Type 0
IsBelowHorizon n (Module m) t = t < n.horizon
IsBelowHorizon n (Bundle b) t = (t < n.horizon) × ((r : BundleRecord) → bundle_at n b.0 ≡ Some r → t + r.setup < n.horizon)

-- where all wires repeat, what is found is found again so many units later, and nothing else is
abbrev pub FindingsRepeatForEver : Type 0
FindingsRepeatForEver =
    (n later : Circuit) → IsCircuit n → IsCircuit later → GoesOnAt (all_wires n) n later → (units : ℕ) → 1 ≤ units → units ≤ longest_period n (all_wires n) → repeats n (all_wires n) units ≡ true
    → (place : Place) (t : ℕ) (code : FindingCode) → IsTold n (all_wires n) place → told_until n (all_wires n) - units < t → IsBelowHorizon later place (t + units)
    → Contains (findings later) (record { time = t; place = place; code = code }) ↔ Contains (findings later) (record { time = t + units; place = place; code = code })
