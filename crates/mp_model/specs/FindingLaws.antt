-- What the findings of a netlist satisfy.
use Rattle.std.specs.Prelude.{◌≡◌, ◌≢◌, ◌↔◌, ℕ, ◌+◌, ◌-◌, ◌<◌, ◌≤◌, true, Some}
use Rattle.std.specs.List.{Contains}
use Rattle.mp_modules.specs.declared.finding_code.FindingCode.{FindingCode}
use Rattle.mp_modules.specs.declared.finding_code.FindingCode.TheVariants.{DataWhileBusy, Setup, RequestWhileBusy, AckWhileIdle}
use Rattle.mp_modules.specs.Findings.{has_code}
use Rattle.mp_modules.specs.storage.AnyModules.{found}
use Rattle.mp_records.specs.declared.ids.WireId.{WireId}
use Rattle.mp_records.specs.declared.module_record.ModuleRecord.{ModuleRecord}
use Rattle.mp_records.specs.declared.bundle_record.BundleRecord.{BundleRecord}
use Rattle.mp_netlist.specs.Circuit.{Circuit, module_at, bundle_at}
use Rattle.mp_model.specs.Levels.{built, inputs_by}
use Rattle.mp_model.specs.Waves.{level, state}
use Rattle.mp_model.specs.declared.finding.Place.{Place}
use Rattle.mp_model.specs.declared.finding.Place.TheVariants.{Module, Bundle}
use Rattle.mp_model.specs.declared.finding.Finding.{Finding}
use Rattle.mp_model.specs.Findings.{findings}

-- the level of a wire differs from the one a unit before
abbrev pub Changes : Circuit → WireId → ℕ → Type 0
Changes n w t = level n w.0 (t - 1) ≢ level n w.0 t

-- the request and acknowledge levels of a bundle differ
abbrev pub IsBusy : Circuit → BundleRecord → ℕ → Type 0
IsBusy n b t = level n b.request.0 t ≢ level n b.acknowledge.0 t

-- the request of a bundle changes at a time that is no earlier and later by the setup at most
pub record IsRequestedSoon (n : Circuit) (b : BundleRecord) (t : ℕ) : Type 0 where
  pub at : ℕ
  pub since : t ≤ at
  pub until : at ≤ t + b.setup
  pub within : at < n.horizon
  pub event : Changes n b.request at

-- the rule of each code that is found at bundles
abbrev pub BundleRule : Circuit → BundleRecord → ℕ → FindingCode → Type 0
BundleRule n b t DataWhileBusy = Changes n b.payload t × IsBusy n b (t - 1)
BundleRule n b t Setup = Changes n b.payload t × IsRequestedSoon n b t
BundleRule n b t RequestWhileBusy = Changes n b.request t × IsBusy n b (t - 1)
BundleRule n b t AckWhileIdle = Changes n b.acknowledge t × ¬ IsBusy n b (t - 1)
BundleRule n b t code = ⊥

-- at a module its table finds the code, after its state one unit before and with the levels at its inputs now
abbrev pub Rule : Circuit → Place → ℕ → FindingCode → Type 0
Rule n (Module m) t code =
    (r : ModuleRecord) × (module_at n m.0 ≡ Some r) × (has_code (found (built n r) (state n m.0 (t - 1)) (inputs_by n (level n) r t)) code ≡ true)
Rule n (Bundle b) t code = (r : BundleRecord) × (bundle_at n b.0 ≡ Some r) × BundleRule n r t code

-- a finding is told exactly where its rule holds, at a time from 1 to one below the horizon
abbrev pub FindsByRule : Type 0
FindsByRule = (n : Circuit) (f : Finding) → Contains (findings n) f ↔ ((1 ≤ f.time) × (f.time < n.horizon) × Rule n f.place f.time f.code)
