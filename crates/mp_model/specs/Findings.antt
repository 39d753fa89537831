-- What is found in a netlist: at which time, at which module or bundle, and what.
use Rattle.std.specs.Prelude.{ℕ, ◌+◌, ◌-◌, Bool, false, not, ◌&&◌, ◌==◌, List, ◌++◌, map, length, min, Option, Some, None}
use Rattle.std.specs.List.{filter, flat_map, list_any, range_with_len}
use Rattle.mp_modules.specs.declared.finding_code.FindingCode.{FindingCode}
use Rattle.mp_modules.specs.declared.finding_code.FindingCode.TheVariants.{DataWhileBusy, Setup, RequestWhileBusy, AckWhileIdle}
use Rattle.mp_modules.specs.Findings.{has_code, by_number}
use Rattle.mp_modules.specs.Histories.{has_event}
use Rattle.mp_modules.specs.storage.AnyModules.{found}
use Rattle.mp_records.specs.declared.ids.WireId.{WireId}
use Rattle.mp_records.specs.declared.module_record.ModuleRecord.{ModuleRecord}
use Rattle.mp_records.specs.declared.bundle_record.BundleRecord.{BundleRecord}
use Rattle.mp_netlist.specs.Circuit.{Circuit, module_at, bundle_at}
use Rattle.mp_model.specs.Levels.{built, inputs_by}
use Rattle.mp_model.specs.Waves.{level, state}
use Rattle.mp_model.specs.declared.finding.Place.{Place}
use Rattle.mp_model.specs.declared.finding.Place.TheVariants.{Module, Bundle}
use Rattle.mp_model.specs.declared.finding.Finding.{Finding}

-- a code is found at a module: by its table, from its state one unit before and the levels at its inputs now
abbrev pub is_found_at_module : Circuit → ℕ → Option ModuleRecord → ℕ → FindingCode → Bool
is_found_at_module n m None t code = false
is_found_at_module n m (Some r) t code = has_code (found (built n r) (state n m (t - 1)) (inputs_by n (level n) r t)) code

-- the level of a wire differs from the one a unit before
abbrev pub changes : Circuit → WireId → ℕ → Bool
changes n w t = has_event (level n w.0) t

-- a bundle is busy while its request and acknowledge levels differ
abbrev pub is_busy : Circuit → BundleRecord → ℕ → Bool
is_busy n b t = not (level n b.request.0 t == level n b.acknowledge.0 t)

-- a request event stands at this time, or below the horizon no more than the setup after it
abbrev pub is_requested_soon : Circuit → BundleRecord → ℕ → Bool
is_requested_soon n b t = list_any (changes n b.request) (range_with_len t (min (b.setup + 1) (n.horizon - t)))

-- a code is found at a bundle
abbrev pub is_found_at_bundle : Circuit → Option BundleRecord → ℕ → FindingCode → Bool
is_found_at_bundle n None t code = false
is_found_at_bundle n (Some b) t DataWhileBusy = changes n b.payload t && is_busy n b (t - 1)
is_found_at_bundle n (Some b) t Setup = changes n b.payload t && is_requested_soon n b t
is_found_at_bundle n (Some b) t RequestWhileBusy = changes n b.request t && is_busy n b (t - 1)
is_found_at_bundle n (Some b) t AckWhileIdle = changes n b.acknowledge t && not (is_busy n b (t - 1))
is_found_at_bundle n (Some b) t code = false

abbrev pub is_found : Circuit → Place → ℕ → FindingCode → Bool
is_found n (Module m) t code = is_found_at_module n m.0 (module_at n m.0) t code
is_found n (Bundle b) t code = is_found_at_bundle n (bundle_at n b.0) t code

abbrev pub module_place : ℕ → Place
module_place m = Module (record { 0 = m })

abbrev pub bundle_place : ℕ → Place
bundle_place b = Bundle (record { 0 = b })

-- the modules by number, and then the bundles by number
abbrev pub places : Circuit → List Place
places n = map module_place (range_with_len 0 (length n.modules)) ++ map bundle_place (range_with_len 0 (length n.bundles))

-- what is found at a place at a time, by the codes' numbers
abbrev pub found_at : Circuit → ℕ → Place → List Finding
found_at n t place = map (λ code. record { time = t; place = place; code = code }) (filter (is_found n place t) by_number)

-- what is found at each time from 1 to one below the horizon, by place
unfoldable pub findings : Circuit → List Finding
findings n = flat_map (λ t. flat_map (found_at n t) (places n)) (range_with_len 1 (n.horizon - 1))
