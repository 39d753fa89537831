-- What is selected of what a check finds.
use Rattle.std.specs.Prelude.{ℕ, Bool, true, false, ◌&&◌, ◌||◌, List, [], ◌∷◌, bytes_eq, is_none, position, Option, Some, None}
use Rattle.std.specs.List.{list_any}
use Rattle.mp_records.specs.declared.module_record.ModuleRecord.{ModuleRecord}
use Rattle.mp_records.specs.declared.bundle_record.BundleRecord.{BundleRecord}
use Rattle.mp_netlist.specs.Circuit.{Circuit, module_at, bundle_at, module_named, bundle_named}
use Rattle.mp_model.specs.declared.finding.Place.{Place}
use Rattle.mp_model.specs.declared.finding.Place.TheVariants.{Module, Bundle}
use Rattle.mp_model.specs.declared.finding.Finding.{Finding}
use Rattle.mp_questions.specs.declared.late.late.Late.{Late}
use Rattle.mp_questions.specs.timing.Ranges.{is_in_range}
use Rattle.mp_check.specs.declared.selection.Selection.{Selection}
use Rattle.mp_check.specs.declared.wait.Wait.{Wait}

-- the times from one on to before another, as they are asked for, and names of modules and bundles: those of all where there are none
pub record Selected : Type 0 where
  pub from : ℕ
  pub to : ℕ
  pub names : List (List ℕ)

-- a selection of the program
abbrev pub selected : Selection → Selected
selected s = record { from = s.range.from; to = s.range.to; names = s.names.now }

abbrev pub has_none : {A : Type 0} → List A → Bool
has_none [] = true
has_none (x ∷ xs) = false

-- ---- names

-- the name of what stands in a module's slot, and in a bundle's, none where nothing does
abbrev pub name_in : Option ModuleRecord → List ℕ
name_in None = []
name_in (Some r) = r.name

abbrev pub bundle_name_in : Option BundleRecord → List ℕ
bundle_name_in None = []
bundle_name_in (Some b) = b.name

abbrev pub module_name : Circuit → ℕ → List ℕ
module_name n m = name_in (module_at n m)

abbrev pub bundle_name : Circuit → ℕ → List ℕ
bundle_name n b = bundle_name_in (bundle_at n b)

abbrev pub place_name : Circuit → Place → List ℕ
place_name n (Module m) = module_name n m.0
place_name n (Bundle b) = bundle_name n b.0

-- the place of the first name that neither a module nor a bundle has
abbrev pub missing_place : Circuit → List (List ℕ) → Option ℕ
missing_place n names = position (λ name. is_none (module_named n name) && is_none (bundle_named n name)) names

-- ---- what is kept

-- a time is one of the range
abbrev pub keeps_time : Circuit → Selected → ℕ → Bool
keeps_time n s time = is_in_range n.horizon s.from s.to time

-- a module or a bundle with this name is asked for
abbrev pub keeps_name : Selected → List ℕ → Bool
keeps_name s name = has_none s.names || list_any (λ other. bytes_eq other name) s.names

abbrev pub keeps_finding : Circuit → Selected → Finding → Bool
keeps_finding n s f = keeps_time n s f.time && keeps_name s (place_name n f.place)

abbrev pub keeps_late : Circuit → Selected → Late → Bool
keeps_late n s l = keeps_time n s l.time && keeps_name s (bundle_name n l.bundle.0)

-- whatever the range is: where there are names, a module with one of them stands in the deadlock
abbrev pub keeps_deadlock : Circuit → Selected → List Wait → Bool
keeps_deadlock n s waits = has_none s.names || list_any (λ w. keeps_name s (module_name n w.waiter.0)) waits

-- the note on a bundle, whatever the range is
abbrev pub keeps_bundle : Circuit → Selected → ℕ → Bool
keeps_bundle n s b = keeps_name s (bundle_name n b)
