-- The slots and drivers of a part.
use Rattle.std.proofs.Common.{◌≡◌, ◌⊎◌, ℕ, ◌+◌, false, List, [], ◌∷◌, Option, None, refl, ap, sym, ◌∙◌, arith, inl, inr}
use Rattle.std.proofs.lemmas.Bool.{cases_eq}
use Rattle.std.proofs.lemmas.List.{ext_get_or}
use Rattle.mp_records.specs.declared.wire_record.WireRecord.{WireRecord}
use Rattle.mp_records.specs.declared.module_record.ModuleRecord.{ModuleRecord}
use Rattle.mp_records.specs.declared.bundle_record.BundleRecord.{BundleRecord}
use Rattle.mp_netlist.specs.declared.format.Format.{Format}
use Rattle.mp_netlist.specs.declared.driver.Driver.{Driver}
use Rattle.mp_netlist.specs.declared.driver.Driver.TheVariants.{Nothing, Stimulus, Port}
use Rattle.mp_netlist.specs.Circuit.{Circuit, Drives, module_at, stimulus_at, stimulus_in}
use Rattle.mp_netlist.specs.Drivers.{driver, is_port, stimulus_driver}
use Rattle.mp_netlist.proofs.DriverLemmas.{finds_only_ports, driven_by, portless_is_undriven}
use Rattle.mp_partition.specs.runs.Marks.{is_marked}
use Rattle.mp_partition.specs.regions.Regions.{partition_of, slots_heard, HearsOthers}
use Rattle.mp_partition.specs.regions.Divisions.{heard_by, IsWireAtHome}
use Rattle.mp_partition.proofs.lemmas.regions.RegionLemmas.{length_at_home, length_heard, module_here, module_elsewhere, drives_there, drives_home, wire_unheard, region_is}
use Rattle.mp_partition.proofs.lemmas.regions.PartLemmas.{same_driver}
use Rattle.mp_redo.specs.apart.Parts.{
  part_of,
  IsDrivenWithin,
  IsDrivenElsewhere,
  DivisionsAreUnconnected,
  WiresAreEither,
  UndrivenAreWithin,
  DrivenAreAtHome,
  PartsHaveWires,
  PartsHaveModules,
  PartsHaveNoOthers,
  PartsHavePlaces,
  PartsAreBySlots,
  PartsHaveDrivers,
  OthersAreUndriven,
  PartsAreCircuits,
}

-- ---- connections

pub divisions_are_unconnected : DivisionsAreUnconnected
divisions_are_unconnected n homes wires parts is m w q p reads drives = by ((is.at_home m).read w reads)
  where
    by : IsWireAtHome wires (heard_by [] (partition_of homes m)) parts (partition_of homes m) w → partition_of homes m ≡ partition_of homes q
    by (inl same) = sym same ∙ (is.at_home q).driven p w drives
    by (inr (inl past)) = absurd (let low = is.few q in let there = (is.at_home q).driven p w drives in let no : ⊥ = omega (arith, past, low, there) in no)
    by (inr (inr heard)) = absurd (let none : is_marked (heard_by [] (partition_of homes m)) w ≡ false = refl in let no : ⊥ = cc in no)

pub undriven_are_within : UndrivenAreWithin
undriven_are_within n homes k w ok none m p drives = absurd (portless_is_undriven n ok w none m p drives)

pub driven_are_at_home : DrivenAreAtHome
driven_are_at_home n homes w p m ok found k q drives = ap (partition_of homes) (ok.one_port k q m.0 p w drives (finds_only_ports n w p m found)).0

pub wires_are_either : WiresAreEither
wires_are_either n homes k w ok = by (driver n w) refl
  where
    by : (d : Driver) → driver n w ≡ d → IsDrivenWithin n homes k w ⊎ IsDrivenElsewhere n homes k w
    by Nothing e = inl (undriven_are_within n homes k w ok (ap is_port e))
    by Stimulus e = inl (undriven_are_within n homes k w ok (ap is_port e))
    by (Port m p) e = elim (cases_eq (partition_of homes m.0) k) as (λ _. IsDrivenWithin n homes k w ⊎ IsDrivenElsewhere n homes k w) [
      | inl same ↦ inl (λ q o drives. driven_are_at_home n homes w p m ok e q o drives ∙ same)
      | inr other ↦ inr (record { part = m.0; port = p; drives = finds_only_ports n w p m e; elsewhere = other })
    ]

-- ---- slots

none_heard : (n : Circuit) (w : ℕ) (slots : List (Option WireRecord)) → slots_heard n [] w slots ≡ slots
none_heard n w [] = refl
none_heard n w (slot ∷ slots) = ap (λ (rest : List (Option WireRecord)). slot ∷ rest) (none_heard n (w + 1) slots)

pub parts_have_places : PartsHavePlaces
parts_have_places n homes k = record { wires = length_heard n [] 0 n.wires; modules = length_at_home homes k 0 n.modules }

pub parts_have_wires : PartsHaveWires
parts_have_wires n homes k w = wire_unheard n homes k [] w refl

pub parts_have_modules : PartsHaveModules
parts_have_modules n homes k m home = module_here n homes k [] m home

pub parts_have_no_others : PartsHaveNoOthers
parts_have_no_others n homes k m other = module_elsewhere n homes k [] m other

-- a netlist by its fields
abbrev netlist_of : Format → ℕ → List (Option WireRecord) → List (Option ModuleRecord) → List (Option BundleRecord) → Circuit
netlist_of format horizon wires modules bundles = record { format = format; horizon = horizon; wires = wires; modules = modules; bundles = bundles }

pub parts_are_by_slots : PartsAreBySlots
parts_are_by_slots n homes k part is =
    ap (λ format. netlist_of format part.horizon part.wires part.modules part.bundles) is.format
    ∙ ap (λ horizon. netlist_of n.format horizon part.wires part.modules part.bundles) is.horizon
    ∙ ap (λ wires. netlist_of n.format n.horizon wires part.modules part.bundles) (is.wires ∙ sym (none_heard n 0 n.wires))
    ∙ ap (λ modules. netlist_of n.format n.horizon (part_of n homes k).wires modules part.bundles) modules
    ∙ ap (netlist_of n.format n.horizon (part_of n homes k).wires (part_of n homes k).modules) is.bundles
  where
    slot : (m : ℕ) → module_at part m ≡ module_at (part_of n homes k) m
    slot m = elim (cases_eq (partition_of homes m) k) as (λ _. module_at part m ≡ module_at (part_of n homes k) m) [
      | inl same ↦ is.here m same ∙ sym (parts_have_modules n homes k m same)
      | inr other ↦ is.elsewhere m other ∙ sym (parts_have_no_others n homes k m other)
    ]

    modules : part.modules ≡ (part_of n homes k).modules
    modules = ext_get_or None part.modules (part_of n homes k).modules (is.places ∙ sym (parts_have_places n homes k).modules) (λ m within. slot m)

-- ---- netlists

pub hears_none : (n : Circuit) (homes : List ℕ) (k : ℕ) → HearsOthers n homes k []
hears_none n homes k m p w drives home = refl

pub parts_are_circuits : PartsAreCircuits
parts_are_circuits n homes k ok = region_is n homes k [] ok (hears_none n homes k)

pub parts_have_drivers : PartsHaveDrivers
parts_have_drivers n homes k w ok within = same_driver n ok homes k [] (hears_none n homes k) w refl within

pub others_are_undriven : OthersAreUndriven
others_are_undriven n homes k w ok there = by (driven_by (part_of n homes k) w)
  where
    by : ((m p : ℕ) × Drives (part_of n homes k) m p w) ⊎ (driver (part_of n homes k) w ≡ stimulus_driver (stimulus_at (part_of n homes k) w)) → driver (part_of n homes k) w ≡ Nothing
    by (inl found) =
        let home = drives_home n homes k [] found.0 found.1 w found.2 in
        let one = (ok.one_port there.part there.port found.0 found.1 w there.drives (drives_there n homes k [] found.0 found.1 w found.2)).0 in
        absurd (there.elsewhere (ap (partition_of homes) one ∙ home))
    by (inr same) = same ∙ ap (λ slot. stimulus_driver (stimulus_in slot)) (parts_have_wires n homes k w) ∙ ap stimulus_driver (ok.port_or_stimulus there.part there.port w there.drives)
