-- Which modules drive the wires of a part.
use Rattle.std.proofs.Common.{◌≡◌, ℕ, Bool, true, false, List, Some, ap, sym, subst, refl, ◌∙◌, true≢false}
use Rattle.std.specs.Prelude.{All}
use Rattle.std.specs.List.{Contains}
use Rattle.mp_records.specs.declared.ids.ModuleId.{ModuleId}
use Rattle.mp_records.specs.declared.ports.Input.{Input}
use Rattle.mp_records.specs.declared.module_record.ModuleRecord.{ModuleRecord}
use Rattle.mp_netlist.specs.declared.driver.Driver.{Driver}
use Rattle.mp_netlist.specs.Drivers.{is_port}
use Rattle.mp_netlist.specs.Circuit.{Circuit, IsCircuit, Drives, module_at}
use Rattle.mp_netlist.proofs.DriverLemmas.{finds_ports, finds_only_ports}
use Rattle.mp_depend.specs.Drivers.{driver_in, AreDrivers}
use Rattle.mp_partition.specs.regions.Readers.{Reads}
use Rattle.mp_partition.specs.regions.Regions.{partition_of}
use Rattle.mp_redo.specs.apart.Parts.{IsDrivenWithin, IsDrivenElsewhere}
use Rattle.mp_redo.specs.parts.Drivers.{IsReadFrom, TellsElsewhere}

-- no port does
pub tells_none : (drivers : List Driver) (homes : List ℕ) (k w : ℕ) → is_port (driver_in drivers w) ≡ false → TellsElsewhere drivers homes k w false
tells_none drivers homes k w none = record {
  elsewhere = λ yes. absurd (true≢false (sym yes));
  within = λ no other q drives. absurd (true≢false (sym (ap is_port drives) ∙ none));
}

-- the same by equal lists
pub tells_of : (drivers ds : List Driver) (homes hs : List ℕ) (k w : ℕ) (answer b : Bool) → ds ≡ drivers → hs ≡ homes → answer ≡ b → TellsElsewhere ds hs k w answer → TellsElsewhere drivers homes k w b
tells_of drivers ds homes hs k w answer b same_drivers same_homes is tells =
    subst (TellsElsewhere drivers homes k w) is (subst (λ (xs : List ℕ). TellsElsewhere drivers xs k w answer) same_homes (subst (λ (xs : List Driver). TellsElsewhere xs hs k w answer) same_drivers tells))

pub driven_elsewhere : (n : Circuit) (drivers : List Driver) (homes : List ℕ) (k w : ℕ) → AreDrivers n drivers → TellsElsewhere drivers homes k w true → IsDrivenElsewhere n homes k w
driven_elsewhere n drivers homes k w are tells =
    let found = tells.elsewhere refl in
    record { part = found.0.0; port = found.1; drives = finds_only_ports n w found.1 found.0 (sym (are w) ∙ found.2); elsewhere = found.3 }

pub driven_within : (n : Circuit) → IsCircuit n → (drivers : List Driver) (homes : List ℕ) (k w : ℕ) → AreDrivers n drivers → TellsElsewhere drivers homes k w false → IsDrivenWithin n homes k w
driven_within n ok drivers homes k w are tells m p drives = tells.within refl (record { 0 = m }) p (are w ∙ finds_ports n ok m p w drives)

-- what drives the inputs of a module is at home with it
pub read_from : (n : Circuit) → IsCircuit n → (drivers : List Driver) (homes : List ℕ) (m : ℕ) (r : ModuleRecord) → module_at n m ≡ Some r → AreDrivers n drivers
    → All (λ (input : Input). IsReadFrom drivers homes (partition_of homes m) input) r.inputs → (w q p : ℕ) → Reads n m w → Drives n q p w → partition_of homes m ≡ partition_of homes q
read_from n ok drivers homes m r at are from w q p reads drives =
    let stands : module_at n m ≡ Some reads.part = reads.stands in
    let same : reads.part ≡ r = cc in
    let has : Contains r.inputs reads.port = subst (λ (x : ModuleRecord). Contains x.inputs reads.port) same reads.input in
    let found : IsReadFrom drivers homes (partition_of homes m) reads.port = subst (λ (i : Input). IsReadFrom drivers homes (partition_of homes m) i) has.2 (from has.0 reads.port has.1) in
    let id : ModuleId = record { 0 = q } in
    sym (found id p (ap (driver_in drivers) reads.wire ∙ are w ∙ finds_ports n ok q p w drives))
