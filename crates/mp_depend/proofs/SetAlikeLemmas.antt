-- What is set on a wire from outside, before a change and after it.
use Rattle.std.proofs.Common.{◌≡◌, ℕ, Option, Some, None, IsSome, refl, ◌∙◌}
use Rattle.mp_records.specs.declared.ids.ModuleId.{ModuleId}
use Rattle.mp_netlist.specs.declared.driver.Driver.{Driver}
use Rattle.mp_netlist.specs.declared.driver.Driver.TheVariants.{Port}
use Rattle.mp_netlist.specs.Circuit.{Circuit, IsCircuit, Drives}
use Rattle.mp_netlist.specs.Drivers.{driver}
use Rattle.mp_netlist.proofs.DriverLemmas.{finds_ports}

pub stands : {A : Type 0} (slot : Option A) (x : A) → slot ≡ Some x → IsSome slot
stands None x e = cc
stands (Some y) x e = refl

-- a driver that isn't a port
abbrev pub IsPortless : Driver → Type 0
IsPortless found = (m : ModuleId) (p : ℕ) → found ≡ Port m p → ⊥

-- no port has the wire
pub portless : (n : Circuit) → IsCircuit n → (w : ℕ) (found : Driver) → found ≡ driver n w → IsPortless found → (m p : ℕ) → Drives n m p w → ⊥
portless n ok w found is not m p drives = not (record { 0 = m }) p (is ∙ finds_ports n ok m p w drives)
