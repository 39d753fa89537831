-- Ports by their numbers, and inputs that are all still.
use Rattle.std.proofs.Common.{◌≡◌, ◌⊎◌, ℕ, ◌+◌, ◌<◌, ◌≤◌, ◌&&◌, Bool, true, false, List, [], ◌∷◌, length, get_or, take, Option, Some, None, is_some, zero, suc, refl, ap, sym, subst, ◌∙◌, inl, inr, arith}
use Rattle.std.specs.List.{list_all}
use Rattle.std.proofs.lemmas.List.Folds.{list_all_more}
use Rattle.mp_modules.specs.Kinds.{output_count}
use Rattle.mp_modules.proofs.KindLemmas.{few_outputs}
use Rattle.mp_records.specs.declared.ids.ModuleId.{ModuleId}
use Rattle.mp_records.specs.declared.ids.WireId.{WireId}
use Rattle.mp_records.specs.declared.module_record.ModuleRecord.{ModuleRecord}
use Rattle.mp_records.specs.Outputs.{output_at}
use Rattle.mp_netlist.specs.declared.driver.Driver.{Driver}
use Rattle.mp_netlist.specs.declared.driver.Driver.TheVariants.{Nothing, Stimulus, Port}
use Rattle.mp_netlist.specs.Circuit.{Circuit, IsCircuit, Drives, module_at, stimulus_at}
use Rattle.mp_netlist.specs.Drivers.{driver, stimulus_driver}
use Rattle.mp_netlist.proofs.DriverLemmas.{driven_by, finds_ports}
use Rattle.mp_netlist.proofs.LimitLemmas.{modules_within}
use Rattle.mp_netlist.proofs.TableLemmas.{slot_within}
use Rattle.mp_netlist.proofs.UseLemmas.{output_within}
use Rattle.mp_check.specs.Dead.{port_numbers, port_number, port_slots}

module _ (n : Circuit) (ok : IsCircuit n) where
  abbrev IsLow : Driver → Type 0
  IsLow Nothing = Unit {0}
  IsLow Stimulus = Unit {0}
  IsLow (Port m p) = (m.0 < length n.modules) × (p < port_numbers)

  driver_low : (w : ℕ) → IsLow (driver n w)
  driver_low w = by (driven_by n w)
    where
      set : (s : Option (List (ℕ × ℕ))) → IsLow (stimulus_driver s)
      set None = tt
      set (Some changes) = tt

      by : ((m p : ℕ) × Drives n m p w) ⊎ (driver n w ≡ stimulus_driver (stimulus_at n w)) → IsLow (driver n w)
      by (inl found) =
          let d = found.2 in
          let form = ok.modules_ok found.0 d.part d.stands in
          let within = output_within d.part found.1 (record { 0 = w }) d.output in
          let few = few_outputs d.part.kind in
          subst IsLow (sym (finds_ports n ok found.0 found.1 w d)) (slot_within n.modules found.0 (ap is_some d.stands), omega (arith, within, form.outputs, few))
      by (inr is) = subst IsLow (sym is) (set (stimulus_at n w))

  -- a port that stands on a wire is one of its module's
  pub wired_low : (m p : ℕ) (r : ModuleRecord) (v : WireId) → module_at n m ≡ Some r → (output_at r p).wire ≡ Some v → p < output_count r.kind
  wired_low m p r v at on = let within = output_within r p v on in omega (arith, within, (ok.modules_ok m r at).outputs)

  -- a port that drives a wire has a number, and these are few
  pub port_low : (w : ℕ) (m : ModuleId) (p : ℕ) → Port m p ≡ driver n w → (m.0 < length n.modules) × (p < port_numbers)
  port_low w m p at = subst IsLow (sym at) (driver_low w)

  pub number_low : (w : ℕ) (m : ModuleId) (p : ℕ) → Port m p ≡ driver n w → port_number m.0 p < port_slots n
  number_low w m p at = let low = port_low w m p at in omega (arith, low.0, low.1)

  pub slots_few : port_slots n ≤ 3145728
  slots_few = let few = modules_within n ok in omega (arith, few)

-- ---- all of them, one by one

module _ {X : Type 0} (p : X → Bool) (xs : List X) (i : ℕ) (d : X) (within : i < length xs) where
  pub all_more : list_all p (take i xs) ≡ true → p (get_or xs i d) ≡ true → list_all p (take (i + 1) xs) ≡ true
  all_more so is = list_all_more p xs i d within ∙ ap (λ b. b && p (get_or xs i d)) so ∙ is

pub not_all : {X : Type 0} (p : X → Bool) (xs : List X) (i : ℕ) (d : X) → i < length xs → p (get_or xs i d) ≡ false → list_all p xs ≡ false
not_all p [] i d within is = absurd (omega (arith, within))
not_all p (x ∷ xs) zero d within is = ap (λ b. b && list_all p xs) is
not_all p (x ∷ xs) (suc i) d within is = ap (λ b. p x && b) (not_all p xs i d (omega (arith, within)) is) ∙ by (p x)
  where
    by : (b : Bool) → (b && false) ≡ false
    by true = refl
    by false = refl
