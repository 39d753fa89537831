-- The part of a netlist in which the marked modules are is the excerpt of these.
use Rattle.std.proofs.Common.{◌≡◌, ℕ, ◌+◌, Bool, true, false, not, cond, List, [], ◌∷◌, Option, None, refl, ap, sym, ◌∙◌}
use Rattle.std.specs.Prelude.{◌==◌}
use Rattle.mp_records.specs.declared.wire_record.WireRecord.{WireRecord}
use Rattle.mp_records.specs.declared.module_record.ModuleRecord.{ModuleRecord}
use Rattle.mp_netlist.specs.declared.driver.Driver.{Driver}
use Rattle.mp_netlist.specs.declared.driver.Driver.TheVariants.{Nothing, Stimulus, Port}
use Rattle.mp_netlist.specs.Circuit.{Circuit, IsCircuit, Drives}
use Rattle.mp_netlist.specs.Drivers.{driver}
use Rattle.mp_netlist.proofs.DriverLemmas.{finds_ports}
use Rattle.mp_model.specs.Waves.{level}
use Rattle.mp_modules.specs.automata.Codes.{bit}
use Rattle.mp_partition.specs.runs.Marks.{is_marked}
use Rattle.mp_partition.specs.regions.Regions.{partition_of, region, set_on_slot}
use Rattle.mp_active.specs.excerpt.Excerpts.{excerpt, is_followed, active_slots, slots_on, unset_slot}
use Rattle.mp_active.proofs.lemmas.excerpt.StartingLemmas.{regions_are_excerpts}

followed_same : (a b : ℕ → Bool) → ((m : ℕ) → a m ≡ b m) → (d : Driver) → is_followed a d ≡ is_followed b d
followed_same a b same Nothing = refl
followed_same a b same Stimulus = refl
followed_same a b same (Port m p) = ap not (same m.0)

modules_same : (a b : ℕ → Bool) → ((m : ℕ) → a m ≡ b m) → (m : ℕ) (slots : List (Option ModuleRecord)) → active_slots a m slots ≡ active_slots b m slots
modules_same a b same m [] = refl
modules_same a b same m (slot ∷ slots) =
    ap (λ t. cond t slot None ∷ active_slots a (m + 1) slots) (same m)
    ∙ ap (λ (rest : List (Option ModuleRecord)). cond (b m) slot None ∷ rest) (modules_same a b same (m + 1) slots)

module _ (n : Circuit) (a b : ℕ → Bool) (same : (m : ℕ) → a m ≡ b m) (on : ℕ → Bool) where
  wires_same : (w : ℕ) (slots : List (Option WireRecord)) → slots_on n a on w slots ≡ slots_on n b on w slots
  wires_same w [] = refl
  wires_same w (slot ∷ slots) =
      ap (λ t. cond (on w) (cond t (set_on_slot n.horizon (level n w) slot) slot) (unset_slot slot) ∷ slots_on n a on (w + 1) slots) (followed_same a b same (driver n w))
      ∙ ap (λ (rest : List (Option WireRecord)). cond (on w) (cond (is_followed b (driver n w)) (set_on_slot n.horizon (level n w) slot) slot) (unset_slot slot) ∷ rest) (wires_same (w + 1) slots)

  -- excerpts in which the same modules are active are the same
  pub excerpts_same : excerpt n a on ≡ excerpt n b on
  excerpts_same =
      ap (λ (wires : List (Option WireRecord)). let seen : Circuit = record n { wires = wires; modules = active_slots a 0 n.modules } in seen) (wires_same 0 n.wires)
      ∙ ap (λ (modules : List (Option ModuleRecord)). let seen : Circuit = record n { wires = slots_on n b on 0 n.wires; modules = modules } in seen) (modules_same a b same 0 n.modules)

home_test : (b : Bool) → (bit b == 1) ≡ b
home_test true = refl
home_test false = refl

marked_when : (b : Bool) → bit b ≡ 1 → b ≡ true
marked_when true is = refl
marked_when false is = let no : ⊥ = cc in absurd no

module _ (n : Circuit) (active : List Bool) (homes : List ℕ) (heard : List Bool) (at_home : (m : ℕ) → partition_of homes m ≡ bit (is_marked active m))
    (hears : (w : ℕ) → is_marked heard w ≡ is_followed (λ m. is_marked active m) (driver n w)) where
  home_same : (m : ℕ) → (partition_of homes m == 1) ≡ is_marked active m
  home_same m = ap (λ k. k == 1) (at_home m) ∙ home_test (is_marked active m)

  pub part_is : region n homes 1 heard ≡ excerpt n (λ m. is_marked active m) (λ w. true)
  part_is =
      regions_are_excerpts n homes 1 heard (λ w. hears w ∙ followed_same (λ m. is_marked active m) (λ m. partition_of homes m == 1) (λ m. sym (home_same m)) (driver n w))
      ∙ excerpts_same n (λ m. partition_of homes m == 1) (λ m. is_marked active m) home_same (λ w. true)

  -- it hears no wire that a module drives which is in it
  pub hears_others : IsCircuit n → (m p w : ℕ) → Drives n m p w → partition_of homes m ≡ 1 → is_marked heard w ≡ false
  hears_others ok m p w drives home =
      hears w ∙ ap (is_followed (λ k. is_marked active k)) (finds_ports n ok m p w drives)
      ∙ ap not (marked_when (is_marked active m) (sym (at_home m) ∙ home))
