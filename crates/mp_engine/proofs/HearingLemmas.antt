-- What a part hears is what others do on the wires that it reads from them.
use Rattle.std.proofs.Common.{◌≡◌, ◌⊎◌, ℕ, ◌+◌, ◌-◌, ◌<◌, ◌≤◌, Bool, true, false, not, cond, List, Option, Some, None, slice_index_or, refl, sym, ap, ◌∙◌, arith, subst, inl, inr}
use Rattle.std.specs.Prelude.{◌==◌, ◌&&◌}
use Rattle.mp_records.specs.declared.wire_record.WireRecord.{WireRecord}
use Rattle.mp_netlist.specs.declared.driver.Driver.TheVariants.{Nothing}
use Rattle.mp_netlist.specs.Circuit.{Circuit, IsCircuit, Drives, wire_at, stimulus_at}
use Rattle.mp_netlist.specs.Drivers.{driver, stimulus_driver}
use Rattle.mp_netlist.proofs.DriverLemmas.{driven_by}
use Rattle.mp_model.specs.Waves.{level}
use Rattle.mp_modules.specs.automata.Codes.{bit}
use Rattle.mp_kernel.specs.events.Adding.{listed}
use Rattle.mp_simulation.specs.bits.Changes.{change_at}
use Rattle.mp_simulation.specs.bits.WholeRuns.{is_stimulus}
use Rattle.mp_simulation.proofs.lemmas.bits.WholeLemmas.{undriven}
use Rattle.mp_simulation.specs.units.DataLevels.{is_data}
use Rattle.mp_simulation.specs.declared.run.stimuli.StimulusChange.{StimulusChange}
use Rattle.mp_partition.specs.runs.Marks.{is_marked}
use Rattle.mp_partition.specs.regions.Regions.{partition_of, region}
use Rattle.mp_partition.specs.regions.Divisions.{heard_by, IsDivision}
use Rattle.mp_partition.proofs.lemmas.regions.DivisionLemmas.{divided_apart, divided_closed}
use Rattle.mp_partition.proofs.lemmas.regions.PartLemmas.{heard_driver, region_level}
use Rattle.mp_partition.proofs.lemmas.regions.RegionLemmas.{has_stimuli}
use Rattle.mp_engine.specs.messages.Messages.{AreTold, IsToldOnce}
use Rattle.mp_engine.specs.region_runs.RegionRuns.{AreTidings, is_set}
use Rattle.mp_engine.proofs.lemmas.region_runs.OwnStimuliLemmas.{by_width}

none_heard : (a b c : Bool) (l : ℕ) → c ≡ false → cond (a && c) l 0 ≡ bit (b && c)
none_heard true true c l is = ap (λ x. cond x l 0) is ∙ sym (ap bit is)
none_heard true false c l is = ap (λ x. cond x l 0) is
none_heard false true c l is = sym (ap bit is)
none_heard false false c l is = refl

some_heard : (a b c : Bool) → b ≡ true → c ≡ true → (l : ℕ) → (a ≡ true → l ≡ 1) → cond (a && c) l 0 ≡ bit ((a && b) && c)
some_heard true b c is_b is_c l one = ap (λ x. cond x l 0) is_c ∙ one refl ∙ sym (ap (λ x. bit (x && c)) is_b ∙ ap bit is_c)
some_heard false b c is_b is_c l one = refl

module _ (n : Circuit) (ok : IsCircuit n) (homes wires : List ℕ) (heards : List (List Bool)) (parts : ℕ) (is : IsDivision n homes wires heards parts) (part : ℕ) where
  abbrev heard : List Bool
  heard = heard_by heards part

  abbrev r : Circuit
  r = region n homes part (heard_by heards part)

  same_level : (w u : ℕ) → is_marked (heard_by heards part) w ≡ true → u < n.horizon → level (region n homes part (heard_by heards part)) w u ≡ level n w u
  same_level w u marked low = region_level n ok homes part (heard_by heards part) (divided_apart n homes wires heards parts part is) (divided_closed n homes wires heards parts part is) w u (inl marked) low

  same_change : (w u : ℕ) → is_marked (heard_by heards part) w ≡ true → u < n.horizon → change_at (region n homes part (heard_by heards part)) w u ≡ change_at n w u
  same_change w u marked low =
      ap (λ v. not (v == level r w u)) (same_level w (u - 1) marked (omega (arith, low)))
      ∙ ap (λ v. not (level n w (u - 1) == v)) (same_level w u marked low)

  set_there : (w : ℕ) (slot : Option WireRecord) → wire_at n w ≡ slot → is_marked (heard_by heards part) w ≡ true → is_stimulus (driver (region n homes part (heard_by heards part)) w) ≡ true
  set_there w None none marked = absurd (let some = (is.heard part w marked).stands in let no : ⊥ = cc in no)
  set_there w (Some record_of) stands marked = ap is_stimulus (heard_driver n ok homes part (heard_by heards part) (divided_apart n homes wires heards parts part is) w record_of marked stands)

  once : (bys : List ℕ) (w u : ℕ) → IsToldOnce n wires (heard_by heards part) bys → is_marked (heard_by heards part) w ≡ true → change_at n w u ≡ true → listed (partition_of wires w) bys ≡ 1
  once bys w u told marked change = by (driven_by n w)
    where
      by : ((m p : ℕ) × Drives n m p w) ⊎ (driver n w ≡ stimulus_driver (stimulus_at n w)) → listed (partition_of wires w) bys ≡ 1
      by (inl found) = told found.0 found.1 w found.2 marked
      by (inr none) =
          let nothing : driver n w ≡ Nothing = none ∙ ap stimulus_driver (is.heard part w marked).unset in
          let still : change_at n w u ≡ false = undriven n ok w u nothing in
          absurd (let no : ⊥ = cc in no)

  same_data : (w : ℕ) → is_data n w ≡ is_data (region n homes part (heard_by heards part)) w
  same_data w = sym (by_width (wire_at r w) (wire_at n w) ((has_stimuli n homes part (heard_by heards part)).widths w))

  pub tidings_are : (bys : List ℕ) (t until : ℕ) (ss : List StimulusChange) → until ≤ n.horizon → IsToldOnce n wires (heard_by heards part) bys
      → AreTold n wires (heard_by heards part) bys (record { from = t + 1; until = until }) ss → AreTidings (region n homes part (heard_by heards part)) (is_marked (heard_by heards part)) t until ss
  tidings_are bys t until ss low told are = record {
    later = λ k d within. let from = are.later k d within in omega (arith, from);
    each = λ w u later before. are.each w u (omega (arith, later)) before ∙ by w u before (is_marked (heard_by heards part) w) refl;
    set = λ k d within.
        let x = slice_index_or ss k d in
        let setting = are.set k d within in
        let before = are.before k d within in
        record {
          sort = setting.sort ∙ same_data x.wire;
          level = λ has. setting.level has ∙ sym (same_level x.wire x.time (are.heard_alone k d within) (omega (arith, before, low)));
        };
  }
    where
      by : (w u : ℕ) → u < until → (mark : Bool) → is_marked (heard_by heards part) w ≡ mark →
          cond (change_at n w u && is_marked (heard_by heards part) w) (listed (partition_of wires w) bys) 0 ≡ bit (is_set (region n homes part (heard_by heards part)) (is_marked (heard_by heards part)) w u)
      by w u before true marked =
          some_heard (change_at n w u) (is_stimulus (driver r w)) (is_marked heard w) (set_there w (wire_at n w) refl marked) marked (listed (partition_of wires w) bys) (once bys w u told marked)
          ∙ ap (λ c. bit ((c && is_stimulus (driver r w)) && is_marked heard w)) (sym (same_change w u marked (omega (arith, before, low))))
      by w u before false marked = none_heard (change_at n w u) (change_at r w u && is_stimulus (driver r w)) (is_marked heard w) (listed (partition_of wires w) bys) marked

-- what holds of what messages are about holds of the netlist as it is divided, and the other way round
pub renamed : {n m : Circuit} {ws vs : List ℕ} {hs gs : List (List Bool)} {p q : ℕ} → n ≡ m → ws ≡ vs → hs ≡ gs → p ≡ q → (P : Circuit → List ℕ → List (List Bool) → ℕ → Type 0) → P n ws hs p → P m vs gs q
renamed {n} {m} {ws} {vs} {hs} {gs} {p} {q} netlist wires heards part P is =
    subst (λ k. P m vs gs k) part (subst (λ (h : List (List Bool)). P m vs h p) heards (subst (λ (w : List ℕ). P m w hs p) wires (subst (λ (c : Circuit). P c ws hs p) netlist is)))
