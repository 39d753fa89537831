-- Wires that modules outside of a region drive.
use Rattle.std.proofs.Common.{◌≡◌, ℕ, ◌+◌, ◌<◌, Bool, true, false, cond, List, [], ◌∷◌, ◌++◌, length, slice_index_or, refl, ap, sym, ◌∙◌, arith, inl, inr}
use Rattle.std.proofs.lemmas.Bool.{cases_eq}
use Rattle.std.proofs.lemmas.List.{get_or_append_left, get_or_default, get_or_push, length_push}
use Rattle.mp_records.specs.declared.ids.ModuleId.{ModuleId}
use Rattle.mp_netlist.specs.declared.driver.Driver.{Driver}
use Rattle.mp_netlist.specs.declared.driver.Driver.TheVariants.{Nothing, Stimulus, Port}
use Rattle.mp_netlist.specs.Circuit.{Circuit}
use Rattle.mp_netlist.specs.Drivers.{driver}
use Rattle.mp_partition.specs.runs.Marks.{is_marked}
use Rattle.mp_near.specs.region.Given.{AreGiven, is_outside}
use Rattle.mp_near.proofs.lemmas.reach.StandLemmas.{marked_within}

-- of the first so many wires it is noted whether a module drives them that isn't marked
pub record AreNoted (new : Circuit) (modules : List Bool) (numbers : List ℕ) (count : ℕ) (given : List Bool) : Type 0 where
  pub places : length given ≡ count
  pub each : (k d : ℕ) → k < count → is_marked given k ≡ is_outside modules (driver new (slice_index_or numbers k d))

pub noted_none : (new : Circuit) (modules : List Bool) (numbers : List ℕ) → AreNoted new modules numbers 0 []
noted_none new modules numbers = record { places = refl; each = λ k d low. absurd (omega arith) }

-- one wire more
pub noted_more : (new : Circuit) (modules : List Bool) (numbers : List ℕ) (i : ℕ) (given : List Bool) (b : Bool) (d : ℕ) → i < length numbers → b ≡ is_outside modules (driver new (slice_index_or numbers i d)) →
    AreNoted new modules numbers i given → AreNoted new modules numbers (i + 1) (given ++ b ∷ [])
noted_more new modules numbers i given b d inside is are = record {
  places = length_push given b ∙ ap (λ k. k + 1) are.places;
  each = λ k e low. elim (cases_eq k i) as (λ _. is_marked (given ++ b ∷ []) k ≡ is_outside modules (driver new (slice_index_or numbers k e))) [
    | inl here ↦
        ap (λ j. is_marked (given ++ b ∷ []) j) here ∙ get_or_push given b false i are.places ∙ is
        ∙ ap (λ w. is_outside modules (driver new w)) (get_or_default numbers i d e inside ∙ ap (λ j. slice_index_or numbers j e) (sym here))
    | inr other ↦ let size = are.places in get_or_append_left given (b ∷ []) false k (omega arith) ∙ are.each k e (omega arith)
  ];
}

free : (b : Bool) → cond b false true ≡ true → b ≡ false
free true is = cc
free false is = refl

taken : (b : Bool) → cond b false true ≡ false → b ≡ true
taken true not = refl
taken false not = cc

outside_at : (modules : List Bool) (found : Driver) → is_outside modules found ≡ true → (m : ModuleId) × (p : ℕ) × (found ≡ Port m p) × (is_marked modules m.0 ≡ false)
outside_at modules Nothing is = absurd (let no : ⊥ = cc in no)
outside_at modules Stimulus is = absurd (let no : ⊥ = cc in no)
outside_at modules (Port m p) is = (m, p, refl, free (is_marked modules m.0) is)

-- of all wires
pub are_given : (new : Circuit) (modules : List Bool) (numbers : List ℕ) (given : List Bool) → AreNoted new modules numbers (length numbers) given → AreGiven new modules numbers given
are_given new modules numbers given are = record {
  places = are.places;
  outside = λ k d marked.
      let low = marked_within given k marked in
      let places = are.places in
      outside_at modules (driver new (slice_index_or numbers k d)) (sym (are.each k d (omega (arith, low, places))) ∙ marked);
  inside = λ k d p m low not port.
      taken (is_marked modules m.0) (sym (are.each k d low ∙ ap (is_outside modules) port) ∙ not);
}
