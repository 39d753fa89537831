-- What tasks of parts give.
use Rattle.std.proofs.Common.{ℕ, Bool, List, [], ◌∷◌, slice_index_or, Option, Some, None, IfSome, Result, Ok, Err, IfOk, subst, ◌∙◌, arith}
use Rattle.mp_netlist.specs.Circuit.{Circuit}
use Rattle.mp_partition.specs.regions.Regions.{region}
use Rattle.mp_phase.specs.Phase.{AreDone}
use Rattle.mp_phase.proofs.PhaseLemmas.{are_done-length, are_done-at}
use Rattle.mp_partition.specs.declared.merging.part_run.PartRun.{PartRun}
use Rattle.mp_partition.specs.merging.PartRuns.{IsPartRun, AreRuns}
use Rattle.mp_engine.specs.declared.lone_part.LonePart.{LonePart}
use Rattle.mp_engine.specs.Parts.{AreParts}

pub if_ok : {T E : Type 0} (r : Result T E) (P Q : T → Type 0) → ((x : T) → P x → Q x) → IfOk r P → IfOk r Q
if_ok (Ok value) P Q f holds = f value holds
if_ok (Err error) P Q f holds = tt

pub if_some : {T : Type 0} (o : Option T) (P Q : T → Type 0) → ((x : T) → P x → Q x) → IfSome o P → IfSome o Q
if_some (Some value) P Q f holds = f value holds
if_some None P Q f holds = tt

-- the tasks of all parts give what all parts give
pub runs_are : (n : Circuit) (homes : List ℕ) (parts : ℕ) (keeps : Bool) (tasks : List LonePart) (runs : List PartRun) → AreParts n homes parts keeps tasks → AreDone (λ (part : LonePart) (run : PartRun). IsPartRun part.region part.keeps run) tasks runs → AreRuns n homes [] parts keeps runs
runs_are n homes parts keeps [] runs are done = record {
  places = are_done-length (λ (part : LonePart) (run : PartRun). IsPartRun part.region part.keeps run) [] runs done ∙ are.places;
  each = λ k d low. absurd (let places = are.places in let no : ⊥ = omega (arith, places, low) in no);
}
runs_are n homes parts keeps (t ∷ ts) runs are done = record {
  places = are_done-length (λ (part : LonePart) (run : PartRun). IsPartRun part.region part.keeps run) (t ∷ ts) runs done ∙ are.places;
  each = λ k d low.
      subst (λ b. IsPartRun (region n homes k []) b (slice_index_or runs k d)) (are.same k t low)
      (subst (λ r. IsPartRun r (slice_index_or (t ∷ ts) k t).keeps (slice_index_or runs k d)) (are.each k t low)
      (are_done-at (λ (part : LonePart) (run : PartRun). IsPartRun part.region part.keeps run) (t ∷ ts) runs k t d done (let places = are.places in omega (arith, places, low))));
}
