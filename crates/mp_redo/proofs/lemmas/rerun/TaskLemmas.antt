-- What modules that become active within a block do, as tasks.
use Rattle.std.proofs.Common.{◌≡◌, ℕ, ◌+◌, ◌-◌, ◌<◌, List, [], ◌∷◌, ◌++◌, Some, IsSome, false, length, take, slice_index_or, sym, subst}
use Rattle.std.specs.List.{Contains}
use Rattle.std.proofs.lemmas.List.{take_more}
use Rattle.mp_records.specs.declared.ids.ModuleId.{ModuleId}
use Rattle.mp_records.specs.declared.module_record.ModuleRecord.{ModuleRecord}
use Rattle.mp_netlist.specs.Circuit.{Circuit, module_at}
use Rattle.mp_partition.specs.runs.Outcomes.{Outcome}
use Rattle.mp_phase.specs.Phase.{AreDone}
use Rattle.mp_phase.proofs.PhaseLemmas.{are_done-push, are_done-at}
use Rattle.mp_active.specs.excerpt.Numberings.{Numbering}
use Rattle.mp_redo.specs.declared.rerun.join.JoiningState.{JoiningState}
use Rattle.mp_redo.specs.declared.rerun.rerun.Rerun.{Rerun}
use Rattle.mp_redo.specs.rerun.Reruns.{active_of, IsFollowed}
use Rattle.mp_redo.specs.rerun.Tasks.{AreKept, IsJoiningState}
use Rattle.mp_redo.proofs.lemmas.rerun.WakingLemmas.{is_kept}
use Rattle.mp_redo.proofs.lemmas.rerun.StandingLemmas.{standing}

-- what is made of what is made of each
pub done_through : {A B C : Type 0} (first : A → B → Type 0) (second : B → C → Type 0) (both : A → C → Type 0) → ((x : A) (y : B) (z : C) → first x y → second y z → both x z)
    → (xs : List A) (ys : List B) (zs : List C) → AreDone first xs ys → AreDone second ys zs → AreDone both xs zs
done_through first second both f [] [] [] a b = tt
done_through first second both f [] [] (z ∷ zs) a b = absurd b
done_through first second both f [] (y ∷ ys) zs a b = absurd a
done_through first second both f (x ∷ xs) [] zs a b = absurd a
done_through first second both f (x ∷ xs) (y ∷ ys) [] a b = absurd b
done_through first second both f (x ∷ xs) (y ∷ ys) (z ∷ zs) a b = (f x y z a.0 b.0, done_through first second both f xs ys zs a.1 b.1)

-- one more of those that are listed
pub done_next : {B : Type 0} (gives : ModuleId → B → Type 0) (ids : List ModuleId) (i : ℕ) (xs new : List B) (x : B) → i < length ids → new ≡ xs ++ x ∷ [] → AreDone gives (take i ids) xs → gives (slice_index_or ids i (record { 0 = 0 })) x
    → AreDone gives (take (i + 1) ids) new
done_next gives ids i xs new x low is are here =
    let d : ModuleId = record { 0 = 0 } in
    subst (λ ys. AreDone gives ys new) (sym (take_more ids i d low)) (are_done-push gives (take i ids) (slice_index_or ids i d) xs new x is are here)

-- modules that stand and aren't active are kept
pub are_kept : (old new : Circuit) (run : Outcome) (numbering : Numbering) (since : ℕ → ℕ) (time : ℕ) (s : Rerun) → 0 < time → IsFollowed old new run numbering since (time - 1) s → (ids : List ModuleId)
    → ((m : ℕ) → Contains ids (record { 0 = m }) → IsSome (module_at new m)) → ((m : ℕ) → Contains ids (record { 0 = m }) → active_of s m ≡ false) → AreKept old new ids
are_kept old new run numbering since time s some is ids stand asleep m has =
    let one = standing (module_at new m) (stand m has) in
    (one.0, is_kept old new run numbering since time m one.0 s some is one.1 (asleep m has))

-- the state at a module's place is its own
pub state_at : (old : Circuit) (time from to : ℕ) (ids : List ModuleId) (states : List JoiningState) (k : ℕ) (id : ModuleId) (state : JoiningState) → AreDone (IsJoiningState old time from to) ids states → k < length ids
    → slice_index_or ids k id ≡ id → slice_index_or states k state ≡ state → IsJoiningState old time from to id state
state_at old time from to ids states k id state are low named is =
    let here : IsJoiningState old time from to (slice_index_or ids k id) (slice_index_or states k state) = are_done-at (IsJoiningState old time from to) ids states k id state are low in
    subst (λ (x : JoiningState). IsJoiningState old time from to id x) is (subst (λ (i : ModuleId). IsJoiningState old time from to i (slice_index_or states k state)) named here)
