-- What is made of the parts of a list of tasks, put together.
use Rattle.std.proofs.Common.{◌≡◌, ℕ, zero, suc, ◌<◌, List, [], ◌∷◌, ◌++◌, length, slice_index_or, refl, ap, arith}
use Rattle.mp_phase.specs.Phase.{AreDone}

module _ {T D : Type 0} (gives : T → D → Type 0) where
  pub are_done-append : (xs ys : List T) (ds bs : List D) → AreDone gives xs ds → AreDone gives ys bs → AreDone gives (xs ++ ys) (ds ++ bs)
  are_done-append [] ys [] bs a b = b
  are_done-append [] ys (d ∷ ds) bs a b = absurd a
  are_done-append (x ∷ xs) ys [] bs a b = absurd a
  are_done-append (x ∷ xs) ys (d ∷ ds) bs a b = (a.0, are_done-append xs ys ds bs a.1 b)

  -- one more task
  pub are_done-push : (xs : List T) (y : T) (ds new : List D) (b : D) → new ≡ ds ++ b ∷ [] → AreDone gives xs ds → gives y b → AreDone gives (xs ++ y ∷ []) new
  are_done-push xs y ds new b is a here = rw is (are_done-append xs (y ∷ []) ds (b ∷ []) a (here, tt))

  -- there are as many answers as tasks
  pub are_done-length : (tasks : List T) (dones : List D) → AreDone gives tasks dones → length dones ≡ length tasks
  are_done-length [] [] done = refl
  are_done-length [] (d ∷ dones) done = absurd done
  are_done-length (task ∷ tasks) [] done = absurd done
  are_done-length (task ∷ tasks) (d ∷ dones) done = ap suc (are_done-length tasks dones done.1)

  -- what is made of the task at a place
  pub are_done-at : (tasks : List T) (dones : List D) (k : ℕ) (task : T) (d : D) → AreDone gives tasks dones → k < length tasks → gives (slice_index_or tasks k task) (slice_index_or dones k d)
  are_done-at [] dones k task d done below = absurd (omega arith)
  are_done-at (x ∷ tasks) [] k task d done below = absurd done
  are_done-at (x ∷ tasks) (y ∷ dones) zero task d done below = done.0
  are_done-at (x ∷ tasks) (y ∷ dones) (suc k) task d done below = are_done-at tasks dones k task d done.1 (omega arith)
