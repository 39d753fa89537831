-- What mailboxes were asked for.
use Rattle.std.specs.Prelude.{◌≡◌, ℕ, ◌<◌, List, [], ◌∷◌, ◌++◌, Option, Some, None, length, slice_index_or}
use Rattle.crossbeam_channel.specs.Claims.{Pass, view}
use Rattle.mp_phase.specs.declared.now.Now.{Now}
use Rattle.mp_phase.specs.declared.now.Now.TheVariants.{Free, Out, Here}
use Rattle.mp_phase.specs.declared.side.Side.{Side}
use Rattle.mp_phase.specs.declared.side.Side.TheVariants.{Idle, Asks, Owes, Spent}

-- what a pass knows
abbrev pub side_of : {T X : Type 0} → Pass X (Side T) → Side T
side_of token = view token

module _ {T : Type 0} where
  -- the tasks that a pass asks for
  abbrev pub asked_by : Side T → Option (List T)
  asked_by Idle = None
  asked_by (Asks tasks) = Some tasks
  asked_by (Owes tasks) = None
  asked_by Spent = None

  -- the tasks that were asked for and aren't answered
  abbrev pub asked_of : {S : Type 0} → (S → List T) → Now S → Side T → Option (List T)
  asked_of tasks Free side = None
  asked_of tasks Out side = asked_by side
  asked_of tasks (Here leave) side = Some (tasks leave)

  abbrev pub IsLine : {S : Type 0} → Now S → Side T → Type 0
  IsLine Free side = side ≡ Idle
  IsLine Out side = (tasks : List T) × (side ≡ Asks tasks)
  IsLine (Here leave) side = side ≡ Idle

  -- the tasks of a mailbox
  abbrev pub tasks_of : Option (List T) → List T
  tasks_of None = []
  tasks_of (Some tasks) = tasks

  -- the tasks of all mailboxes, in the mailboxes' order
  abbrev pub all_asked : List (Option (List T)) → List T
  all_asked [] = []
  all_asked (mailbox ∷ mailboxes) = tasks_of mailbox ++ all_asked mailboxes

  -- no mailbox was asked for anything
  abbrev pub AreFree : List (Option (List T)) → Type 0
  AreFree mailboxes = (k : ℕ) (d : Option (List T)) → k < length mailboxes → slice_index_or mailboxes k d ≡ None
