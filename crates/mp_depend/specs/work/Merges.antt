-- The entries of work spans of time, in order.
use Rattle.std.specs.Prelude.{◌≡◌, ◌⊎◌, ℕ, zero, suc, ◌+◌, ◌-◌, ◌%◌, ◌<◌, ◌≤◌, Bool, true, false, List, [], ◌∷◌, ◌++◌, nat_lt, ◌==◌, ◌&&◌, ◌||◌, if◌then◌else◌, min, sum_by}
use Rattle.mp_netlist.specs.Limits.{checkpoint_units}
use Rattle.mp_depend.specs.declared.work.work_entry.WorkEntry.{WorkEntry}
use Rattle.mp_depend.specs.declared.work.work_span.WorkSpan.{WorkSpan}

-- where the window ends that begins at a time, for a least delay and a horizon
abbrev pub end_of_window : ℕ → ℕ → ℕ → ℕ
end_of_window least horizon t = min (t + least) (min (t - t % checkpoint_units horizon + checkpoint_units horizon) horizon)

-- a work span has some time before its first end, and ends by the horizon
pub record IsWorkSpan (horizon : ℕ) (s : WorkSpan) : Type 0 where
  pub begins : s.from < s.first_end
  pub ends : s.last_end ≤ horizon

-- the first entry of a work span
abbrev pub first_entry : WorkSpan → WorkEntry
first_entry s = record { «module» = s.«module»; from = s.from; to = s.first_end }

-- what is left of a work span behind its first entry: it goes on with a window
abbrev pub rest_of : ℕ → ℕ → WorkSpan → List WorkSpan
rest_of least horizon s =
    if nat_lt s.first_end s.last_end
    then record { «module» = s.«module»; from = s.first_end; first_end = end_of_window least horizon s.first_end; last_end = s.last_end } ∷ []
    else []

-- the first entry of the one work span comes before that of the other
abbrev pub is_sooner : WorkSpan → WorkSpan → Bool
is_sooner s t = nat_lt s.first_end t.first_end || (s.first_end == t.first_end && nat_lt s.«module».0 t.«module».0)

-- the entries of work spans that have begun and of work spans that wait, both in order: at each step the first entry of the one that is sooner
unfoldable pub merged : ℕ → ℕ → ℕ → List WorkSpan → List WorkSpan → List WorkEntry
merged least horizon zero begun waiting = []
merged least horizon (suc steps) [] [] = []
merged least horizon (suc steps) [] (t ∷ waiting) = first_entry t ∷ merged least horizon steps (rest_of least horizon t) waiting
merged least horizon (suc steps) (s ∷ begun) [] = first_entry s ∷ merged least horizon steps (begun ++ rest_of least horizon s) []
merged least horizon (suc steps) (s ∷ begun) (t ∷ waiting) =
    if is_sooner t s then first_entry t ∷ merged least horizon steps ((s ∷ begun) ++ rest_of least horizon t) waiting
    else first_entry s ∷ merged least horizon steps (begun ++ rest_of least horizon s) (t ∷ waiting)

-- how many entries work spans have at most
abbrev pub most_entries : List WorkSpan → ℕ
most_entries work_spans = sum_by (λ (s : WorkSpan). s.last_end - s.from + 1) work_spans

-- all entries of work spans that have begun and of work spans that wait
abbrev pub entries_left : ℕ → ℕ → List WorkSpan → List WorkSpan → List WorkEntry
entries_left least horizon begun waiting = merged least horizon (most_entries begun + most_entries waiting) begun waiting

-- the next one is the first of those that wait
abbrev pub takes_waiting : List WorkSpan → List WorkSpan → Bool
takes_waiting begun [] = false
takes_waiting [] (t ∷ waiting) = true
takes_waiting (s ∷ begun) (t ∷ waiting) = is_sooner t s

-- the work span whose entry is next was taken from where it stood first, and the others stay
abbrev pub Takes : List WorkSpan → List WorkSpan → WorkSpan → List WorkSpan → List WorkSpan → Type 0
Takes begun waiting s later others =
    ((takes_waiting begun waiting ≡ false) × (begun ≡ s ∷ later) × (others ≡ waiting))
    ⊎ ((takes_waiting begun waiting ≡ true) × (waiting ≡ s ∷ others) × (later ≡ begun))
