-- A netlist that is evaluated again goes from window to window.
use Rattle.std.proofs.Common.{◌≡◌, ◌⊎◌, ℕ, ◌+◌, ◌-◌, ◌%◌, ◌<◌, ◌≤◌, Bool, true, false, List, [], ◌∷◌, IsSome, suc, refl, ap, sym, subst, ◌∙◌, arith, inl, inr, Vec, Global}
use Rattle.std.specs.List.{Contains}
use Rattle.std.proofs.lemmas.Bool.{cases_Bool, cases_eq, cases_lt, both_ways}
use Rattle.std.proofs.lemmas.Nat.{mod_below}
use Rattle.mp_records.specs.declared.ids.ModuleId.{ModuleId}
use Rattle.mp_netlist.specs.Circuit.{Circuit, IsCircuit, module_at}
use Rattle.mp_netlist.specs.Delays.{least_delay}
use Rattle.mp_netlist.specs.Limits.{checkpoint_units}
use Rattle.mp_netlist.proofs.LimitLemmas.{units_positive}
use Rattle.mp_partition.specs.runs.Checkpoints.{IsBorder}
use Rattle.mp_partition.specs.runs.Outcomes.{Outcome}
use Rattle.mp_partition.proofs.lemmas.runs.MarkLemmas.{none_in, contains_cons}
use Rattle.mp_active.proofs.lemmas.agreement.RestingLemmas.{sleepers_rest}
use Rattle.mp_depend.specs.work.Revisions.{IsRevision}
use Rattle.mp_depend.specs.work.Merges.{end_of_window}
use Rattle.mp_depend.specs.work.Work.{block_of, window_of, window_end, IsWindow}
use Rattle.mp_partition.proofs.lemmas.runs.MultipleLemmas.{rest_le}
use Rattle.mp_depend.proofs.lemmas.work.WindowLemmas.{window_within, window_cover, windows_apart, in_block, same_block}
use Rattle.mp_depend.specs.declared.recording.rerun_recorder.RerunRecorder.{RerunRecorder}
use Rattle.mp_depend.specs.recording.Recorders.{IsRecorder}
use Rattle.mp_depend.specs.recording.Live.{IsWorking, AreAtWork, JoinInWindow}
use Rattle.mp_redo.specs.declared.rerun.rerun.Rerun.{Rerun}
use Rattle.mp_redo.specs.rerun.Reruns.{active_of}
use Rattle.mp_redo.specs.rerun.Windows.{IsInWindow, IsAtWindow}
use Rattle.mp_redo.proofs.lemmas.rerun.KeptLemmas.{renewed, rerun_renewed}
use Rattle.mp_redo.proofs.lemmas.rerun.StandingLemmas.{standing}

-- ---- windows

-- where a window ends below the horizon the next one begins
pub next_window : (n : Circuit) → IsCircuit n → (from to : ℕ) → IsWindow n from to → to < n.horizon → window_of n to ≡ to
next_window n ok from to window below = elim (cases_lt from start) as (λ _. start ≡ to) [
  | inl later ↦ let apart = windows_apart n ok from to start (window_end n start) window cover.0 later in let first = cover.1 in omega (arith, apart, first)
  | inr not ↦ elim (cases_lt start from) as (λ _. start ≡ to) [
    | inl less ↦
        let apart = windows_apart n ok start (window_end n start) from to cover.0 window less in
        let last = cover.2 in
        absurd (let no : ⊥ = omega (arith, apart, last, within) in no)
    | inr more ↦
        let same : start ≡ from = omega (arith, not, more) in
        let last : to < window_end n from = subst (λ (k : ℕ). to < window_end n k) same cover.2 in
        let no : ⊥ = let ends : to ≡ window_end n from = window.ends in itself to (subst (λ (k : ℕ). to < k) (sym ends) last) in
        absurd no
  ]
]
  where
    start : ℕ
    start = window_of n to

    cover : IsWindow n start (window_end n start) × (start ≤ to) × (to < window_end n start)
    cover = window_cover n ok to below

    within : from < to
    within = (window_within n ok from to window).1

    itself : (k : ℕ) → k < k → ⊥
    itself k low = omega (arith, low)

-- where a window ends, told by the least delay and the horizon
pub end_is : (n : Circuit) (least horizon time end : ℕ) → end ≡ end_of_window least horizon time → horizon ≡ n.horizon → least ≡ least_delay n → end ≡ window_end n time
end_is n least horizon time end is last first = is ∙ ap (λ d. end_of_window d horizon time) first ∙ ap (λ h. end_of_window (least_delay n) h time) last

-- a border below the horizon begins its own block
pub border_block : (horizon time : ℕ) → IsBorder horizon time → block_of horizon time ≡ time
border_block horizon time border = omega (arith, border)

-- and any other time is in the block of the time before
pub inner_block : (horizon time : ℕ) → (IsBorder horizon time → ⊥) → 0 < time → block_of horizon (time - 1) ≡ block_of horizon time
inner_block horizon time not some =
    let units = checkpoint_units horizon in
    let rest : time % units < units = mod_below time units (units_positive horizon) in
    let low : time % units ≤ time = rest_le time units in
    let more : 0 < time % units = positive (time % units) not in
    in_block horizon time (time - 1) (omega (arith, more, low)) (omega (arith, rest, low, some))
  where
    positive : (k : ℕ) → (k ≡ 0 → ⊥) → 0 < k
    positive k is = elim (cases_eq k 0) as (λ _. 0 < k) [ inl zero ↦ absurd (is zero) | inr other ↦ omega (arith, other) ]

-- ---- who is at work

-- a list has a module or not
pub is_listed : (m : ℕ) (ids : List ModuleId) → Contains ids (record { 0 = m }) ⊎ (Contains ids (record { 0 = m }) → ⊥)
is_listed m [] = inr (λ has. none_in (let id : ModuleId = record { 0 = m } in id) has)
is_listed m (id ∷ ids) = elim (cases_eq id.0 m) as (λ _. Contains (id ∷ ids) (record { 0 = m }) ⊎ (Contains (id ∷ ids) (record { 0 = m }) → ⊥)) [
  | inl same ↦ inl (0, omega arith, ap (λ (k : ℕ). let x : ModuleId = record { 0 = k } in x) same)
  | inr other ↦ elim (is_listed m ids) as (λ _. Contains (id ∷ ids) (record { 0 = m }) ⊎ (Contains (id ∷ ids) (record { 0 = m }) → ⊥)) [
    | inl there ↦ inl (suc there.0, omega (arith, there.1), there.2)
    | inr none ↦ inr (λ has. elim (contains_cons id (record { 0 = m }) ids has) as (λ _. ⊥) [
      | inl same ↦ other (ap (λ (x : ModuleId). x.0) same)
      | inr there ↦ none there
    ])
  ]
]

-- who works before a time works before a later one
working_on : (old new : Circuit) (c m t u : ℕ) → t ≤ u → IsWorking old new c m t → IsWorking old new c m u
working_on old new c m t u le (inl touched) = inl touched
working_on old new c m t u le (inr (inl differs)) = inr (inl differs)
working_on old new c m t u le (inr (inr apart)) = let low = apart.2 in inr (inr (apart.0, apart.1, omega (arith, low, le), apart.3))

module _ (old new : Circuit) (old_ok : IsCircuit old) (new_ok : IsCircuit new) (revised : IsRevision old new) (run : Outcome) where
  module _ (from t : ℕ) (s : Rerun) (is : IsInWindow old new run from t s) where
    abbrev c : ℕ
    c = block_of new.horizon from

    low : c ≤ from
    low = omega arith

    work_on : (m : ℕ) → IsSome (module_at new m) → active_of s m ≡ true → IsWorking old new c m (t + 1)
    work_on m stands on = elim (cases_Bool (is.live m)) as (λ _. IsWorking old new c m (t + 1)) [
      | inl live ↦ working_on old new c m from (t + 1) is.begun (is.work.works m stands live)
      | inr not ↦ elim (is_listed m s.activity.joined.items) as (λ _. IsWorking old new c m (t + 1)) [
        | inl has ↦ let apart = is.apart m has in let first = apart.1 in let last = apart.2 in inr (inr (apart.0, omega (arith, low, first), omega (arith, last), apart.3))
        | inr none ↦ let no : ⊥ = both_ways (is.live m) not (sym (is.joined.others m none) ∙ on) in absurd no
      ]
    ]

    rest_on : (m : ℕ) → IsSome (module_at new m) → active_of s m ≡ false → IsWorking old new c m (t + 1) → ⊥
    rest_on m stands off works =
        let r = standing (module_at new m) stands in
        let early = is.is.early m in
        let begun = is.begun in
        sleepers_rest old new old_ok new_ok revised (is.is.since m) t m c (t + 1) r.0 (is.is.is.followed.sleeping m r.0 r.1 off) (omega (arith, early)) (omega (arith, low, begun)) (omega arith) works

    -- at the end of the window
    pub work_after : AreAtWork old new (block_of new.horizon from) (t + 1) (active_of s)
    work_after = record { works = work_on; rests = rest_on }

    pub join_in : (time : ℕ) → t + 1 ≡ time → s.window_end ≡ time → JoinInWindow old new (block_of new.horizon from) from time s.activity.joined.items is.live (active_of s)
    join_in time next ends = record {
      form = new_ok;
      window = subst (IsWindow new from) ends is.window;
      block = refl;
      become = is.joined;
      before = is.work;
      after = subst (λ (to : ℕ). AreAtWork old new (block_of new.horizon from) to (active_of s)) next work_after;
    }

    pub window_over : (joined : Vec ModuleId Global) (recorder : RerunRecorder) → joined.items ≡ [] → IsRecorder old new run (λ m. block_of new.horizon from) (t + 1) (active_of s) recorder
        → IsAtWindow old new run (block_of new.horizon from) t (renewed s joined recorder s.window_end s.look_at)
    window_over joined recorder none kept = record {
      is = rerun_renewed old new run (block_of new.horizon from) (block_of new.horizon from) t s joined recorder s.window_end s.look_at (omega arith) is.is;
      unseen = is.unseen;
      touched = is.touched;
      none = none;
      work = work_after;
      recorder = kept;
    }

  -- a window ends: those that have joined are kept in the recorder
  pub window_ends : (from time : ℕ) (s : Rerun) (is : IsInWindow old new run from (time - 1) s) → 0 < time → s.window_end ≡ time → (block : ℕ) → block ≡ block_of new.horizon (time - 1)
      → (ids : List ModuleId) → ids ≡ s.activity.joined.items → (recorder : RerunRecorder)
      → ((first : Circuit) (start : ℕ) (live now : ℕ → Bool) → JoinInWindow first new block start time ids live now → IsRecorder first new run (λ m. block) start live s.recorder
      → IsRecorder first new run (λ m. block) time now recorder)
      → (joined : Vec ModuleId Global) → joined.items ≡ [] → IsAtWindow old new run (block_of new.horizon (time - 1)) (time - 1) (renewed s joined recorder s.window_end s.look_at)
  window_ends from time s is some ends block value ids all recorder opens joined none =
      subst (λ (b : ℕ). IsAtWindow old new run b (time - 1) (renewed s joined recorder s.window_end s.look_at)) (sym here) (window_over from (time - 1) s is joined recorder none kept)
    where
      next : time - 1 + 1 ≡ time
      next = omega (arith, some)

      window : IsWindow new from time
      window = subst (IsWindow new from) ends is.window

      here : block_of new.horizon (time - 1) ≡ block_of new.horizon from
      here = let within = window_within new new_ok from time window in same_block new.horizon from time within.1 within.2

      at : block ≡ block_of new.horizon from
      at = value ∙ here

      joins : JoinInWindow old new block from time ids is.live (active_of s)
      joins =
          subst (λ (xs : List ModuleId). JoinInWindow old new block from time xs is.live (active_of s)) (sym all)
          (subst (λ (b : ℕ). JoinInWindow old new b from time s.activity.joined.items is.live (active_of s)) (sym at) (join_in from (time - 1) s is time next ends))

      opened : IsRecorder old new run (λ m. block) time (active_of s) recorder
      opened = opens old from is.live (active_of s) joins (subst (λ (b : ℕ). IsRecorder old new run (λ m. b) from is.live s.recorder) (sym at) is.recorder)

      kept : IsRecorder old new run (λ m. block_of new.horizon from) (time - 1 + 1) (active_of s) recorder
      kept = subst (λ (t : ℕ). IsRecorder old new run (λ m. block_of new.horizon from) t (active_of s) recorder) (sym next)
          (subst (λ (b : ℕ). IsRecorder old new run (λ m. b) time (active_of s) recorder) at opened)

  -- a window begins
  pub window_begun : (time end : ℕ) (s : Rerun) → 0 < time → time < new.horizon → window_of new time ≡ time → end ≡ window_end new time → IsAtWindow old new run (block_of new.horizon time) (time - 1) s
      → IsInWindow old new run time (time - 1) (record s { window_end = end })
  window_begun time end s some below begins ends is = record {
    is = rerun_renewed old new run (block_of new.horizon time) (block_of new.horizon time) (time - 1) s s.activity.joined s.recorder end s.look_at (omega arith) is.is;
    unseen = is.unseen;
    touched = is.touched;
    window = window;
    begun = omega (arith, some);
    within = let later = (window_within new new_ok time end window).1 in omega (arith, later);
    live = active_of s;
    work = subst (λ (t : ℕ). AreAtWork old new (block_of new.horizon time) t (active_of s)) next is.work;
    recorder = subst (λ (t : ℕ). IsRecorder old new run (λ m. block_of new.horizon time) t (active_of s) s.recorder) next is.recorder;
    joined = record {
      stand = λ m has. absurd (none m has);
      stay = λ m on. on;
      join = λ m has. absurd (none m has);
      others = λ m not. refl;
    };
    apart = λ m has. absurd (none m has);
  }
    where
      next : time - 1 + 1 ≡ time
      next = omega (arith, some)

      window : IsWindow new time end
      window = record { below = below; begins = begins; ends = ends }

      none : (m : ℕ) → Contains s.activity.joined.items (record { 0 = m }) → ⊥
      none m has = none_in (let id : ModuleId = record { 0 = m } in id) (subst (λ (ids : List ModuleId). Contains ids (record { 0 = m })) is.none has)
