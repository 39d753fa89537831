-- The states that a run of a whole netlist keeps, module by module.
use Rattle.std.proofs.Common.{◌≡◌, ℕ, suc, ◌+◌, ◌-◌, ◌<◌, ◌≤◌, Bool, true, false, cond, List, [], ◌∷◌, Option, Some, None, option_map, length, slice_set, refl, ap, sym, subst, ◌∙◌, arith, inl, inr}
use Rattle.std.specs.Prelude.{All, ◌==◌}
use Rattle.std.specs.List.{Contains}
use Rattle.std.proofs.lemmas.Bool.{cases_eq, cases_lt, ne_eqb, false_from_ne_true}
use Rattle.std.proofs.lemmas.List.{get_or-set_same, get_or-set_other, get_or_past}
use Rattle.std.proofs.lemmas.List.Sums.{sum_by-cons}
use Rattle.std.proofs.lemmas.List.Elements.{All-weaker, All-nil, All-cons}
use Rattle.std.proofs.Math.ListN.{length-set}
use Rattle.mp_modules.specs.declared.memory.Memory.{Memory}
use Rattle.mp_modules.specs.Memories.{blank}
use Rattle.mp_modules.specs.storage.AnyModules.{start}
use Rattle.mp_records.specs.declared.ids.ModuleId.{ModuleId}
use Rattle.mp_records.specs.declared.module_record.ModuleRecord.{ModuleRecord}
use Rattle.mp_netlist.specs.Circuit.{Circuit, module_at}
use Rattle.mp_model.specs.Levels.{built}
use Rattle.mp_model.specs.Waves.{state}
use Rattle.mp_model.proofs.SlotLemmas.{slot_within}
use Rattle.mp_kernel.specs.events.Adding.{listed}
use Rattle.mp_partition.specs.declared.runs.checkpoint.Checkpoint.{Checkpoint}
use Rattle.mp_partition.specs.runs.Checkpoints.{kept_at, state_before, IsBorder, KeepsFrom}
use Rattle.mp_partition.specs.runs.Marks.{is_marked, AreListed, AreAdded}
use Rattle.mp_partition.specs.runs.Outcomes.{AreSlots}
use Rattle.mp_partition.specs.runs.Runs.{AreCheckpoints}
use Rattle.mp_partition.proofs.lemmas.runs.KeepLemmas.{kept_at-last}
use Rattle.mp_partition.proofs.lemmas.runs.MarkLemmas.{contains_one}
use Rattle.mp_partition.proofs.lemmas.runs.OutcomeLemmas.{slot_is, no_module}
use Rattle.mp_engine.specs.region_runs.StateHistories.{kept_of, id_of, ids_of, first_kept, IsKept, AreKept, AreFirst, HasHistory, HasMarked, IsHistory}
use Rattle.mp_engine.specs.declared.region_runs.state_history.StateHistory.{StateHistory}

-- ---- marks

pub none_listed : (marks : List Bool) (list : List ModuleId) → ((m : ℕ) → is_marked marks m ≡ false) → AreListed marks list
none_listed marks list none m is = let not = none m in let no : ⊥ = cc in absurd no

-- one module more is marked
pub one_marked : (m : ℕ) (marks new : List Bool) (list more : List ModuleId) → m < length marks → AreAdded (id_of m ∷ []) marks new list more → ((k : ℕ) → k < m → is_marked marks k ≡ true) →
    (k : ℕ) → k < m + 1 → is_marked new k ≡ true
one_marked m marks new list more within added before k low = elim (cases_eq k m) as (λ _. is_marked new k ≡ true) [
  | inl same ↦ subst (λ j. is_marked new j ≡ true) (sym same) (added.told m within (contains_one (id_of m)))
  | inr other ↦ added.kept k (before k (omega (arith, low, other)))
]

further : (m : ℕ) (x : ℕ) (xs : List ℕ) → Contains (ids_of xs) (id_of m) → Contains (ids_of (x ∷ xs)) (id_of m)
further m x xs (k, within, at) = (suc k, omega (arith, within), at)

listed_cons : (m x : ℕ) (xs : List ℕ) → listed m (x ∷ xs) ≡ cond (x == m) 1 0 + listed m xs
listed_cons m x xs = sum_by-cons (λ d. cond (d == m) 1 0) x xs

-- a number that isn't among some
not_listed : (m : ℕ) (xs : List ℕ) → (Contains (ids_of xs) (id_of m) → ⊥) → listed m xs ≡ 0
not_listed m [] none = refl
not_listed m (x ∷ xs) none = elim (cases_eq x m) as (λ _. listed m (x ∷ xs) ≡ 0) [
  | inl same ↦ absurd (none (0, omega arith, ap id_of same))
  | inr other ↦
      let rest = not_listed m xs (λ has. none (further m x xs has)) in
      let sum : cond false 1 0 + listed m xs ≡ 0 = omega (arith, rest) in
      listed_cons m x xs ∙ ap (λ b. cond b 1 0 + listed m xs) (ne_eqb x m other) ∙ sum
]

-- ---- times

later_times : (b : ℕ) (ks : List Checkpoint) → All (λ (k : Checkpoint). k.time ≤ b) ks → All (λ (k : Checkpoint). k.time ≤ b + 1) ks
later_times b ks times = All-weaker (λ (k : Checkpoint). k.time ≤ b) (λ (k : Checkpoint). k.time ≤ b + 1) (λ k le. omega (arith, le)) ks times

before_is : (n : Circuit) (m : ℕ) (r : ModuleRecord) (t b : ℕ) → t + 1 ≡ b → state_before n m r b ≡ state n m t
before_is n m r t b next =
    let same : suc t ≡ b = omega arith in
    subst (λ k. state_before n m r k ≡ state n m t) same refl

-- ---- the first states, where all modules are marked

first_times : (n : Circuit) (slot : Option ModuleRecord) → All (λ (k : Checkpoint). k.time ≤ 1) (first_kept n slot)
first_times n None = All-nil (λ (k : Checkpoint). k.time ≤ 1)
first_times n (Some r) = All-cons (λ (k : Checkpoint). k.time ≤ 1) (record { time = 0; memory = start (built n r) }) [] (omega arith) (All-nil (λ (k : Checkpoint). k.time ≤ 1))

pub first_history : (n : Circuit) (marks : List Bool) (kept : List (List Checkpoint)) → length marks ≡ length n.modules → ((k : ℕ) → k < length n.modules → is_marked marks k ≡ true) →
    AreFirst n (length n.modules) kept → AreKept n 1 0 marks kept
first_history n marks kept size marked first = record {
  mark_places = size;
  places = first.places;
  times = λ m. elim (cases_lt m (length n.modules)) as (λ _. All (λ (k : Checkpoint). k.time ≤ 1) (kept_of kept m)) [
    | inl low ↦ subst (λ (xs : List Checkpoint). All (λ k. k.time ≤ 1) xs) (sym (first.each m low)) (first_times n (module_at n m))
    | inr past ↦
        subst (λ (xs : List Checkpoint). All (λ k. k.time ≤ 1) xs) (sym (get_or_past kept m [] (let places = first.places in omega (arith, past, places))))
        (All-nil (λ (k : Checkpoint). k.time ≤ 1))
  ];
  each = λ m r at.
      let ks = first.each m (slot_within n.modules m r at) ∙ ap (first_kept n) at in
      record {
        known = λ c border low.
            let zero_is : 0 ≡ c = omega (arith, low) in
            subst (λ k. kept_at (kept_of kept m) k blank ≡ state_before n m r k) zero_is (ap (λ (xs : List Checkpoint). kept_at xs 0 blank) ks);
        last = λ not. let is = marked m (slot_within n.modules m r at) in let no : ⊥ = cc in absurd no;
      };
}

-- ---- a unit before which nothing is to be kept

pub between_borders : (n : Circuit) (b t : ℕ) (marks : List Bool) (kept : List (List Checkpoint)) → (IsBorder n.horizon b → ⊥) → AreKept n b t marks kept → AreKept n (b + 1) t marks kept
between_borders n b t marks kept not are = record {
  mark_places = are.mark_places;
  places = are.places;
  times = λ m. later_times b (kept_of kept m) (are.times m);
  each = λ m r at.
      let old = are.each m r at in
      record {
        known = λ c border low. elim (cases_eq c b) as (λ _. kept_at (kept_of kept m) c blank ≡ state_before n m r c) [
          | inl same ↦ absurd (not (subst (IsBorder n.horizon) same border))
          | inr other ↦ old.known c border (omega (arith, low, other))
        ];
        last = old.last;
      };
}

-- ---- a border

-- the state of one module more is kept
pub kept_more : (n : Circuit) (b t m : ℕ) (marks : List Bool) (kept : List (List Checkpoint)) (memory : Memory) (new : List Checkpoint) → t + 1 ≡ b → m < length n.modules →
    KeepsFrom (kept_of kept m) b memory new → ((r : ModuleRecord) → module_at n m ≡ Some r → memory ≡ state n m t) → AreKept n b t marks kept →
    AreKept n b t (slice_set marks m false) (slice_set kept m new)
kept_more n b t m marks kept memory new next within keeps own are = record {
  mark_places = length-set marks m false ∙ are.mark_places;
  places = length-set kept m new ∙ are.places;
  times = λ k. elim (cases_eq k m) as (λ _. All (λ (c : Checkpoint). c.time ≤ b) (kept_of (slice_set kept m new) k)) [
    | inl same ↦
        subst (λ j. All (λ (c : Checkpoint). c.time ≤ b) (kept_of (slice_set kept m new) j)) (sym same)
        (subst (λ (xs : List Checkpoint). All (λ c. c.time ≤ b) xs) (sym (get_or-set_same kept m new [] (let places = are.places in omega (arith, within, places)))) keeps.times)
    | inr other ↦ subst (λ (xs : List Checkpoint). All (λ c. c.time ≤ b) xs) (sym (get_or-set_other kept m k new [] other)) (are.times k)
  ];
  each = λ k r at. elim (cases_eq k m) as (λ _. IsKept n b t k r (is_marked (slice_set marks m false) k) (kept_of (slice_set kept m new) k)) [
    | inl same ↦
        subst (λ j. IsKept n b t j r (is_marked (slice_set marks m false) j) (kept_of (slice_set kept m new) j)) (sym same)
        (subst (IsKept n b t m r (is_marked (slice_set marks m false) m)) (sym (get_or-set_same kept m new [] (let places = are.places in omega (arith, within, places))))
        (here r (ap (module_at n) (sym same) ∙ at)))
    | inr other ↦
        subst (IsKept n b t k r (is_marked (slice_set marks m false) k)) (sym (get_or-set_other kept m k new [] other))
        (subst (λ mark. IsKept n b t k r mark (kept_of kept k)) (sym (get_or-set_other marks m k false false other)) (are.each k r at))
  ];
}
  where
    here : (r : ModuleRecord) → module_at n m ≡ Some r → IsKept n b t m r (is_marked (slice_set marks m false) m) new
    here r at = record {
      known = λ c border low. keeps.before c low ∙ (are.each m r at).known c border low;
      last = λ not. sym (kept_at-last new b b blank keeps.times (omega arith)) ∙ keeps.from b (omega arith) ∙ own r at;
    }

-- and then that of each
pub border_over : (n : Circuit) (b t : ℕ) (marks : List Bool) (kept : List (List Checkpoint)) → t + 1 ≡ b → ((m : ℕ) → is_marked marks m ≡ false) → AreKept n b t marks kept → AreKept n (b + 1) t marks kept
border_over n b t marks kept next none are = record {
  mark_places = are.mark_places;
  places = are.places;
  times = λ m. later_times b (kept_of kept m) (are.times m);
  each = λ m r at.
      let old = are.each m r at in
      let ks = kept_of kept m in
      record {
        known = λ c border low. elim (cases_eq c b) as (λ _. kept_at ks c blank ≡ state_before n m r c) [
          | inl same ↦
              subst (λ k. kept_at ks k blank ≡ state_before n m r k) (sym same)
              (kept_at-last ks b b blank (are.times m) (omega arith) ∙ old.last (none m) ∙ sym (before_is n m r t b next))
          | inr other ↦ old.known c border (omega (arith, low, other))
        ];
        last = old.last;
      };
}

-- ---- a unit, in which the modules that aren't due stay as they are

pub unit_over : (n : Circuit) (b t : ℕ) (marks new : List Bool) (list more : List ModuleId) (due : List ℕ) (kept : List (List Checkpoint)) → AreAdded (ids_of due) marks new list more →
    ((m : ℕ) (r : ModuleRecord) → module_at n m ≡ Some r → listed m due ≡ 0 → state n m (t + 1) ≡ state n m t) → AreKept n b t marks kept → AreKept n b (t + 1) new kept
unit_over n b t marks new list more due kept added rests are = record {
  mark_places = added.places ∙ are.mark_places;
  places = are.places;
  times = are.times;
  each = λ m r at.
      let old = are.each m r at in
      let within : m < length marks = (let low = slot_within n.modules m r at in let size = are.mark_places in omega (arith, low, size)) in
      record {
        known = old.known;
        last = λ not.
            let before : is_marked marks m ≡ false = false_from_ne_true (is_marked marks m) (λ is. let now = added.kept m is in let no : ⊥ = cc in no) in
            let idle : listed m due ≡ 0 = not_listed m due (λ has. let now = added.told m within has in let no : ⊥ = cc in no) in
            old.last before ∙ sym (rests m r at idle);
      };
}

-- the same, where states may be kept
pub history_over : (n : Circuit) (keeps : Bool) (b t : ℕ) (due : List ℕ) (old new : Option StateHistory) →
    ((m : ℕ) (r : ModuleRecord) → module_at n m ≡ Some r → listed m due ≡ 0 → state n m (t + 1) ≡ state n m t) → HasMarked due old new → IsHistory n keeps b t old → IsHistory n keeps b (t + 1) new
history_over n keeps b t due None None rests marked is = is
history_over n keeps b t due None (Some new) rests marked is = absurd marked
history_over n keeps b t due (Some old) None rests marked is = absurd marked
history_over n keeps b t due (Some old) (Some new) rests marked is = record {
  kept = subst (λ (kept : List (List Checkpoint)). AreKept n b (t + 1) new.marks.items kept) (sym marked.1)
      (unit_over n b t old.marks.items new.marks.items old.list.items new.list.items due old.kept.items marked.0 rests is.kept);
  listed = marked.0.listed is.listed;
}

pub has_history : (n : Circuit) (keeps : Bool) (b t : ℕ) (history : Option StateHistory) → IsHistory n keeps b t history → HasHistory n b t history
has_history n keeps b t None is = tt
has_history n keeps b t (Some h) is = is

-- ---- the end

pub checkpoints_are : (n : Circuit) (t : ℕ) (marks : List Bool) (kept : List (List Checkpoint)) (slots : List (Option (List Checkpoint))) →
    AreSlots (length n.modules) (λ m. option_map (λ (r : ModuleRecord). kept_of kept m) (module_at n m)) slots → AreKept n n.horizon t marks kept → AreCheckpoints n slots
checkpoints_are n t marks kept slots made are = record {
  places = made.places;
  each = λ m c border low.
      ap (option_map (λ ks. kept_at ks c blank)) (slot_is (length n.modules) (λ k. option_map (λ (r : ModuleRecord). kept_of kept k) (module_at n k)) slots
      (λ k past. no_module n (λ (r : ModuleRecord). kept_of kept k) k past) made m)
      ∙ by m c border low (module_at n m) refl;
}
  where
    by : (m c : ℕ) → IsBorder n.horizon c → c < n.horizon → (found : Option ModuleRecord) → module_at n m ≡ found
        → option_map (λ ks. kept_at ks c blank) (option_map (λ (r : ModuleRecord). kept_of kept m) found) ≡ option_map (λ (r : ModuleRecord). state_before n m r c) found
    by m c border low None e = refl
    by m c border low (Some r) e = ap Some ((are.each m r e).known c border low)
