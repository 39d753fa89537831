-- Lists of states that go on with a state or with another list.
use Rattle.std.proofs.Common.{◌≡◌, ℕ, ◌+◌, ◌<◌, ◌≤◌, List, [], ◌∷◌, ◌++◌, length, slice_index_or, nat_le, zero, suc, refl, ap, sym, ◌∙◌, arith, inl, inr, append_assoc}
use Rattle.std.specs.Prelude.{All}
use Rattle.std.proofs.lemmas.Bool.{cases_Bool, cases_lt, lt-ltb, le-ltb}
use Rattle.std.proofs.lemmas.List.Elements.{All-push, All-weaker, All-nil, All-cons}
use Rattle.mp_wave.proofs.WaveformLemmas.{nat_le-true, nat_le-false}
use Rattle.mp_modules.specs.declared.memory.Memory.{Memory}
use Rattle.mp_modules.specs.Memories.{blank}
use Rattle.mp_partition.specs.declared.runs.checkpoint.Checkpoint.{Checkpoint}
use Rattle.mp_partition.specs.runs.Checkpoints.{kept_at, last_kept, kept_before, KeepsFrom, KeepsBetween}

-- what comes behind a later one isn't seen
pub kept_at-later : (ks more : List Checkpoint) (k : Checkpoint) (c : ℕ) (before : Memory) → c < k.time → kept_at (ks ++ (k ∷ more)) c before ≡ kept_at ks c before
kept_at-later [] more k c before later = rw (nat_le-false k.time c later) refl
kept_at-later (x ∷ ks) more k c before later = elim (cases_Bool (nat_le x.time c)) as (λ _. kept_at ((x ∷ ks) ++ (k ∷ more)) c before ≡ kept_at (x ∷ ks) c before) [
  | inl is ↦ rw is (kept_at-later ks more k c x.memory later)
  | inr not ↦ rw not refl
]

-- what is for times that are over leaves its last
pub kept_at-over : (ks more : List Checkpoint) (time c : ℕ) (before : Memory) → All (λ (k : Checkpoint). k.time ≤ time) ks → time ≤ c → kept_at (ks ++ more) c before ≡ kept_at more c (last_kept ks before)
kept_at-over [] more time c before times le = refl
kept_at-over (x ∷ ks) more time c before times le =
    let first = times 0 x (omega arith) in
    rw (nat_le-true x.time c (omega (arith, first, le))) (kept_at-over ks more time c x.memory (λ i d within. times (suc i) d (omega (arith, within))) le)

-- what is for times from an end on isn't seen before it
kept_at-before : (end c : ℕ) (ks : List Checkpoint) (before : Memory) → c < end → kept_at (kept_before end ks) c before ≡ kept_at ks c before
kept_at-before end c [] before less = refl
kept_at-before end c (x ∷ ks) before less = elim (cases_lt x.time end) as (λ _. kept_at (kept_before end (x ∷ ks)) c before ≡ kept_at (x ∷ ks) c before) [
  | inl sooner ↦ elim (cases_Bool (nat_le x.time c)) as (λ _. kept_at (kept_before end (x ∷ ks)) c before ≡ kept_at (x ∷ ks) c before) [
    | inl is ↦ rw (lt-ltb x.time end sooner, is) (kept_at-before end c ks x.memory less)
    | inr not ↦ rw (lt-ltb x.time end sooner, not) refl
  ]
  | inr later ↦ rw (le-ltb x.time end later, nat_le-false x.time c (omega (arith, later, less))) refl
]

times-before : (end : ℕ) (ks : List Checkpoint) → All (λ (k : Checkpoint). k.time < end) (kept_before end ks)
times-before end [] = All-nil (λ (k : Checkpoint). k.time < end)
times-before end (x ∷ ks) = elim (cases_lt x.time end) as (λ _. All (λ (k : Checkpoint). k.time < end) (kept_before end (x ∷ ks))) [
  | inl sooner ↦ rw (lt-ltb x.time end sooner) (All-cons (λ (k : Checkpoint). k.time < end) x (kept_before end ks) sooner (times-before end ks))
  | inr later ↦ rw (le-ltb x.time end later) (All-nil (λ (k : Checkpoint). k.time < end))
]

All-append : (P : Checkpoint → Type 0) (xs ys : List Checkpoint) → All P xs → All P ys → All P (xs ++ ys)
All-append P [] ys first then = then
All-append P (x ∷ xs) ys first then = All-cons P x (xs ++ ys) (first 0 x (omega arith)) (All-append P xs ys (λ i d within. first (suc i) d (omega (arith, within))) then)

-- one more state
pub keeps_from : (ks : List Checkpoint) (time : ℕ) (memory : Memory) → All (λ (k : Checkpoint). k.time ≤ time) ks → KeepsFrom ks time memory (ks ++ record { time = time; memory = memory } ∷ [])
keeps_from ks time memory times = record {
  before = λ c less. kept_at-later ks [] new c blank less;
  from = λ c le. kept_at-over ks (new ∷ []) time c blank times le ∙ rw (nat_le-true time c le) refl;
  times = All-push (λ (k : Checkpoint). k.time ≤ time) ks new times (omega arith);
}
  where
    new : Checkpoint
    new = record { time = time; memory = memory }

-- a state, and what another list keeps later
pub keeps_between : (ks other later : List Checkpoint) (from to : ℕ) (memory : Memory) → All (λ (k : Checkpoint). k.time ≤ from) ks → from < to
    → ((c : ℕ) → from ≤ c → kept_at other c blank ≡ kept_at later c memory)
    → KeepsBetween ks other from to ((ks ++ record { time = from; memory = memory } ∷ []) ++ kept_before to later)
keeps_between ks other later from to memory times less same = record {
  before = λ c sooner. first c ∙ kept_at-later ks (kept_before to later) new c blank sooner;
  within = λ c le below.
      first c ∙ kept_at-over ks (new ∷ kept_before to later) from c blank times le
      ∙ rw (nat_le-true from c le) (kept_at-before to c later memory below)
      ∙ sym (same c le);
  times = All-append (λ (k : Checkpoint). k.time < to) (ks ++ new ∷ []) (kept_before to later)
      (All-push (λ (k : Checkpoint). k.time < to) ks new (All-weaker (λ (k : Checkpoint). k.time ≤ from) (λ (k : Checkpoint). k.time < to) (λ k le. omega (arith, le, less)) ks times) less)
      (times-before to later);
}
  where
    new : Checkpoint
    new = record { time = from; memory = memory }

    first : (c : ℕ) → kept_at ((ks ++ new ∷ []) ++ kept_before to later) c blank ≡ kept_at (ks ++ (new ∷ kept_before to later)) c blank
    first c = ap (λ xs. kept_at xs c blank) (append_assoc ks (new ∷ []) (kept_before to later))

-- the last is kept for all times from then on
pub kept_at-last : (ks : List Checkpoint) (time c : ℕ) (before : Memory) → All (λ (k : Checkpoint). k.time ≤ time) ks → time ≤ c → kept_at ks c before ≡ last_kept ks before
kept_at-last [] time c before times le = refl
kept_at-last (x ∷ ks) time c before times le =
    let first = times 0 x (omega arith) in
    rw (nat_le-true x.time c (omega (arith, first, le))) (kept_at-last ks time c x.memory (λ i d within. times (suc i) d (omega (arith, within))) le)

-- the same state as the last
pub keeps_last : (ks : List Checkpoint) (time : ℕ) (memory : Memory) → All (λ (k : Checkpoint). k.time ≤ time) ks → last_kept ks blank ≡ memory → KeepsFrom ks time memory ks
keeps_last ks time memory times last = record {
  before = λ c less. refl;
  from = λ c le. kept_at-last ks time c blank times le ∙ last;
  times = times;
}

last_of_none : (ks : List Checkpoint) (memory : Memory) → length ks ≤ 0 → last_kept ks memory ≡ memory
last_of_none [] memory none = refl
last_of_none (k ∷ ks) memory none = absurd (omega arith)

-- the last is at the last place
pub last_kept-at : (ks : List Checkpoint) (k : Checkpoint) (i : ℕ) (before : Memory) → i + 1 ≡ length ks → slice_index_or ks i k ≡ k → last_kept ks before ≡ k.memory
last_kept-at [] k i before end is = absurd (omega arith)
last_kept-at (x ∷ ks) k zero before end is = last_of_none ks x.memory (omega arith) ∙ ap (λ (y : Checkpoint). y.memory) is
last_kept-at (x ∷ ks) k (suc i) before end is = last_kept-at ks k i x.memory (omega arith) is
