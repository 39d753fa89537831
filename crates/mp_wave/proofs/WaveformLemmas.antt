-- Lemmas on lists of changes and the levels that they give.
use Rattle.std.proofs.Common.{◌≡◌, ◌≢◌, ℕ, ◌<◌, ◌≤◌, List, [], ◌∷◌, ◌++◌, nat_le, cond, true, false, refl, ap, sym, subst, ◌∙◌, arith, inl, inr, length, zero, suc, get_or, ◌-◌, ◌==◌, Bool, append-nil}
use Rattle.std.proofs.lemmas.Bool.Decides.{nat_tests}
use Rattle.std.proofs.lemmas.Bool.{cases_lt, eqb-true}
use Rattle.std.specs.List.{AllWithin}
use Rattle.std.specs.List.Sorted.{IsNonDecreasingBy, IsPartitionedBy, IsPartitionPoint}
use Rattle.std.proofs.lemmas.List.Sorted.{IsPartitionedBy-leb}
use Rattle.mp_wave.specs.Waveform.{Waveform, IsWaveform, AreChanges, level_from, level_of, last_from, last_time, held_from}

pub nat_le-true : (a b : ℕ) → a ≤ b → nat_le a b ≡ true
nat_le-true a b le = grind (arith, nat_tests)

pub nat_le-false : (a b : ℕ) → b < a → nat_le a b ≡ false
nat_le-false a b lt = grind (arith, nat_tests)

pub last_from-append : (level : ℕ) (xs ys : List (ℕ × ℕ)) → last_from level (xs ++ ys) ≡ last_from (last_from level xs) ys
last_from-append level [] ys = refl
last_from-append level (x ∷ xs) ys = last_from-append x.1 xs ys

pub last_time-append : (time : ℕ) (xs ys : List (ℕ × ℕ)) → last_time time (xs ++ ys) ≡ last_time (last_time time xs) ys
last_time-append time [] ys = refl
last_time-append time (x ∷ xs) ys = last_time-append x.0 xs ys

-- the changes come after the time before them
pub le-last_time : (time level : ℕ) (changes : List (ℕ × ℕ)) → AreChanges time level changes → time ≤ last_time time changes
le-last_time time level [] are = omega arith
le-last_time time level (change ∷ changes) are = omega (arith, are.0, le-last_time change.0 change.1 changes are.2)

-- changes after a time are changes after any time before it
pub AreChanges-earlier : (sooner time level : ℕ) (changes : List (ℕ × ℕ)) → sooner ≤ time → AreChanges time level changes → AreChanges sooner level changes
AreChanges-earlier sooner time level [] le are = tt
AreChanges-earlier sooner time level (change ∷ changes) le are = (omega (arith, are.0), are.1, are.2)

pub AreChanges-append : (time level : ℕ) (xs ys : List (ℕ × ℕ)) → AreChanges time level xs → AreChanges (last_time time xs) (last_from level xs) ys → AreChanges time level (xs ++ ys)
AreChanges-append time level [] ys first then = then
AreChanges-append time level (x ∷ xs) ys first then = (first.0, first.1, AreChanges-append x.0 x.1 xs ys first.2 then)

-- before its changes a level stays
pub level_from-before : (time level t : ℕ) (changes : List (ℕ × ℕ)) → AreChanges time level changes → t ≤ time → level_from level changes t ≡ level
level_from-before time level t [] are le = refl
level_from-before time level t (change ∷ changes) are le = rw (nat_le-false change.0 t (omega (arith, are.0))) refl

-- changes that leave the level at a time may be left out there
pub level_from-append_later : (level t : ℕ) (xs ys : List (ℕ × ℕ)) → ((v : ℕ) → level_from v ys t ≡ v) → level_from level (xs ++ ys) t ≡ level_from level xs t
level_from-append_later level t [] ys stays = stays level
level_from-append_later level t (x ∷ xs) ys stays = ap (λ v. cond (nat_le x.0 t) v level) (level_from-append_later x.1 t xs ys stays)

-- of changes that are over, the last level counts
pub level_from-append_over : (time level t : ℕ) (xs ys : List (ℕ × ℕ)) → AreChanges time level xs → last_time time xs ≤ t → level_from level (xs ++ ys) t ≡ level_from (last_from level xs) ys t
level_from-append_over time level t [] ys are over = refl
level_from-append_over time level t (x ∷ xs) ys are over =
    rw (nat_le-true x.0 t (omega (arith, over, le-last_time x.0 x.1 xs are.2))) (level_from-append_over x.0 x.1 t xs ys are.2 over)

-- at and after a first change, the level is that of the changes after it
pub level_from-rest : (level t : ℕ) (change : ℕ × ℕ) (changes : List (ℕ × ℕ)) → change.0 ≤ t → level_from level (change ∷ changes) t ≡ level_from change.1 changes t
level_from-rest level t change changes le = rw (nat_le-true change.0 t le) refl

-- at its first change, the level is that of the change
pub level_from-first : (time level : ℕ) (change : ℕ × ℕ) (changes : List (ℕ × ℕ)) → AreChanges time level (change ∷ changes) → level_from level (change ∷ changes) change.0 ≡ change.1
level_from-first time level change changes are =
    level_from-rest level change.0 change changes (omega arith) ∙ level_from-before change.0 change.1 change.0 changes are.2 (omega arith)

-- one list changes at a time at which the other doesn't yet
not_sooner : (time level : ℕ) (x : ℕ × ℕ) (xs ys : List (ℕ × ℕ)) → AreChanges time level (x ∷ xs) → level_from level (x ∷ xs) x.0 ≡ level_from level ys x.0 → level_from level ys x.0 ≢ level
not_sooner time level x xs ys are same stays = are.1 (sym stays ∙ sym same ∙ level_from-first time level x xs are)

abbrev pair_of : ℕ → ℕ → ℕ × ℕ
pair_of time level = (time, level)

same_pair : (s t v w : ℕ) → s ≡ t → v ≡ w → pair_of s v ≡ pair_of t w
same_pair s t v w times levels = cc

same_cons : (x y : ℕ × ℕ) (xs ys : List (ℕ × ℕ)) → x ≡ y → xs ≡ ys → x ∷ xs ≡ y ∷ ys
same_cons x y xs ys heads tails = cc

-- changes with the same levels from a time on are the same changes
pub same_changes : (time level : ℕ) (xs ys : List (ℕ × ℕ)) → AreChanges time level xs → AreChanges time level ys → ((t : ℕ) → time ≤ t → level_from level xs t ≡ level_from level ys t) → xs ≡ ys
same_changes time level [] [] are other same = refl
same_changes time level (x ∷ xs) [] are other same = absurd (not_sooner time level x xs [] are (same x.0 (omega (arith, are.0))) refl)
same_changes time level [] (y ∷ ys) are other same = absurd (not_sooner time level y ys [] other (sym (same y.0 (omega (arith, other.0)))) refl)
same_changes time level (x ∷ xs) (y ∷ ys) are other same =
    let later : y.0 ≤ x.0 = elim (cases_lt x.0 y.0) as (λ _. y.0 ≤ x.0) [
      | inl sooner ↦ absurd (not_sooner time level x xs (y ∷ ys) are (same x.0 (omega (arith, are.0))) (rw (nat_le-false y.0 x.0 sooner) refl))
      | inr le ↦ le
    ] in
    let sooner : x.0 ≤ y.0 = elim (cases_lt y.0 x.0) as (λ _. x.0 ≤ y.0) [
      | inl sooner ↦ absurd (not_sooner time level y ys (x ∷ xs) other (sym (same y.0 (omega (arith, other.0)))) (rw (nat_le-false x.0 y.0 sooner) refl))
      | inr le ↦ le
    ] in
    let times : y.0 ≡ x.0 = omega arith in
    let levels : y.1 ≡ x.1 =
    sym (level_from-first time level y ys other) ∙ sym (same y.0 (omega (arith, other.0)))
    ∙ ap (level_from level (x ∷ xs)) times ∙ level_from-first time level x xs are in
    let pairs : y ≡ x = same_pair y.0 x.0 y.1 x.1 times levels in
    let rest : xs ≡ ys = same_changes x.0 x.1 xs ys are.2
    (subst (λ (p : ℕ × ℕ). AreChanges p.0 p.1 ys) pairs other.2)
    (λ t le.
    sym (level_from-rest level t x xs le) ∙ same t (omega (arith, are.0)) ∙ level_from-rest level t y ys (omega arith)
    ∙ ap (λ v. level_from v ys t) levels) in
    same_cons x y xs ys (sym pairs) rest

same_wave : (v w : ℕ) (xs ys : List (ℕ × ℕ)) → v ≡ w → xs ≡ ys → (let wave : Waveform = record { initial = v; changes = xs } in wave) ≡ record { initial = w; changes = ys }
same_wave v w xs ys starts rest = cc

-- waves with the same level at each time are the same
pub same_levels : (one other : Waveform) → IsWaveform one → IsWaveform other → ((t : ℕ) → level_of one t ≡ level_of other t) → one ≡ other
same_levels one other form other_form same =
    let starts : other.initial ≡ one.initial =
    sym (level_from-before 0 other.initial 0 other.changes other_form (omega arith)) ∙ sym (same 0)
    ∙ level_from-before 0 one.initial 0 one.changes form (omega arith) in
    let rest : one.changes ≡ other.changes = same_changes 0 one.initial one.changes other.changes form
    (subst (λ (v : ℕ). AreChanges 0 v other.changes) starts other_form)
    (λ t le. same t ∙ ap (λ v. level_from v other.changes t) starts) in
    same_wave one.initial other.initial one.changes other.changes (sym starts) rest

held_later : (same : Bool) (wave : Waveform) (time new t : ℕ) → t < time → level_of (cond same wave (record { initial = wave.initial; changes = wave.changes ++ (time, new) ∷ [] })) t ≡ level_of wave t
held_later true wave time new t lt = refl
held_later false wave time new t lt = level_from-append_later wave.initial t wave.changes ((time, new) ∷ []) (λ v. rw (nat_le-false time t lt) refl)

held_over : (same : Bool) (wave : Waveform) (time new t : ℕ) → (same ≡ true → last_from wave.initial wave.changes ≡ new) → IsWaveform wave → last_time 0 wave.changes < time → time ≤ t → level_of (cond same wave (record { initial = wave.initial; changes = wave.changes ++ (time, new) ∷ [] })) t ≡ new
held_over true wave time new t means form over le =
    sym (ap (λ xs. level_from wave.initial xs t) (append-nil wave.changes))
    ∙ level_from-append_over 0 wave.initial t wave.changes [] form (omega arith) ∙ means refl
held_over false wave time new t means form over le =
    level_from-append_over 0 wave.initial t wave.changes ((time, new) ∷ []) form (omega arith)
    ∙ level_from-rest (last_from wave.initial wave.changes) t (time, new) [] le

-- a level that is held from a time on leaves the levels before it
pub level_of-held_before : (wave : Waveform) (time new t : ℕ) → t < time → level_of (held_from wave time new) t ≡ level_of wave t
level_of-held_before wave time new t lt = held_later (last_from wave.initial wave.changes == new) wave time new t lt

-- and is the level from then on
pub level_of-held_after : (wave : Waveform) (time new t : ℕ) → IsWaveform wave → last_time 0 wave.changes < time → time ≤ t → level_of (held_from wave time new) t ≡ new
level_of-held_after wave time new t form over le =
    held_over (last_from wave.initial wave.changes == new) wave time new t (λ same. eqb-true (last_from wave.initial wave.changes) new same) form over le

-- the level before the pair at a place of a list, after a level
abbrev pub level_before : ℕ → List (ℕ × ℕ) → ℕ → ℕ
level_before level changes zero = level
level_before level changes (suc place) = (get_or changes place (0, 0)).1

level_before-cons : (x : ℕ × ℕ) (xs : List (ℕ × ℕ)) (place : ℕ) → level_before x.1 xs place ≡ (get_or (x ∷ xs) place (0, 0)).1
level_before-cons x xs zero = refl
level_before-cons x xs (suc place) = refl

-- where the changes before a place are those that are not later, the level is the one before that place
pub level_from-partitioned : (level t place : ℕ) (changes : List (ℕ × ℕ)) → place ≤ length changes → AllWithin (λ (c : ℕ × ℕ). nat_le c.0 t ≡ true) changes 0 place → AllWithin (λ (c : ℕ × ℕ). nat_le c.0 t ≡ false) changes place (length changes) → level_from level changes t ≡ level_before level changes place
level_from-partitioned level t zero [] le over later = refl
level_from-partitioned level t (suc place) [] le over later = absurd (omega arith)
level_from-partitioned level t zero (x ∷ xs) le over later =
    let above : nat_le x.0 t ≡ false = later 0 (0, 0) (omega arith) (omega arith) in
    rw above refl
level_from-partitioned level t (suc place) (x ∷ xs) le over later =
    let below : nat_le x.0 t ≡ true = over 0 (0, 0) (omega arith) (omega arith) in
    rw below
    (level_from-partitioned x.1 t place xs (omega arith)
    (λ k d low high. over (suc k) d (omega arith) (omega arith))
    (λ k d low high. later (suc k) d (omega arith) (omega arith))
    ∙ level_before-cons x xs place)

-- changes come by rising time
times_from : (time level place : ℕ) (d : ℕ × ℕ) (changes : List (ℕ × ℕ)) → AreChanges time level changes → place < length changes → time ≤ (get_or changes place d).0
times_from time level place d [] are lt = absurd (omega arith)
times_from time level zero d (x ∷ xs) are lt = omega (arith, are.0)
times_from time level (suc place) d (x ∷ xs) are lt = omega (arith, are.0, times_from x.0 x.1 place d xs are.2 (omega arith))

pub IsNonDecreasingBy-changes : (time level : ℕ) (changes : List (ℕ × ℕ)) → AreChanges time level changes → IsNonDecreasingBy (λ (c : ℕ × ℕ). c.0) changes
IsNonDecreasingBy-changes time level [] are i j d le lt = absurd (omega arith)
IsNonDecreasingBy-changes time level (x ∷ xs) are zero zero d le lt = omega arith
IsNonDecreasingBy-changes time level (x ∷ xs) are zero (suc j) d le lt = times_from x.0 x.1 j d xs are.2 (omega arith)
IsNonDecreasingBy-changes time level (x ∷ xs) are (suc i) zero d le lt = absurd (omega arith)
IsNonDecreasingBy-changes time level (x ∷ xs) are (suc i) (suc j) d le lt = IsNonDecreasingBy-changes x.0 x.1 xs are.2 i j d (omega arith) (omega arith)

-- the level at a time, by the count of the changes that are not later
pub level_from-point : (level t count : ℕ) (changes : List (ℕ × ℕ)) → AreChanges 0 level changes → count ≤ length changes → (IsPartitionedBy (λ (c : ℕ × ℕ). nat_le c.0 t) changes → IsPartitionPoint (λ (c : ℕ × ℕ). nat_le c.0 t ≡ true) (λ (c : ℕ × ℕ). nat_le c.0 t ≡ false) changes count) → level_from level changes t ≡ level_before level changes count
level_from-point level t count changes are le partitioned =
    let point = partitioned (IsPartitionedBy-leb (λ (c : ℕ × ℕ). c.0) changes t (IsNonDecreasingBy-changes 0 level changes are)) in
    level_from-partitioned level t count changes le point.0 point.1

-- the same for the wave that these are the level and the changes of
pub level_before-point : (wave : Waveform) (initial t count : ℕ) (items changes : List (ℕ × ℕ)) → (let made : Waveform = record { initial = initial; changes = items } in made) ≡ wave → changes ≡ items → AreChanges 0 initial items → count ≤ length changes → (IsPartitionedBy (λ (c : ℕ × ℕ). nat_le c.0 t) changes → IsPartitionPoint (λ (c : ℕ × ℕ). nat_le c.0 t ≡ true) (λ (c : ℕ × ℕ). nat_le c.0 t ≡ false) changes count) → level_before initial changes count ≡ level_of wave t
level_before-point wave initial t count items changes made same are le partitioned =
    sym (level_from-point initial t count changes (rw same are) le partitioned)
    ∙ ap (λ xs. level_from initial xs t) same
    ∙ ap (λ (w : Waveform). level_of w t) made

pub level_before-change : (level count : ℕ) (changes : List (ℕ × ℕ)) → count ≢ 0 → level_before level changes count ≡ (get_or changes (count - 1) (0, 0)).1
level_before-change level zero changes some = absurd (some refl)
level_before-change level (suc count) changes some = let is : suc count - 1 ≡ count = omega arith in rw is refl
