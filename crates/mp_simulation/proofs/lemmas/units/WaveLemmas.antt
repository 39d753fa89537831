-- The waves of wires with data grow by what changes in a unit.
use Rattle.std.proofs.Common.{◌≡◌, ◌≢◌, ℕ, suc, ◌+◌, ◌<◌, ◌≤◌, Bool, true, false, cond, nat_lt, List, [], ◌∷◌, ◌++◌, All, length, take, refl, sym, ap, ◌∙◌, arith, eq-eqb, get_or-set_same, get_or-set_other, append-nil, subst}
use Rattle.std.specs.Prelude.{◌==◌, slice_set, slice_index_or}
use Rattle.std.proofs.lemmas.Bool.{eqb-true, eqb-false}
use Rattle.std.proofs.lemmas.Bool.Decides.{nat_tests}
use Rattle.std.proofs.lemmas.List.{length-set, take_more, set_past}
use Rattle.std.proofs.lemmas.List.Elements.{All-head, All-tail}
use Rattle.std.proofs.lemmas.List.Sums.{sum_by-cons, sum_by_more_le}
use Rattle.mp_wave.specs.Waveform.{Waveform, held_from, changes_after, wave_upto}
use Rattle.mp_wave.specs.Building.{Building}
use Rattle.mp_modules.specs.automata.Codes.{bit}
use Rattle.mp_simulation.proofs.lemmas.bits.ChangeLemmas.{last_is}
use Rattle.mp_kernel.specs.declared.datapath.level_change.LevelChange.{LevelChange}
use Rattle.mp_simulation.specs.units.DataLevels.{changes_of}
use Rattle.mp_simulation.specs.units.DataWaves.{no_building, building_at, with_level, pushed}

-- ---- a wave up to the next unit

grow : (level : ℕ → ℕ) (t : ℕ) (same : Bool) → (level t == level (suc t)) ≡ same →
    wave_upto level (suc t) ≡ cond same (wave_upto level t) (record { initial = level 0; changes = changes_after level 0 t ++ (suc t, level (suc t)) ∷ [] })
grow level t true is =
    let from_zero : 0 + t ≡ t = omega arith in
    ap (λ changes. let w : Waveform = record { initial = level 0; changes = changes } in w) (rw (from_zero, is, append-nil (changes_after level 0 t)) refl)
grow level t false is =
    let from_zero : 0 + t ≡ t = omega arith in
    ap (λ changes. let w : Waveform = record { initial = level 0; changes = changes } in w) (rw (from_zero, is) refl)

grows : (level : ℕ → ℕ) (t : ℕ) → wave_upto level (t + 1) ≡ cond (level t == level (t + 1)) (wave_upto level t) (record { initial = level 0; changes = changes_after level 0 t ++ (t + 1, level (t + 1)) ∷ [] })
grows level t =
    let e : suc t ≡ t + 1 = omega arith in
    subst (λ k. wave_upto level k ≡ cond (level t == level k) (wave_upto level t) (record { initial = level 0; changes = changes_after level 0 t ++ (k, level k) ∷ [] })) e
    (grow level t (level t == level (suc t)) refl)

pub held_upto : (level : ℕ → ℕ) (t : ℕ) → held_from (wave_upto level t) (t + 1) (level (t + 1)) ≡ wave_upto level (t + 1)
held_upto level t =
    ap (λ l. cond (l == level (t + 1)) (wave_upto level t) (record { initial = level 0; changes = changes_after level 0 t ++ (t + 1, level (t + 1)) ∷ [] })) (last_is level t)
    ∙ sym (grows level t)

pub same_upto : (level : ℕ → ℕ) (t : ℕ) → level t ≡ level (t + 1) → wave_upto level (t + 1) ≡ wave_upto level t
same_upto level t same =
    grows level t
    ∙ ap (λ b. cond b (wave_upto level t) (record { initial = level 0; changes = changes_after level 0 t ++ (t + 1, level (t + 1)) ∷ [] })) (eq-eqb (level t) (level (t + 1)) same)

-- ---- changes, one after the other

changes_cons : (y : ℕ) (c : LevelChange) (cs : List LevelChange) → changes_of y (c ∷ cs) ≡ bit (c.number == y) + changes_of y cs
changes_cons y c cs = sum_by-cons (λ (d : LevelChange). cond (d.number == y) 1 0) c cs

pub pushed_both : (waves : List Building) (time : ℕ) (cs ds : List LevelChange) → pushed waves time (cs ++ ds) ≡ pushed (pushed waves time cs) time ds
pushed_both waves time [] ds = refl
pushed_both waves time (c ∷ cs) ds = pushed_both (slice_set waves c.number (with_level (building_at waves c.number) time c.level)) time cs ds

pub pushed_length : (waves : List Building) (time : ℕ) (cs : List LevelChange) → length (pushed waves time cs) ≡ length waves
pushed_length waves time [] = refl
pushed_length waves time (c ∷ cs) =
    pushed_length (slice_set waves c.number (with_level (building_at waves c.number) time c.level)) time cs ∙ length-set waves c.number (with_level (building_at waves c.number) time c.level)

other_when : (waves : List Building) (x w : ℕ) (b : Building) (same : Bool) → (x == w) ≡ same → bit same ≡ 0 → building_at (slice_set waves x b) w ≡ building_at waves w
other_when waves x w b true is none = absurd (omega arith)
other_when waves x w b false is none =
    let differs : w ≢ x = λ e. eqb-false x w is (sym e) in
    get_or-set_other waves x w b no_building differs

pub pushed_other : (waves : List Building) (time : ℕ) (cs : List LevelChange) (w : ℕ) → changes_of w cs ≡ 0 → building_at (pushed waves time cs) w ≡ building_at waves w
pushed_other waves time [] w none = refl
pushed_other waves time (c ∷ cs) w none =
    let sum = changes_cons w c cs in
    pushed_other (slice_set waves c.number (with_level (building_at waves c.number) time c.level)) time cs w (omega arith)
    ∙ other_when waves c.number w (with_level (building_at waves c.number) time c.level) (c.number == w) refl (omega arith)

own_step : (want : ℕ → ℕ) (waves : List Building) (time : ℕ) (c : LevelChange) (cs : List LevelChange) (w : ℕ) (same : Bool) → (c.number == w) ≡ same → w < length waves → c.level ≡ want c.number →
    changes_of w (c ∷ cs) ≡ 1 →
    (changes_of w cs ≡ 1 → building_at (pushed (slice_set waves c.number (with_level (building_at waves c.number) time c.level)) time cs) w ≡
    with_level (building_at (slice_set waves c.number (with_level (building_at waves c.number) time c.level)) w) time (want w)) →
    building_at (pushed waves time (c ∷ cs)) w ≡ with_level (building_at waves w) time (want w)
own_step want waves time c cs w true is within right once rest =
    let sum = changes_cons w c cs in
    let own : bit (c.number == w) ≡ 1 = ap bit is in
    let same : c.number ≡ w = eqb-true c.number w is in
    pushed_other (slice_set waves c.number (with_level (building_at waves c.number) time c.level)) time cs w (omega arith)
    ∙ ap (λ x. building_at (slice_set waves x (with_level (building_at waves x) time c.level)) w) same
    ∙ get_or-set_same waves w (with_level (building_at waves w) time c.level) no_building within
    ∙ ap (λ l. with_level (building_at waves w) time l) (right ∙ ap want same)
own_step want waves time c cs w false is within right once rest =
    let sum = changes_cons w c cs in
    let other : bit (c.number == w) ≡ 0 = ap bit is in
    rest (omega arith)
    ∙ ap (λ (b : Building). with_level b time (want w)) (other_when waves c.number w (with_level (building_at waves c.number) time c.level) false is refl)

pub pushed_own : (want : ℕ → ℕ) (waves : List Building) (time : ℕ) (cs : List LevelChange) (w : ℕ) → w < length waves → All (λ (c : LevelChange). c.level ≡ want c.number) cs → changes_of w cs ≡ 1 →
    building_at (pushed waves time cs) w ≡ with_level (building_at waves w) time (want w)
pushed_own want waves time [] w within right once = absurd (let none : changes_of w [] ≡ 0 = refl in omega arith)
pushed_own want waves time (c ∷ cs) w within right once =
    let long = length-set waves c.number (with_level (building_at waves c.number) time c.level) in
    own_step want waves time c cs w (c.number == w) refl within (All-head (λ (d : LevelChange). d.level ≡ want d.number) c cs right) once
    (pushed_own want (slice_set waves c.number (with_level (building_at waves c.number) time c.level)) time cs w (omega arith) (All-tail (λ (d : LevelChange). d.level ≡ want d.number) c cs right))

-- ---- the loop

pub fresh : (cs : List LevelChange) (i : ℕ) (d : LevelChange) → i < length cs → ((w : ℕ) → changes_of w cs ≤ 1) → changes_of (slice_index_or cs i d).number (take i cs) ≡ 0
fresh cs i d within once =
    let c = slice_index_or cs i d in
    let own : bit (c.number == c.number) ≡ 1 = ap bit (eq-eqb c.number c.number refl) in
    let more = sum_by_more_le (λ (e : LevelChange). cond (e.number == c.number) 1 0) cs i d within in
    let most = once c.number in
    omega arith

pub push_over : (waves now : List Building) (time : ℕ) (cs : List LevelChange) (i : ℕ) (d : LevelChange) → i < length cs → ((w : ℕ) → changes_of w cs ≤ 1) → ((w : ℕ) → (building_at waves w).next ≤ time) →
    now ≡ pushed waves time (take i cs) → (building_at now (slice_index_or cs i d).number).next ≤ time
push_over waves now time cs i d within once over is =
    let x = (slice_index_or cs i d).number in
    let same : building_at now (slice_index_or cs i d).number ≡ building_at waves (slice_index_or cs i d).number =
    ap (λ (bs : List Building). building_at bs (slice_index_or cs i d).number) is ∙ pushed_other waves time (take i cs) x (fresh cs i d within once) in
    subst (λ (b : Building). b.next ≤ time) (sym same) (over x)

pub push_next : (waves now new : List Building) (time : ℕ) (cs : List LevelChange) (i : ℕ) (d : LevelChange) → i < length cs → now ≡ pushed waves time (take i cs) →
    new ≡ slice_set now (slice_index_or cs i d).number (with_level (building_at now (slice_index_or cs i d).number) time (slice_index_or cs i d).level) → new ≡ pushed waves time (take (i + 1) cs)
push_next waves now new time cs i d within is then =
    let c = slice_index_or cs i d in
    then
    ∙ ap (λ (bs : List Building). slice_set bs c.number (with_level (building_at bs c.number) time c.level)) is
    ∙ sym (pushed_both waves time (take i cs) (c ∷ []))
    ∙ ap (λ (ds : List LevelChange). pushed waves time ds) (sym (take_more cs i d within))

-- ---- the next time of each

set_when : (waves : List Building) (x w bound : ℕ) (b : Building) (same low : Bool) → (x == w) ≡ same → nat_lt w (length waves) ≡ low → b.next ≤ bound → (building_at waves w).next ≤ bound →
    (building_at (slice_set waves x b) w).next ≤ bound
set_when waves x w bound b false low is within new was =
    subst (λ (k : Building). k.next ≤ bound) (sym (other_when waves x w b false is refl)) was
set_when waves x w bound b true true is within new was =
    let low : w < length waves = grind (arith, nat_tests) in
    let same : building_at (slice_set waves x b) w ≡ b = ap (λ y. building_at (slice_set waves y b) w) (eqb-true x w is) ∙ get_or-set_same waves w b no_building low in
    subst (λ (k : Building). k.next ≤ bound) (sym same) new
set_when waves x w bound b true false is within new was =
    let beyond : length waves ≤ w = grind (arith, nat_tests) in
    let same : building_at (slice_set waves x b) w ≡ building_at waves w =
    ap (λ y. building_at (slice_set waves y b) w) (eqb-true x w is) ∙ ap (λ (bs : List Building). building_at bs w) (set_past waves w b beyond) in
    subst (λ (k : Building). k.next ≤ bound) (sym same) was

pub pushed_over : (waves : List Building) (time bound : ℕ) (cs : List LevelChange) → time + 1 ≤ bound → ((w : ℕ) → (building_at waves w).next ≤ bound) → (w : ℕ) → (building_at (pushed waves time cs) w).next ≤ bound
pushed_over waves time bound [] low over w = over w
pushed_over waves time bound (c ∷ cs) low over w =
    pushed_over (slice_set waves c.number (with_level (building_at waves c.number) time c.level)) time bound cs low
    (λ y. set_when waves c.number y bound (with_level (building_at waves c.number) time c.level) (c.number == y) (nat_lt y (length waves)) refl refl low (over y)) w
