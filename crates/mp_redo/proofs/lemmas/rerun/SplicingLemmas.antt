-- Waves that are known up to a time, and go on with others.
use Rattle.std.proofs.Common.{◌≡◌, ℕ, ◌+◌, ◌-◌, ◌<◌, ◌≤◌, List, [], ◌∷◌, Option, Some, None, IsSome, refl, ap, sym, subst, ◌∙◌, arith, inl, inr}
use Rattle.std.proofs.lemmas.Bool.{cases_lt, lt-ltb, le-ltb}
use Rattle.mp_wave.specs.Waveform.{Waveform, IsWaveform, AreChanges, level_from, level_of, last_time, between, changes_after, wave_upto}
use Rattle.mp_wave.specs.Building.{Building, IsBuilding}
use Rattle.mp_wave.proofs.WaveformLemmas.{le-last_time, level_of-held_before, level_of-held_after, same_levels}
use Rattle.mp_wave.proofs.ChangesLemmas.{last_from-changes_after, last_time-changes_after, AreChanges-changes_after, levels_of_wave, form_of_wave}
use Rattle.mp_wave.proofs.BuildingLemmas.{last_time-held, form-held}
use Rattle.mp_wave.proofs.PrefixLemmas.{level_from-over, cut_levels, AreChanges-between, last_time-between}
use Rattle.mp_records.specs.declared.wire_record.WireRecord.{WireRecord}
use Rattle.mp_netlist.specs.Circuit.{Circuit, wire_at}
use Rattle.mp_model.specs.Waves.{level, slot_wave}
use Rattle.mp_partition.specs.runs.Outcomes.{Outcome}
use Rattle.mp_active.specs.compare.Comparing.{old_wave}
use Rattle.mp_model.specs.Tracks.{AreTimesIn, held_on, held_all}
use Rattle.mp_model.specs.Evaluations.{AreRising}
use Rattle.mp_model.proofs.TrackLemmas.{AreRising-changes, level_from-now}
use Rattle.mp_model.proofs.HeldLemmas.{building-all, levels-all}
use Rattle.mp_redo.specs.rerun.Splicing.{switched, IsUpTo, IsWaveUpTo, IsSplicedAt}

pub switched_before : (time : ℕ) (one other : ℕ → ℕ) (t : ℕ) → t < time → switched time one other t ≡ one t
switched_before time one other t less = rw (lt-ltb t time less) refl

pub switched_after : (time : ℕ) (one other : ℕ → ℕ) (t : ℕ) → time ≤ t → switched time one other t ≡ other t
switched_after time one other t le = rw (le-ltb t time le) refl

pub switched_same : (time : ℕ) (one two other : ℕ → ℕ) (t : ℕ) → (t < time → one t ≡ two t) → switched time one other t ≡ switched time two other t
switched_same time one two other t same = elim (cases_lt t time) as (λ _. switched time one other t ≡ switched time two other t) [
  | inl before ↦ switched_before time one other t before ∙ same before ∙ sym (switched_before time two other t before)
  | inr after ↦ switched_after time one other t after ∙ sym (switched_after time two other t after)
]

pub next-all : (built : Building) (end : ℕ) (changes : List (ℕ × ℕ)) → built.next ≤ end → AreTimesIn built.next end changes → (held_all built changes).next ≤ end
next-all built end [] le times = le
next-all built end (change ∷ changes) le times = next-all (held_on built change.0 change.1) end changes (omega (arith, times.1)) times.2

pub times_in : (time level end : ℕ) (changes : List (ℕ × ℕ)) → AreChanges time level changes → last_time time changes < end → AreTimesIn (time + 1) end changes
times_in time level end [] are last = tt
times_in time level end (change ∷ changes) are last = (omega (arith, are.0), omega (arith, last, le-last_time change.0 change.1 changes are.2), times_in change.0 change.1 end changes are.2 last)

pub times_between : (wave : Waveform) (from to : ℕ) → IsWaveform wave → from < to → AreTimesIn (from + 1) to (between from to wave.changes)
times_between wave from to form less = times_in from (level_of wave from) to (between from to wave.changes) (AreChanges-between wave from to form) (last_time-between wave from to form less)

pub held_building : (built : Building) (time level : ℕ) → IsBuilding built → built.next ≤ time → IsBuilding (held_on built time level)
held_building built time level is le = record {
  form = form-held built.wave time level is.form (omega (arith, is.over));
  over = last_time-held built.wave time level (time + 1) (omega (arith, is.over)) (omega arith);
}

-- what is built when another wave is followed
pub followed : (built : Building) (wave : Waveform) (from to : ℕ) → IsBuilding built → IsWaveform wave → built.next ≤ from → from < to
    → IsUpTo (switched from (level_of built.wave) (level_of wave)) to (held_all (held_on built from (level_of wave from)) (between from to wave.changes))
followed built wave from to is form later less = record {
  levels = λ t below. elim (cases_lt t from) as (λ _. level_of all.wave t ≡ switched from (level_of built.wave) (level_of wave) t) [
    | inl before ↦
        by t
        ∙ level_from-now (level_of first.wave t) from t changes rising (omega arith)
        ∙ level_of-held_before built.wave from v t before
        ∙ sym (switched_before from (level_of built.wave) (level_of wave) t before)
    | inr after ↦
        over t after
        ∙ cut_levels wave from to t form after below
        ∙ sym (switched_after from (level_of built.wave) (level_of wave) t after)
  ];
  held = λ t le.
      let last : from ≤ to - 1 = omega arith in
      over t (omega arith)
      ∙ level_from-over from v t changes are (omega (arith, end))
      ∙ sym (level_from-over from v (to - 1) changes are (omega (arith, end)))
      ∙ cut_levels wave from to (to - 1) form last (omega arith)
      ∙ sym (switched_after from (level_of built.wave) (level_of wave) (to - 1) last);
  next = next-all first to changes (omega arith) times;
  form = building-all first to changes (held_building built from v is later) times;
}
  where
    v : ℕ
    v = level_of wave from

    first : Building
    first = held_on built from v

    changes : List (ℕ × ℕ)
    changes = between from to wave.changes

    all : Building
    all = held_all first changes

    are : AreChanges from v changes
    are = AreChanges-between wave from to form

    end : last_time from changes < to
    end = last_time-between wave from to form less

    rising : AreRising from changes
    rising = AreRising-changes from v changes are

    times : AreTimesIn (from + 1) to changes
    times = times_between wave from to form less

    by : (t : ℕ) → level_of all.wave t ≡ level_from (level_of first.wave t) changes t
    by t = levels-all first to t changes (held_building built from v is later) times

    over : (t : ℕ) → from ≤ t → level_of all.wave t ≡ level_from v changes t
    over t after = by t ∙ ap (λ x. level_from x changes t) (level_of-held_after built.wave from v t is.form (omega (arith, is.over, later)) after)

-- the same in steps
pub followed_as : (built new all : Building) (wave : Waveform) (from to v : ℕ) (changes : List (ℕ × ℕ)) → IsBuilding built → IsWaveform wave → built.next ≤ from → from < to
    → new ≡ held_on built from v → v ≡ level_of wave from → changes ≡ between from to wave.changes → all ≡ held_all new changes → IsUpTo (switched from (level_of built.wave) (level_of wave)) to all
followed_as built new all wave from to v changes is form later less first level them then =
    subst (IsUpTo (switched from (level_of built.wave) (level_of wave)) to)
    (sym (then ∙ ap (λ b. held_all b changes) first ∙ ap (λ x. held_all (held_on built from x) changes) level ∙ ap (held_all (held_on built from (level_of wave from))) them))
    (followed built wave from to is form later less)

-- what is built when a level is held up to an end
pub held_up_to : (built : Building) (from to level : ℕ) → IsBuilding built → built.next ≤ from → from < to
    → IsUpTo (switched from (level_of built.wave) (λ t. level)) to (held_on built from level)
held_up_to built from to level is later less = record {
  levels = λ t below. elim (cases_lt t from) as (λ _. level_of (held_on built from level).wave t ≡ switched from (level_of built.wave) (λ u. level) t) [
    | inl before ↦ level_of-held_before built.wave from level t before ∙ sym (switched_before from (level_of built.wave) (λ u. level) t before)
    | inr after ↦ over t after ∙ sym (switched_after from (level_of built.wave) (λ u. level) t after)
  ];
  held = λ t le. over t (omega arith) ∙ sym (switched_after from (level_of built.wave) (λ u. level) (to - 1) (omega arith));
  next = omega arith;
  form = held_building built from level is later;
}
  where
    over : (t : ℕ) → from ≤ t → level_of (held_on built from level).wave t ≡ level
    over t after = level_of-held_after built.wave from level t is.form (omega (arith, is.over, later)) after

-- a wave that was built up to an end
pub wave_up_to : (level : ℕ → ℕ) (end : ℕ) (built : Building) → IsUpTo level end built → IsWaveUpTo level end built.wave
wave_up_to level end built is = record { levels = is.levels; held = is.held; form = is.form.form }

pub wave_switched : (one two other : ℕ → ℕ) (from end : ℕ) (wave : Waveform) → from < end → ((t : ℕ) → t < from → one t ≡ two t) → IsWaveUpTo (switched from one other) end wave → IsWaveUpTo (switched from two other) end wave
wave_switched one two other from end wave below same is = record {
  levels = λ t less. is.levels t less ∙ switched_same from one two other t (same t);
  held = λ t le. is.held t le ∙ switched_same from one two other (end - 1) (same (end - 1));
  form = is.form;
}

-- after its last time the wave of a level holds the last level
pub upto_held : (level : ℕ → ℕ) (n t : ℕ) → n ≤ t → level_of (wave_upto level n) t ≡ level n
upto_held level n t le =
    let last = last_time-changes_after level 0 n in
    let sum : 0 + n ≡ n = omega arith in
    level_from-over 0 (level 0) t (changes_after level 0 n) (AreChanges-changes_after level 0 n) (omega (arith, last, le))
    ∙ last_from-changes_after level 0 n ∙ ap level sum

-- levels that are the same before an end have one wave
pub is_wave_upto : (one other : ℕ → ℕ) (end : ℕ) (wave : Waveform) → 0 < end → ((t : ℕ) → t < end → one t ≡ other t) → IsWaveUpTo one end wave → wave ≡ wave_upto other (end - 1)
is_wave_upto one other end wave some same is = same_levels wave (wave_upto other (end - 1)) is.form (form_of_wave other (end - 1)) (λ t. elim (cases_lt t end) as (λ _. level_of wave t ≡ level_of (wave_upto other (end - 1)) t) [
  | inl before ↦ is.levels t before ∙ same t before ∙ sym (levels_of_wave other (end - 1) t (omega arith))
  | inr after ↦ is.held t after ∙ same (end - 1) (omega arith) ∙ sym (upto_held other (end - 1) t (omega arith))
])

-- a wave that a wire has before a time, and that goes on with that of a run, is the wire's
pub spliced_is : (n : Circuit) (run : Outcome) (w from : ℕ) (shown wave : Waveform) → 0 < n.horizon → IsSome (wire_at n w) → IsSplicedAt n run w from (Some shown) →
    IsWaveUpTo (switched from (level_of shown) (level_of (old_wave run w))) n.horizon wave → Some wave ≡ slot_wave n w (wire_at n w)
spliced_is n run w from shown wave some stands spliced is = by (wire_at n w) stands
  where
    by : (slot : Option WireRecord) → IsSome slot → Some wave ≡ slot_wave n w slot
    by None none = let no : ⊥ = cc in absurd no
    by (Some r) one = ap (λ (v : Waveform). Some v) (is_wave_upto (switched from (level_of shown) (level_of (old_wave run w))) (level n w) n.horizon wave some (λ t less. spliced.levels t less) is)
