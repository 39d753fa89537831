-- What is built when one level after the other is held.
use Rattle.std.proofs.Common.{◌≡◌, ℕ, ◌+◌, ◌<◌, ◌≤◌, List, [], ◌∷◌, refl, ap, ◌∙◌, arith, inl, inr}
use Rattle.std.proofs.lemmas.Bool.{cases_lt}
use Rattle.mp_wave.specs.Waveform.{level_from, level_of, last_time}
use Rattle.mp_wave.specs.Building.{Building, IsBuilding}
use Rattle.mp_wave.proofs.WaveformLemmas.{nat_le-true, nat_le-false, level_of-held_before, level_of-held_after}
use Rattle.mp_wave.proofs.BuildingLemmas.{initial-held, last_time-held, form-held}
use Rattle.mp_model.specs.Tracks.{AreTimesIn, held_on, held_all}
use Rattle.mp_model.specs.Evaluations.{AreRising}
use Rattle.mp_model.proofs.TrackLemmas.{level_from-now}

-- times below an end are below any later one
pub AreTimesIn-longer : (first end longer : ℕ) (changes : List (ℕ × ℕ)) → end ≤ longer → AreTimesIn first end changes → AreTimesIn first longer changes
AreTimesIn-longer first end longer [] le times = tt
AreTimesIn-longer first end longer (change ∷ changes) le times = (times.0, omega (arith, times.1), AreTimesIn-longer (change.0 + 1) end longer changes le times.2)

AreRising-times : (time end : ℕ) (changes : List (ℕ × ℕ)) → AreTimesIn (time + 1) end changes → AreRising time changes
AreRising-times time end [] times = tt
AreRising-times time end (change ∷ changes) times = (omega (arith, times.0), AreRising-times change.0 end changes times.2)

pub initial-all : (built : Building) (changes : List (ℕ × ℕ)) → (held_all built changes).wave.initial ≡ built.wave.initial
initial-all built [] = refl
initial-all built (change ∷ changes) = initial-all (held_on built change.0 change.1) changes ∙ initial-held built.wave change.0 change.1

held_one : (built : Building) (time level : ℕ) → IsBuilding built → built.next ≤ time → IsBuilding (held_on built time level)
held_one built time level is le = record {
  form = form-held built.wave time level is.form (omega (arith, is.over));
  over = last_time-held built.wave time level (time + 1) (omega (arith, is.over)) (omega arith);
}

pub building-all : (built : Building) (end : ℕ) (changes : List (ℕ × ℕ)) → IsBuilding built → AreTimesIn built.next end changes → IsBuilding (held_all built changes)
building-all built end [] is times = is
building-all built end (change ∷ changes) is times = building-all (held_on built change.0 change.1) end changes (held_one built change.0 change.1 is times.0) times.2

pub last_time-all : (built : Building) (end : ℕ) (changes : List (ℕ × ℕ)) → last_time 0 built.wave.changes < end → AreTimesIn built.next end changes → last_time 0 (held_all built changes).wave.changes < end
last_time-all built end [] last times = last
last_time-all built end (change ∷ changes) last times = last_time-all (held_on built change.0 change.1) end changes (last_time-held built.wave change.0 change.1 end last times.1) times.2

-- the levels are those of the changes, after the level so far
pub levels-all : (built : Building) (end u : ℕ) (changes : List (ℕ × ℕ)) → IsBuilding built → AreTimesIn built.next end changes → level_of (held_all built changes).wave u ≡ level_from (level_of built.wave u) changes u
levels-all built end u [] is times = refl
levels-all built end u (change ∷ changes) is times =
    levels-all (held_on built change.0 change.1) end u changes (held_one built change.0 change.1 is times.0) times.2
    ∙ elim (cases_lt u change.0) as (λ _. level_from (level_of (held_on built change.0 change.1).wave u) changes u ≡ level_from (level_of built.wave u) (change ∷ changes) u) [
      | inl less ↦
          ap (λ v. level_from v changes u) (level_of-held_before built.wave change.0 change.1 u less)
          ∙ level_from-now (level_of built.wave u) change.0 u changes (AreRising-times change.0 end changes times.2) (omega arith)
          ∙ rw (nat_le-false change.0 u less) refl
      | inr more ↦
          ap (λ v. level_from v changes u) (level_of-held_after built.wave change.0 change.1 u is.form (omega (arith, is.over, times.0)) more)
          ∙ rw (nat_le-true change.0 u more) refl
    ]
