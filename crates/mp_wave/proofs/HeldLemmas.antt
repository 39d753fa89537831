-- Changes as they are held.
use Rattle.std.proofs.Common.{◌≡◌, ◌≢◌, ℕ, ◌-◌, ◌<◌, ◌≤◌, true, false, List, [], ◌∷◌, ◌++◌, length, take, nat_lt, refl, ap, sym, ◌∙◌, subst, arith}
use Rattle.std.specs.List.{AllWithin}
use Rattle.mp_wave.specs.Waveform.{AreChanges, last_from, last_time, earlier_than}
use Rattle.mp_wave.specs.ToggleWaves.{toggle_changes}
use Rattle.mp_wave.specs.WaveChanges.{held_changes, IsHeld, IsLow}
use Rattle.mp_wave.specs.declared.held.Held.{Held}
use Rattle.mp_wave.specs.declared.held.Held.TheVariants.{Toggles, ShortPairs, Pairs}
use Rattle.mp_wave.proofs.PrefixLemmas.{AreChanges-earlier_than, earlier_than-take}
use Rattle.mp_wave.proofs.ToggleWaveLemmas.{one_more, last_toggle}
use Rattle.mp_wave.proofs.WaveformLemmas.{AreChanges-append}
use Rattle.mp_wave.proofs.WaveChangesLemmas.{length_toggles}

-- how many changes are held is so whatever the level before them
pub length_held : (one other : ℕ) (held : Held) → length (held_changes one held) ≡ length (held_changes other held)
length_held one other (Toggles times) = length_toggles one times.items ∙ sym (length_toggles other times.items)
length_held one other (ShortPairs pairs) = refl
length_held one other (Pairs pairs) = refl

-- the changes of a wave once more are those of a wave
pub held_again : (initial : ℕ) (held copy : Held) → held_changes initial copy ≡ held_changes initial held → IsLow initial copy → IsHeld initial held → IsHeld initial copy
held_again initial held copy same low is = record {
  form = subst (λ (xs : List (ℕ × ℕ)). AreChanges 0 initial xs) (sym same) is.form;
  low = low;
}

-- those before a time are the earlier ones
pub front_is : (upto count initial : ℕ) (seen : List (ℕ × ℕ)) (held front : Held) → seen ≡ held_changes initial held → count ≤ length seen
    → AllWithin (λ (c : ℕ × ℕ). nat_lt c.0 upto ≡ true) seen 0 count → AllWithin (λ (c : ℕ × ℕ). nat_lt c.0 upto ≡ false) seen count (length seen)
    → held_changes initial front ≡ take count (held_changes initial held) → held_changes initial front ≡ earlier_than upto (held_changes initial held)
front_is upto count initial seen held front same within early late is =
    is ∙ subst (λ (xs : List (ℕ × ℕ)). take count xs ≡ earlier_than upto xs) same (earlier_than-take upto count seen within early late)

pub front_held : (upto initial : ℕ) (held front : Held) → held_changes initial front ≡ earlier_than upto (held_changes initial held) → IsLow initial front → IsHeld initial held → IsHeld initial front
front_held upto initial held front is low held_is = record {
  form = subst (λ (xs : List (ℕ × ℕ)). AreChanges 0 initial xs) (sym is) (AreChanges-earlier_than upto 0 initial (held_changes initial held) held_is.form);
  low = low;
}

-- a level of 0 or 1 that differs from the last is one toggle more
pub toggle_more : (initial time level : ℕ) (times new : List ℕ) → initial ≤ 1 → level ≤ 1 → last_from initial (toggle_changes initial times) ≢ level → new ≡ times ++ time ∷ []
    → toggle_changes initial new ≡ toggle_changes initial times ++ (time, level) ∷ []
toggle_more initial time level times new low bit other longer =
    let last = last_toggle initial 0 times low in
    let turned : 1 - last_from initial (toggle_changes initial times) ≡ level = omega (arith, last, bit, other) in
    ap (toggle_changes initial) longer ∙ one_more initial time times ∙ ap (λ (v : ℕ). toggle_changes initial times ++ (time, v) ∷ []) turned

-- a later change to another level is one of the wave
pub more_held : (initial time level : ℕ) (held new : Held) → IsHeld initial held → last_time 0 (held_changes initial held) < time → last_from initial (held_changes initial held) ≢ level
    → held_changes initial new ≡ held_changes initial held ++ (time, level) ∷ [] → IsLow initial new → IsHeld initial new
more_held initial time level held new is later other longer low = record {
  form = subst (λ (xs : List (ℕ × ℕ)). AreChanges 0 initial xs) (sym longer) (AreChanges-append 0 initial (held_changes initial held) ((time, level) ∷ []) is.form (later, other, tt));
  low = low;
}
