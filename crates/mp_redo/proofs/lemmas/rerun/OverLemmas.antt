-- Levels of wires that no port drives, when their changes are over.
use Rattle.std.proofs.Common.{◌≡◌, ℕ, suc, ◌+◌, ◌<◌, ◌≤◌, Bool, true, false, cond, List, [], ◌∷◌, Option, Some, None, length, refl, sym, ap, ◌∙◌, arith, inl, inr}
use Rattle.std.specs.Prelude.{◌==◌}
use Rattle.std.proofs.lemmas.Bool.{cases_lt, le-leb}
use Rattle.std.proofs.lemmas.List.{get_or_past}
use Rattle.mp_wave.specs.Waveform.{Waveform, IsWaveform, level_from, level_of, last_from, between}
use Rattle.mp_wave.proofs.PrefixLemmas.{cut_levels}
use Rattle.mp_records.specs.declared.ports.Output.{Output}
use Rattle.mp_records.specs.declared.module_record.ModuleRecord.{ModuleRecord}
use Rattle.mp_records.specs.Outputs.{delay_of}
use Rattle.mp_netlist.specs.declared.driver.Driver.{Driver}
use Rattle.mp_netlist.specs.declared.driver.Driver.TheVariants.{Nothing, Stimulus, Port}
use Rattle.mp_netlist.specs.Circuit.{Circuit, IsCircuit, IsModule, wire_at, stimulus_at}
use Rattle.mp_netlist.specs.Drivers.{driver, is_port}
use Rattle.mp_netlist.specs.Limits.{max_delay}
use Rattle.mp_model.specs.Levels.{initial_of, stimulus_level, driven_level}
use Rattle.mp_model.specs.Waves.{level, state}
use Rattle.mp_model.proofs.BehaviourLemmas.{satisfies}
use Rattle.mp_active.specs.agreement.Sources.{slept_from}
use Rattle.mp_redo.specs.rerun.Settling.{AreUpTo, IsSetUpTo}

-- after all changes a level is the last
level_past : (level : ℕ) (changes : List (ℕ × ℕ)) (t : ℕ) → AreUpTo t changes → level_from level changes t ≡ last_from level changes
level_past level [] t up = refl
level_past level (c ∷ cs) t up =
    ap (λ b. cond b (level_from c.1 cs t) level) (le-leb c.0 t (up 0 c (omega arith))) ∙ level_past c.1 cs t (λ k d low. up (suc k) d (omega (arith, low)))

up_later : (t u : ℕ) (changes : List (ℕ × ℕ)) → t ≤ u → AreUpTo t changes → AreUpTo u changes
up_later t u changes le up k d low = let first = up k d low in omega (arith, first, le)

set_same : (set : Option (List (ℕ × ℕ))) (initial t u : ℕ) → t ≤ u → IsSetUpTo t set → stimulus_level set initial u ≡ stimulus_level set initial t
set_same None initial t u le up = refl
set_same (Some changes) initial t u le up = level_past initial changes u (up_later t u changes le up) ∙ sym (level_past initial changes t up)

-- a wire that no port drives keeps its level after all that its stimulus changes
pub level_set : (n : Circuit) → IsCircuit n → (w t u : ℕ) → is_port (driver n w) ≡ false → t ≤ u → IsSetUpTo t (stimulus_at n w) → level n w u ≡ level n w t
level_set n ok w t u free le up = (satisfies n ok).levels w u ∙ by (driver n w) free ∙ sym ((satisfies n ok).levels w t)
  where
    by : (d : Driver) → is_port d ≡ false → driven_level d n (state n) w u ≡ driven_level d n (state n) w t
    by Nothing e = refl
    by Stimulus e = set_same (stimulus_at n w) (initial_of (wire_at n w)) t u le up
    by (Port m p) e = let no : ⊥ = cc in absurd no

-- a wave without changes after a time keeps its level then
pub level_rests : (wave : Waveform) (from v to : ℕ) → IsWaveform wave → between from to wave.changes ≡ [] → from ≤ v → v < to → level_of wave v ≡ level_of wave from
level_rests wave from v to form none le less = sym (cut_levels wave from to v form le less) ∙ ap (λ cs. level_from (level_of wave from) cs v) none

-- no output is very late
output_soon : (n : Circuit) (r : ModuleRecord) (p : ℕ) → IsModule n r → delay_of r p ≤ max_delay
output_soon n r p ok =
    elim (cases_lt p (length r.outputs)) as (λ _. delay_of r p ≤ max_delay) [
      | inl within ↦ (ok.delays p (record { wire = None; delay = 1 }) within).1
      | inr past ↦ let e = ap (λ (o : Output). o.delay) (get_or_past r.outputs p (record { wire = None; delay = 1 }) past) in omega (arith, e)
    ]

slept_soon : (since delay : ℕ) → slept_from since delay ≤ since + delay
slept_soon since delay = by (since == 0) refl
  where
    by : (b : Bool) → (since == 0) ≡ b → slept_from since delay ≤ since + delay
    by true e = let is : slept_from since delay ≡ 0 = ap (λ b. cond b 0 (since + delay)) e in omega (arith, is)
    by false e = let is : slept_from since delay ≡ since + delay = ap (λ b. cond b 0 (since + delay)) e in omega (arith, is)

pub slept_low : (n : Circuit) (r : ModuleRecord) (p since : ℕ) → IsModule n r → slept_from since (delay_of r p) ≤ since + 65535
slept_low n r p since ok = let a = slept_soon since (delay_of r p) in let b = output_soon n r p ok in omega (arith, a, b)
