-- What is set from outside on a part of a netlist, unit by unit.
use Rattle.std.proofs.Common.{◌≡◌, ℕ, ◌+◌, ◌<◌, ◌≤◌, Bool, true, false, not, cond, List, [], ◌++◌, refl, sym, ap, ◌∙◌, arith, subst}
use Rattle.std.specs.Prelude.{◌&&◌}
use Rattle.std.specs.List.{count_by}
use Rattle.std.specs.List.Sorted.{IsPermutation}
use Rattle.std.proofs.lemmas.List.Elements.{All-append}
use Rattle.std.proofs.lemmas.List.Sorted.{sum_by-IsPermutation, All-permutation}
use Rattle.mp_netlist.specs.Circuit.{Circuit, IsCircuit}
use Rattle.mp_netlist.specs.Drivers.{driver}
use Rattle.mp_model.specs.Waves.{level}
use Rattle.mp_modules.specs.automata.Codes.{bit}
use Rattle.mp_kernel.specs.events.Adding.{listed}
use Rattle.mp_simulation.specs.bits.Changes.{change_at}
use Rattle.mp_simulation.specs.bits.WholeRuns.{is_stimulus}
use Rattle.mp_simulation.proofs.lemmas.bits.ListedLemmas.{listed_append}
use Rattle.mp_kernel.specs.declared.datapath.level_change.LevelChange.{LevelChange}
use Rattle.mp_simulation.specs.units.DataLevels.{is_data, changes_of}
use Rattle.mp_simulation.specs.units.NetlistSimulations.{AreStimuli}
use Rattle.mp_simulation.proofs.lemmas.units.LevelWheelLemmas.{changes_append}
use Rattle.mp_simulation.specs.declared.run.stimuli.StimulusChange.{StimulusChange}
use Rattle.mp_simulation.specs.run.Stimuli.{bits_at, levels_at, changes_after, is_change, AreInOrder, IsSetting}
use Rattle.mp_simulation.proofs.lemmas.run.AllStimuliLemmas.{in_order}
use Rattle.mp_simulation.proofs.lemmas.run.PresentLemmas.{bits_now, levels_now, set_at, after_now, from_after, settings_after, stimuli_counted}
use Rattle.mp_partition.specs.runs.Marks.{is_marked}
use Rattle.mp_engine.specs.region_runs.RegionRuns.{is_set, AreComing, AreTidings, CanRun, IsBeforeAll}
use Rattle.mp_engine.specs.declared.region_runs.region_run.RegionRun.{RegionRun}

both_sorts : (c b : Bool) → bit (c && not b) + bit (c && b) ≡ bit c
both_sorts true true = refl
both_sorts true false = refl
both_sorts false b = refl

no_bits_both : (data_too : Bool) (j k l : ℕ) → j + k ≡ l → cond data_too 0 j + cond data_too 0 k ≡ cond data_too 0 l
no_bits_both true j k l is = refl
no_bits_both false j k l is = is

levels_both : (data_too : Bool) (j k l : ℕ) → j + k ≡ l → cond data_too j 0 + cond data_too k 0 ≡ cond data_too l 0
levels_both true j k l is = is
levels_both false j k l is = refl

-- what is set by stimuli and what is heard is all that is set in the next unit
pub set_now : (n : Circuit) → IsCircuit n → (is_heard : ℕ → Bool) (t until : ℕ) (own heard : List StimulusChange) → t + 1 < n.horizon → t + 1 < until →
    AreComing n (λ w. not (is_heard w)) t n.horizon own → AreComing n is_heard t until heard →
    AreStimuli n (bits_at (t + 1) own ++ bits_at (t + 1) heard) (levels_at (t + 1) own ++ levels_at (t + 1) heard) (t + 1)
set_now n ok is_heard t until own heard low known of_own of_heard =
    stimuli_counted n ok (t + 1) (bits_at (t + 1) own ++ bits_at (t + 1) heard) (levels_at (t + 1) own ++ levels_at (t + 1) heard)
    (λ w.
    listed_append w (bits_at (t + 1) own) (bits_at (t + 1) heard)
    ∙ ap (λ k. k + listed w (bits_at (t + 1) heard)) (bits_now n w (t + 1) own of_own.set of_own.listed)
    ∙ ap (λ k. cond (is_data n w) 0 (count_by (is_change w (t + 1)) own) + k) (bits_now n w (t + 1) heard of_heard.set of_heard.listed)
    ∙ no_bits_both (is_data n w) (count_by (is_change w (t + 1)) own) (count_by (is_change w (t + 1)) heard) (bit (change_at n w (t + 1) && is_stimulus (driver n w))) (all w))
    (λ w.
    changes_append w (levels_at (t + 1) own) (levels_at (t + 1) heard)
    ∙ ap (λ k. k + changes_of w (levels_at (t + 1) heard)) (levels_now n w (t + 1) own of_own.set of_own.listed)
    ∙ ap (λ k. cond (is_data n w) (count_by (is_change w (t + 1)) own) 0 + k) (levels_now n w (t + 1) heard of_heard.set of_heard.listed)
    ∙ levels_both (is_data n w) (count_by (is_change w (t + 1)) own) (count_by (is_change w (t + 1)) heard) (bit (change_at n w (t + 1) && is_stimulus (driver n w))) (all w))
    (All-append (λ (c : LevelChange). c.level ≡ level n c.number (t + 1)) (levels_at (t + 1) own) (levels_at (t + 1) heard) (set_at n (t + 1) own of_own.set) (set_at n (t + 1) heard of_heard.set))
  where
    all : (w : ℕ) → count_by (is_change w (t + 1)) own + count_by (is_change w (t + 1)) heard ≡ bit (change_at n w (t + 1) && is_stimulus (driver n w))
    all w =
        ap (λ k. k + count_by (is_change w (t + 1)) heard) (of_own.each w (t + 1) (omega arith) low)
        ∙ ap (λ k. bit (is_set n (λ v. not (is_heard v)) w (t + 1)) + k) (of_heard.each w (t + 1) (omega arith) known)
        ∙ both_sorts (change_at n w (t + 1) && is_stimulus (driver n w)) (is_heard w)

pub stimuli_are : (n : Circuit) → IsCircuit n → (is_heard : ℕ → Bool) (t until : ℕ) (own heard : List StimulusChange) (set : List ℕ) (changes : List LevelChange) →
    set ≡ bits_at (t + 1) own ++ bits_at (t + 1) heard → changes ≡ levels_at (t + 1) own ++ levels_at (t + 1) heard → t + 1 < n.horizon → t + 1 < until →
    AreComing n (λ w. not (is_heard w)) t n.horizon own → AreComing n is_heard t until heard → AreStimuli n set changes (t + 1)
stimuli_are n ok is_heard t until own heard set changes bits levels low known of_own of_heard =
    subst (λ (xs : List ℕ). AreStimuli n xs changes (t + 1)) (sym bits)
    (subst (λ (cs : List LevelChange). AreStimuli n (bits_at (t + 1) own ++ bits_at (t + 1) heard) cs (t + 1)) (sym levels) (set_now n ok is_heard t until own heard low known of_own of_heard))

-- then the rest is to come
pub coming_next : (n : Circuit) (is_told : ℕ → Bool) (t until : ℕ) (ss : List StimulusChange) → AreComing n is_told t until ss → AreComing n is_told (t + 1) until (changes_after (t + 1) ss)
coming_next n is_told t until ss are = record {
  listed = from_after (t + 1) ss are.listed;
  each = λ w u later low. after_now w u (t + 1) ss later ∙ are.each w u (omega (arith, later)) low;
  set = settings_after n (t + 1) ss are.set;
}

pub coming_less : (n : Circuit) (is_told : ℕ → Bool) (t less until : ℕ) (ss : List StimulusChange) → less ≤ until → AreComing n is_told t until ss → AreComing n is_told t less ss
coming_less n is_told t less until ss low are = record {
  listed = are.listed;
  each = λ w u later before. are.each w u later (omega (arith, low, before));
  set = are.set;
}

pub can_less : (n : Circuit) (t less until : ℕ) (run : RegionRun) → less ≤ until → CanRun n t until run → CanRun n t less run
can_less n t less until run low can = record {
  keeps = can.keeps;
  is_heard = can.is_heard;
  is = record { simulated = can.is.simulated; own = can.is.own; heard = coming_less n can.is_heard t less until _ low can.is.heard; kept = can.is.kept };
}

-- tidings by time
pub in_time : (n : Circuit) (is_told : ℕ → Bool) (t until : ℕ) (ss sorted : List StimulusChange) → IsPermutation ss sorted → AreInOrder sorted → AreTidings n is_told t until ss → AreComing n is_told t until sorted
in_time n is_told t until ss sorted permutation order are = record {
  listed = in_order (t + 1) sorted (λ k d within. let low = All-permutation (λ (s : StimulusChange). t < s.time) ss sorted permutation are.later k d within in omega (arith, low)) order;
  each = λ w u later low. sum_by-IsPermutation (λ (s : StimulusChange). cond (is_change w u s) 1 0) ss sorted permutation ∙ are.each w u later low;
  set = All-permutation (IsSetting n) ss sorted permutation are.set;
}

none_told : (c b : Bool) (t until u : ℕ) → 0 < u → u < until → (b ≡ true → until ≤ 1) → 0 ≡ bit (c && b)
none_told c true t until u later low before = absurd (let first = before refl in omega arith)
none_told true false t until u later low before = refl
none_told false false t until u later low before = refl

-- before anything is heard
pub no_tidings : (n : Circuit) (heard : List Bool) (until : ℕ) → IsBeforeAll heard until → AreTidings n (is_marked heard) 0 until []
no_tidings n heard until before = record {
  later = λ k d within. absurd (omega arith);
  each = λ w u later low. none_told (change_at n w u && is_stimulus (driver n w)) (is_marked heard w) 0 until u later low (before w);
  set = λ k d within. absurd (omega arith);
}

-- no wire is in an empty list of marks
pub none_marked : (w : ℕ) → is_marked [] w ≡ true → ⊥
none_marked w is = cc
