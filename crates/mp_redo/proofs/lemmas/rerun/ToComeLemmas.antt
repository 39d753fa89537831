-- Changes to come that no active module makes, from one unit to the next.
use Rattle.std.proofs.Common.{◌≡◌, ℕ, ◌+◌, Bool, cond, List, All, ap, ◌∙◌, arith}
use Rattle.std.specs.Prelude.{◌&&◌}
use Rattle.mp_netlist.specs.Circuit.{Circuit}
use Rattle.mp_model.specs.Waves.{level}
use Rattle.mp_modules.specs.automata.Codes.{bit}
use Rattle.mp_kernel.specs.events.Adding.{listed}
use Rattle.mp_simulation.specs.bits.Changes.{change_at}
use Rattle.mp_kernel.specs.declared.datapath.level_change.LevelChange.{LevelChange}
use Rattle.mp_simulation.specs.units.DataLevels.{is_data, changes_of}
use Rattle.mp_simulation.specs.declared.run.stimuli.StimulusChange.{StimulusChange}
use Rattle.mp_simulation.specs.run.Stimuli.{bits_at, levels_at, changes_after}
use Rattle.mp_simulation.proofs.lemmas.run.PresentLemmas.{bits_now, levels_now, set_at, after_now, from_after, settings_after}
use Rattle.mp_redo.specs.rerun.Following.{AreToCome}

module _ (n : Circuit) (comes : ℕ → ℕ → Bool) (t : ℕ) (ss : List StimulusChange) (are : AreToCome n comes t ss) where
  -- the wires of width 1 that change in the next unit
  pub bits_to_come : (w : ℕ) → listed w (bits_at (t + 1) ss) ≡ cond (is_data n w) 0 (bit (change_at n w (t + 1) && comes w (t + 1)))
  bits_to_come w = bits_now n w (t + 1) ss are.set are.listed ∙ ap (λ k. cond (is_data n w) 0 k) (are.each w (t + 1) (omega arith))

  -- and those with data
  pub levels_to_come : (w : ℕ) → changes_of w (levels_at (t + 1) ss) ≡ cond (is_data n w) (bit (change_at n w (t + 1) && comes w (t + 1))) 0
  levels_to_come w = levels_now n w (t + 1) ss are.set are.listed ∙ ap (λ k. cond (is_data n w) k 0) (are.each w (t + 1) (omega arith))

  -- with their levels
  pub set_to_come : All (λ (c : LevelChange). c.level ≡ level n c.number (t + 1)) (levels_at (t + 1) ss)
  set_to_come = set_at n (t + 1) ss are.set

  -- the others are still to come
  pub later_to_come : AreToCome n comes (t + 1) (changes_after (t + 1) ss)
  later_to_come = record {
    listed = from_after (t + 1) ss are.listed;
    each = λ w u later. after_now w u (t + 1) ss later ∙ are.each w u (omega arith);
    set = settings_after n (t + 1) ss are.set;
  }
