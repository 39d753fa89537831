-- What is due is listed after what was, from two lists.
use Rattle.std.proofs.Common.{◌≡◌, ℕ, ◌++◌, List, [], drop, sym, ap, ◌∙◌}
use Rattle.mp_kernel.specs.declared.datapath.level_change.LevelChange.{LevelChange}
use Rattle.mp_simulation.specs.declared.run.stimuli.StimulusChange.{StimulusChange}
use Rattle.mp_simulation.specs.run.Stimuli.{bits_at, levels_at, changes_after}

module _ (time p q : ℕ) (stimuli pending_outputs one two : List StimulusChange) (one_is : one ≡ stimuli) (two_is : two ≡ pending_outputs) where
  pub due_bits : (was first all : List ℕ) → first ≡ was ++ bits_at time (drop p one) → all ≡ first ++ bits_at time (drop q two) →
      all ≡ (was ++ bits_at time (drop p stimuli)) ++ bits_at time (drop q pending_outputs)
  due_bits was first all f a =
      a ∙ ap (λ (xs : List StimulusChange). first ++ bits_at time (drop q xs)) two_is
      ∙ ap (λ (ys : List ℕ). ys ++ bits_at time (drop q pending_outputs)) (f ∙ ap (λ (xs : List StimulusChange). was ++ bits_at time (drop p xs)) one_is)

  pub due_levels : (was first all : List LevelChange) → first ≡ was ++ levels_at time (drop p one) → all ≡ first ++ levels_at time (drop q two) →
      all ≡ (was ++ levels_at time (drop p stimuli)) ++ levels_at time (drop q pending_outputs)
  due_levels was first all f a =
      a ∙ ap (λ (xs : List StimulusChange). first ++ levels_at time (drop q xs)) two_is
      ∙ ap (λ (ys : List LevelChange). ys ++ levels_at time (drop q pending_outputs)) (f ∙ ap (λ (xs : List StimulusChange). was ++ levels_at time (drop p xs)) one_is)

  -- where nothing was listed
  pub only_bits : (was first all : List ℕ) → was ≡ [] → first ≡ was ++ bits_at time (drop p one) → all ≡ first ++ bits_at time (drop q two) →
      all ≡ bits_at time (drop p stimuli) ++ bits_at time (drop q pending_outputs)
  only_bits was first all none f a = due_bits was first all f a ∙ ap (λ (ys : List ℕ). (ys ++ bits_at time (drop p stimuli)) ++ bits_at time (drop q pending_outputs)) none

  pub only_levels : (was first all : List LevelChange) → was ≡ [] → first ≡ was ++ levels_at time (drop p one) → all ≡ first ++ levels_at time (drop q two) →
      all ≡ levels_at time (drop p stimuli) ++ levels_at time (drop q pending_outputs)
  only_levels was first all none f a = due_levels was first all f a ∙ ap (λ (ys : List LevelChange). (ys ++ levels_at time (drop p stimuli)) ++ levels_at time (drop q pending_outputs)) none

-- what is left of a list, where the place is behind what is due
pub due_left : (time place p : ℕ) (all one : List StimulusChange) → one ≡ all → drop place one ≡ changes_after time (drop p one) → drop place all ≡ changes_after time (drop p all)
due_left time place p all one one_is left =
    ap (λ (xs : List StimulusChange). drop place xs) (sym one_is) ∙ left ∙ ap (λ (xs : List StimulusChange). changes_after time (drop p xs)) one_is
