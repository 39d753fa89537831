use Rattle.std.proofs.Common.{◌≡◌, ◌++◌, drop, length}
use Rattle.std.specs.List.{filter}
use Rattle.mp_active.proofs.lemmas.compare.StimulusLemmas.{is_kept}
use Rattle.mp_active.proofs.compare.stimuli.changed_stimuli.Given as goal

-- of the changes so far those are listed that are kept
abbrev pub invariant-loop-place : goal.invariant-loop-place
invariant-loop-place l = record {
  kept : filter (is_kept l.sources) (drop l.all.place l.all.list.items) ≡ l.list.items ++ filter (is_kept l.sources) (drop l.place l.all.list.items);
  end : l.place-end ≡ length l.all.list.items;
}
