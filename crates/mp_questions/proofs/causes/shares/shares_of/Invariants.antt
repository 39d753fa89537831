use Rattle.std.proofs.Common.{◌≡◌, ◌<◌, ℕ, drop, length, slice_index_or}
use Rattle.mp_questions.specs.declared.causes.module_share.ModuleShare.{ModuleShare}
use Rattle.mp_questions.proofs.lemmas.causes.ShareLemmas.{IsShareOf}
use Rattle.mp_questions.proofs.causes.shares.shares_of.Given as goal

-- what is noted of each module, and what its steps are among the changes that come yet, make up its share
abbrev pub invariant-loop-change : goal.invariant-loop-change
invariant-loop-change l = record {
  levels : l.tracer.levels ≡ l.fn.tracer.levels;
  places : length l.shares.items ≡ length l.fn.tracer.levels.netlist.now.modules;
  each : (m : ℕ) (d : ModuleShare) → m < length l.fn.tracer.levels.netlist.now.modules
      → IsShareOf l.fn.tracer.levels.netlist.now l.changes (drop l.change-index l.changes) m (slice_index_or l.shares.items m d);
}
