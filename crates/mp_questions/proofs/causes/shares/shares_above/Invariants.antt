use Rattle.std.proofs.Common.{◌≡◌, ◌<◌, ℕ, Some, length, slice_index_or}
use Rattle.mp_questions.specs.declared.causes.module_share.ModuleShare.{ModuleShare}
use Rattle.mp_questions.specs.causes.Shares.{time_of}
use Rattle.mp_questions.proofs.lemmas.causes.ChainLemmas.{HasTime, rest}
use Rattle.mp_questions.specs.causes.Chains.{begin_of}
use Rattle.mp_questions.proofs.lemmas.causes.AboveLemmas.{IsShareAbove, begin_left}
use Rattle.mp_questions.proofs.causes.shares.shares_above.Given as goal

-- what is noted of each module, and what its steps above the time are that come yet, make up its share
abbrev pub invariant-loop-next : goal.invariant-loop-next
invariant-loop-next l = record {
  levels : l.tracer.levels ≡ l.fn.tracer.levels;
  from : HasTime l.next;
  within : time_of l.next < l.fn.tracer.levels.netlist.now.horizon;
  places : length l.shares.items ≡ length l.fn.tracer.levels.netlist.now.modules;
  each : (m : ℕ) (d : ModuleShare) → m < length l.fn.tracer.levels.netlist.now.modules
      → IsShareAbove l.fn.tracer.levels.netlist.now l.fn.from (rest l.fn.tracer.levels.netlist.now (Some l.fn.last)) (rest l.fn.tracer.levels.netlist.now l.next) m (slice_index_or l.shares.items m d);
  begin : begin_left l.fn.tracer.levels.netlist.now l.next l.begin ≡ begin_of l.fn.tracer.levels.netlist.now (rest l.fn.tracer.levels.netlist.now (Some l.fn.last));
}

abbrev pub decreases-loop-next : goal.decreases-loop-next
decreases-loop-next l = time_of l.next
