use Rattle.std.proofs.Common.{◌≡◌, ◌<◌, ℕ, length, slice_index_or}
use Rattle.mp_questions.specs.declared.causes.module_share.ModuleShare.{ModuleShare}
use Rattle.mp_questions.specs.causes.Noting.{IsNone}
use Rattle.mp_questions.proofs.causes.shares.no_shares.Given as goal

-- those so far
abbrev pub invariant-loop-number : goal.invariant-loop-number
invariant-loop-number l = record {
  places : length l.shares.items ≡ l.number;
  each : (m : ℕ) (d : ModuleShare) → m < l.number → IsNone m (slice_index_or l.shares.items m d);
}
