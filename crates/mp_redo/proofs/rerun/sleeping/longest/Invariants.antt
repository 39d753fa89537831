use Rattle.std.proofs.Common.{ℕ, ◌≤◌, All}
use Rattle.std.specs.List.{AllWithin}
use Rattle.mp_records.specs.declared.ports.Output.{Output}
use Rattle.mp_redo.proofs.rerun.sleeping.longest.Given as goal

-- it is the longest of those so far
abbrev pub invariant-loop-output : goal.invariant-loop-output
invariant-loop-output l = record {
  all : AllWithin (λ (o : Output). o.delay ≤ l.longest) l.output-items 0 l.output-index;
  most : (bound : ℕ) → All (λ (o : Output). o.delay ≤ bound) l.output-items → l.longest ≤ bound;
}
