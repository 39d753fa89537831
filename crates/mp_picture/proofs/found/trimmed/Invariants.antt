use Rattle.std.proofs.Common.{◌≡◌, ◌+◌, ◌≤◌, ◌==◌, length, take}
use Rattle.std.specs.List.{suffix_len}
use Rattle.mp_picture.proofs.found.trimmed.Given as goal

-- blanks stand from the end on
abbrev pub invariant-loop-end : goal.invariant-loop-end
invariant-loop-end l = record {
  within : l.end ≤ length l.marks;
  blanks : l.end + suffix_len (λ b. b == 32) l.marks ≡ length l.marks + suffix_len (λ b. b == 32) (take l.end l.marks);
}

abbrev pub decreases-loop-end : goal.decreases-loop-end
decreases-loop-end l = l.end
