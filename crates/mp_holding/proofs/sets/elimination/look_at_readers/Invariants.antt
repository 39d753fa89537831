use Rattle.std.proofs.Common.{◌≡◌, ◌≤◌, ◌*◌, ℕ, length, suc}
use Rattle.mp_holding.specs.declared.sets.needs.Need.TheVariants.{Member}
use Rattle.mp_holding.specs.sets.Needs.{need_at}
use Rattle.mp_holding.specs.sets.Elimination.{IsGood, left_count}
use Rattle.mp_holding.proofs.lemmas.sets.ReaderLemmas.{unnamed_before}
use Rattle.mp_holding.proofs.sets.elimination.look_at_readers.Given as goal

abbrev pub invariant-loop-behind : goal.invariant-loop-behind
invariant-loop-behind l = record {
  good : IsGood l.shape l.needs (unnamed_before l.needs l.number l.behind) l.left.marks.items l.left.gone.items;
  names : (place : ℕ) → l.behind ≡ suc place → need_at l.needs place ≡ Member l.number;
  within : l.behind ≤ 4 * length l.needs;
  fewer : left_count l.left.marks.items l.left.gone.items ≤ left_count l.fn.left.marks.items l.fn.left.gone.items;
}

abbrev pub decreases-loop-behind : goal.decreases-loop-behind
decreases-loop-behind l = l.behind
