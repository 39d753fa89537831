use Rattle.std.proofs.Common.{◌≡◌, ◌+◌, ◌++◌, List, length, vec_len}
use Rattle.mp_desk.specs.Holders.{Working, ExtendsEach, BeginWithEach, accepted_by}
use Rattle.mp_desk.proofs.parting.part_designers.Given as goal

abbrev pub invariant-loop-designer : goal.invariant-loop-designer
invariant-loop-designer g l =
    ((done : List Working) × (l.initial.designers.items ≡ l.designers.items ++ done) × ExtendsEach l.publication.story done × BeginWithEach l.writer.authors done
    × (l.all.parts ≡ l.initial.all.parts + length done) × (l.all.amount ≡ l.initial.all.amount + accepted_by done))

abbrev pub decreases-loop-designer : goal.decreases-loop-designer
decreases-loop-designer g l = vec_len l.designers
