use Rattle.std.proofs.Common.{Ok, take}
use Rattle.std.specs.List.{flat_map}
use Rattle.mp_streams.specs.Outgoing.{Writes}
use Rattle.mp_questions.specs.causes.Paths.{share_line}
use Rattle.mp_questions.proofs.causes.path.put_shares.Given as goal

-- the shares so far are written
abbrev pub invariant-loop-share : goal.invariant-loop-share
invariant-loop-share g l = Writes {T = Unit {0}} (Ok tt) l.fn.out l.out (flat_map (share_line l.netlist) (take l.share-index l.shares))
