use Rattle.std.proofs.Common.{ℕ, List, sym, subst}
use mathlib.Core.List.{IsPrefix}
use Rattle.mp_version.specs.Stories.{Story}
use Rattle.mp_version.specs.Extending.{Extends}
use Rattle.mp_meeting.proofs.reading.read_open.Goals as goal

pub returns-in-Ok-clause-later : goal.returns-in-Ok-clause-later
returns-in-Ok-clause-later g c = record {
  extends = subst (λ (s : Story). Extends c.read.new.self.last s) c.loop.invariant.3
      (subst (λ (s : Story). Extends s c.loop.viewer.last) (sym c.in-Ok.ensures.last) c.in-Ok.ensures.later);
  begins = subst (λ (l : List ℕ). IsPrefix l c.read.new.self.signed) c.loop.invariant.4
      (subst (IsPrefix c.loop.viewer.signed) (sym c.in-Ok.ensures.authors.0) c.in-Ok.ensures.authors.1);
}
