use Rattle.std.proofs.Common.{◌≡◌, take}
use Rattle.mp_modules.specs.declared.finding_code.FindingCode.{FindingCode}
use Rattle.mp_model.specs.declared.finding.Place.{Place}
use Rattle.mp_picture.specs.svg.MarkNumbers.{number_of}
use Rattle.mp_picture.specs.svg.MarkRows.{last_of}
use Rattle.mp_picture.proofs.svg.mark_rows.lasts_of.Given as goal

-- the last columns so far
abbrev pub invariant-loop-finding : goal.invariant-loop-finding
invariant-loop-finding l = (place : Place) (code : FindingCode) → number_of l.lasts place code ≡ last_of l.columns place code (take l.finding-index l.found)
