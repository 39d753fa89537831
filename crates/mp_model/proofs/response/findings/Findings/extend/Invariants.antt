use Rattle.std.proofs.Common.{◌≡◌, ◌++◌, take}
use Rattle.mp_modules.specs.Findings.{by_number}
use Rattle.mp_model.proofs.lemmas.response.FindingLemmas.{findings_among}
use Rattle.mp_model.proofs.response.findings.Findings.extend.Given as goal

-- the codes so far stand behind what was there
abbrev pub invariant-loop-code : goal.invariant-loop-code
invariant-loop-code l = l.self ≡ l.initial.self ++ findings_among l.time l.set (take l.code-index by_number)
