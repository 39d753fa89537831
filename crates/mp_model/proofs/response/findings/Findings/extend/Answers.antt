use Rattle.std.proofs.Common.{List, arith, ap, get_or}
use Rattle.mp_modules.specs.declared.finding_code.FindingCode.{FindingCode}
use Rattle.mp_modules.specs.declared.finding_code.FindingCode.TheVariants.{MergeCollision}
use Rattle.mp_model.proofs.lemmas.response.FindingLemmas.{extend_none, extend_more, extend_all, extend_empty}
use Rattle.mp_model.proofs.response.findings.Findings.extend.Goals as goal

pub loop-code-init : goal.loop-code-init
loop-code-init c = extend_none c.args.time c.args.set c.args.self.now

pub loop-code-preserved : goal.loop-code-preserved
loop-code-preserved c =
    extend_more c.args.time c.args.set c.loop-code.code-index (get_or c.by_number-code-items.result c.loop-code.code-index MergeCollision) MergeCollision c.contains.result c.args.self.now c.loop-code.self c.push_if.new.self c.loop-code-test.true (ap (λ (cs : List FindingCode). get_or cs c.loop-code.code-index MergeCollision) c.by_number-code-items.ensures) c.contains.ensures c.loop-code.invariant c.in_ok-push_if.ensures.ok

pub returns : goal.returns
returns c = record { ok = extend_all c.args.time c.args.set c.loop-code.code-index c.args.self.now c.loop-code.self (omega arith) c.loop-code.invariant }

pub returns-then-eq : goal.returns-then-eq
returns-then-eq c = record { ok = extend_empty c.args.time c.args.set c.empty.result c.args.self.now c.if-eq.ensures c.empty.ensures }
