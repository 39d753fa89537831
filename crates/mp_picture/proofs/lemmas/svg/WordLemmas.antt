-- The words of codes are short.
use Rattle.std.proofs.Common.{◌≤◌, length, arith}
use Rattle.mp_modules.specs.Findings.{code_word}
use Rattle.mp_modules.specs.declared.finding_code.FindingCode.{FindingCode}
use Rattle.mp_modules.specs.declared.finding_code.FindingCode.TheVariants as codes

pub word_short : (code : FindingCode) → length (code_word code) ≤ 18
word_short codes.MergeCollision = omega arith
word_short codes.Withdrawn = omega arith
word_short codes.SelectUnstable = omega arith
word_short codes.CallOverlap = omega arith
word_short codes.DoneWithoutCall = omega arith
word_short codes.RepeatRequest = omega arith
word_short codes.DoneWithoutGrant = omega arith
word_short codes.CaptureWhileHeld = omega arith
word_short codes.PassWhileOpen = omega arith
word_short codes.DataAtCapture = omega arith
word_short codes.DataWhileBusy = omega arith
word_short codes.Setup = omega arith
word_short codes.RequestWhileBusy = omega arith
word_short codes.AckWhileIdle = omega arith
