-- Where each title stands in the guide.
use Rattle.std.proofs.Common.{◌≡◌, length, refl, arith}
use Rattle.std.specs.List.{Contains}
use Rattle.mp_modules.specs.declared.kind.Kind.{Kind}
use Rattle.mp_modules.specs.declared.kind.Kind.TheVariants as kinds
use Rattle.mp_modules.specs.declared.function.Function.TheVariants as functions
use Rattle.mp_modules.specs.declared.finding_code.FindingCode.{FindingCode}
use Rattle.mp_modules.specs.declared.finding_code.FindingCode.TheVariants as found
use Rattle.mp_records.specs.declared.edit_error.EditError.{EditError}
use Rattle.mp_records.specs.declared.edit_error.EditError.TheVariants as edits
use Rattle.mp_text.specs.declared.lexing.line_error.LineError.TheVariants as lines
use Rattle.mp_text.specs.declared.text_code.TextCode.{TextCode}
use Rattle.mp_text.specs.declared.text_code.TextCode.TheVariants as texts
use Rattle.mp_request.specs.declared.explain.check_word.CheckWord.{CheckWord}
use Rattle.mp_request.specs.declared.explain.check_word.CheckWord.TheVariants as words
use Rattle.mp_request.specs.declared.explain.seat_code.SeatCode.{SeatCode}
use Rattle.mp_request.specs.declared.explain.seat_code.SeatCode.TheVariants as seats
use Rattle.mp_request.specs.declared.explain.topic.Topic.TheVariants.{Text, Edit, Seat, Finding, Check, Kind as OfKind, Steady}
use Rattle.mp_request.specs.explain.Laws.{TellsOfEach, titles}
use Rattle.mp_request.specs.explain.Subjects.{title}

many : length titles ≡ 74
many = refl

text_told : (code : TextCode) → Contains titles (title (Text code))
text_told (texts.Line lines.NotAscii) = (0, omega (arith, many), refl)
text_told (texts.Line lines.UnknownStatement) = (1, omega (arith, many), refl)
text_told (texts.Line lines.WordCount) = (2, omega (arith, many), refl)
text_told (texts.Line lines.BadNumber) = (3, omega (arith, many), refl)
text_told texts.NoHorizon = (4, omega (arith, many), refl)
text_told texts.SecondHorizon = (5, omega (arith, many), refl)
text_told (texts.Refused error) = (6, omega (arith, many), refl)
text_told texts.TooLong = (7, omega (arith, many), refl)
text_told (texts.Line lines.OutOfMemory) = (8, omega (arith, many), refl)
text_told texts.BadFormat = (9, omega (arith, many), refl)

edit_told : (error : EditError) → Contains titles (title (Edit error))
edit_told edits.NameTaken = (10, omega (arith, many), refl)
edit_told edits.BadName = (11, omega (arith, many), refl)
edit_told edits.NoSuchWire = (12, omega (arith, many), refl)
edit_told edits.NoSuchModule = (13, omega (arith, many), refl)
edit_told edits.NoSuchBundle = (14, omega (arith, many), refl)
edit_told edits.BadWidth = (15, omega (arith, many), refl)
edit_told edits.BadLevel = (16, omega (arith, many), refl)
edit_told edits.BadDelay = (17, omega (arith, many), refl)
edit_told edits.BadPort = (18, omega (arith, many), refl)
edit_told edits.WrongPorts = (19, omega (arith, many), refl)
edit_told edits.BadParam = (20, omega (arith, many), refl)
edit_told edits.WidthMismatch = (21, omega (arith, many), refl)
edit_told edits.AlreadyDriven = (22, omega (arith, many), refl)
edit_told edits.StillUsed = (23, omega (arith, many), refl)
edit_told edits.BadStimulus = (24, omega (arith, many), refl)
edit_told edits.NoStimulus = (25, omega (arith, many), refl)
edit_told edits.TableFull = (26, omega (arith, many), refl)
edit_told edits.HistoryFull = (27, omega (arith, many), refl)
edit_told edits.OutOfMemory = (28, omega (arith, many), refl)
edit_told edits.BadBatch = (29, omega (arith, many), refl)
edit_told (edits.InBatch place number) = (30, omega (arith, many), refl)

seat_told : (code : SeatCode) → Contains titles (title (Seat code))
seat_told seats.NotADesigner = (31, omega (arith, many), refl)
seat_told seats.NoWork = (32, omega (arith, many), refl)
seat_told seats.NotKept = (33, omega (arith, many), refl)

finding_told : (code : FindingCode) → Contains titles (title (Finding code))
finding_told found.MergeCollision = (34, omega (arith, many), refl)
finding_told found.Withdrawn = (35, omega (arith, many), refl)
finding_told found.SelectUnstable = (36, omega (arith, many), refl)
finding_told found.CallOverlap = (37, omega (arith, many), refl)
finding_told found.DoneWithoutCall = (38, omega (arith, many), refl)
finding_told found.RepeatRequest = (39, omega (arith, many), refl)
finding_told found.DoneWithoutGrant = (40, omega (arith, many), refl)
finding_told found.CaptureWhileHeld = (41, omega (arith, many), refl)
finding_told found.PassWhileOpen = (42, omega (arith, many), refl)
finding_told found.DataAtCapture = (43, omega (arith, many), refl)
finding_told found.DataWhileBusy = (44, omega (arith, many), refl)
finding_told found.Setup = (45, omega (arith, many), refl)
finding_told found.RequestWhileBusy = (46, omega (arith, many), refl)
finding_told found.AckWhileIdle = (47, omega (arith, many), refl)

check_told : (word : CheckWord) → Contains titles (title (Check word))
check_told words.Late = (48, omega (arith, many), refl)
check_told words.Deadlock = (49, omega (arith, many), refl)
check_told words.Becomes = (50, omega (arith, many), refl)
check_told words.Undriven = (51, omega (arith, many), refl)
check_told words.Unread = (52, omega (arith, many), refl)
check_told words.Busy = (53, omega (arith, many), refl)

kind_told : (kind : Kind) → Contains titles (title (OfKind kind))
kind_told (kinds.Function functions.Buf) = (54, omega (arith, many), refl)
kind_told (kinds.Function functions.Not) = (55, omega (arith, many), refl)
kind_told (kinds.Function functions.Xor) = (56, omega (arith, many), refl)
kind_told kinds.C = (57, omega (arith, many), refl)
kind_told kinds.Toggle = (58, omega (arith, many), refl)
kind_told kinds.Select = (59, omega (arith, many), refl)
kind_told kinds.Call = (60, omega (arith, many), refl)
kind_told kinds.Arbiter = (61, omega (arith, many), refl)
kind_told kinds.Reg = (62, omega (arith, many), refl)
kind_told (kinds.Function functions.AddC) = (63, omega (arith, many), refl)
kind_told (kinds.Function functions.XorC) = (64, omega (arith, many), refl)
kind_told (kinds.Function functions.Sum) = (65, omega (arith, many), refl)
kind_told (kinds.Function functions.Bit) = (66, omega (arith, many), refl)
kind_told (kinds.Function functions.And) = (67, omega (arith, many), refl)
kind_told (kinds.Function functions.Or) = (68, omega (arith, many), refl)
kind_told (kinds.Function functions.Sub) = (69, omega (arith, many), refl)
kind_told (kinds.Function functions.Less) = (70, omega (arith, many), refl)
kind_told (kinds.Function functions.Mux) = (71, omega (arith, many), refl)
kind_told (kinds.Function functions.Join) = (72, omega (arith, many), refl)

pub tells_of_each : TellsOfEach
tells_of_each (Text code) = text_told code
tells_of_each (Edit error) = edit_told error
tells_of_each (Seat code) = seat_told code
tells_of_each (Finding code) = finding_told code
tells_of_each (Check word) = check_told word
tells_of_each (OfKind kind) = kind_told kind
tells_of_each Steady = (73, omega (arith, many), refl)
