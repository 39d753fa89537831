use Rattle.std.proofs.Common.{◌≡◌, ◌<◌, List, ℕ, length, ap, sym, subst, rules, arith}
use Rattle.mp_text.specs.lexing.Lines.{lines_of}
use Rattle.mp_text.specs.ScriptLines.{line_at}
use Rattle.mp_meeting.specs.Sittings.{DesignerTally, begun, Takes}
use Rattle.mp_meeting.specs.Seats.{working}
use Rattle.mp_meeting.proofs.SittingLemmas.{SoFar, none_yet, one_line, has_worked, refused_by_one, lines_of-none}
use Rattle.mp_meeting.proofs.designer_tally.DesignerTally.work.Goals as goal

pub loop-rest-preserved : goal.loop-rest-preserved
loop-rest-preserved g c =
    let start = c.args.self.now.seen in
    let all = lines_of c.args.lines.now in
    let rest = c.loop-rest.rest.now in
    let line = c.first_line.result.0.now in
    let others = c.first_line.result.1.now in
    let some : 0 < length rest = search rules in
    let here = subst (λ (lines : List (List ℕ)). SoFar start all lines c.loop-rest.self) (c.first_line.ensures.lines some) c.loop-rest.invariant.so_far in
    let taken : Takes c.loop-rest.self c.take_line.new.self (line_at line) = search rules in
    let by_one = refused_by_one c.loop-rest.self c.take_line.new.self (line_at line) taken in
    let shorter = c.first_line.ensures.shorter some in
    record {
      so_far = one_line start all line (lines_of others) c.loop-rest.self c.take_line.new.self here taken;
      few = omega (arith, by_one, shorter, c.loop-rest.invariant.few);
    }

pub returns : goal.returns
returns g c =
    let start = c.args.self.now.seen in
    let all = lines_of c.args.lines.now in
    let none : length c.loop-rest.rest.now ≡ 0 = search rules in
    let here = subst (λ (lines : List (List ℕ)). SoFar start all lines c.loop-rest.self) (lines_of-none c.loop-rest.rest.now none) c.loop-rest.invariant.so_far in
    λ whole. has_worked start all c.loop-rest.self here

pub loop-rest-init : goal.loop-rest-init
loop-rest-init g c =
    let lines = lines_of c.args.lines.now in
    let start = c.args.self.now.seen in
    let me = working c.args.self.now in
    let fresh : c.args.self.now ≡ begun me = c.requires in
    record {
      so_far = subst (λ (s : DesignerTally). SoFar start lines lines s) (sym fresh) (none_yet me lines);
      few = let none : c.args.self.now.refused ≡ 0 = ap (λ (s : DesignerTally). s.refused) fresh in omega (arith, none);
    }
