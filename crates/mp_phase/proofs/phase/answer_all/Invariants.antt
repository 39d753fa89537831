use Rattle.std.proofs.Common.{◌≡◌, ◌++◌, ℕ, ◌<◌, ◌≤◌, None, Option, List, length, take, slice_index_or}
use Rattle.mp_phase.specs.Lines.{all_asked}
use Rattle.mp_phase.specs.AnswerProtocols.{IsAnswerTo}
use Rattle.mp_phase.proofs.phase.answer_all.Given as goal

-- the mailboxes before a place have answered
abbrev pub invariant-loop-place : goal.invariant-loop-place
invariant-loop-place g l = record {
  freed : (k : ℕ) (d : Option (List _)) → k < l.place → slice_index_or l.mailboxes k d ≡ None;
  left : (k : ℕ) (d : Option (List _)) → l.place ≤ k → k < length l.mailboxes → slice_index_or l.mailboxes k d ≡ slice_index_or l.fn.mailboxes k d;
  done : (tasks : List _) → IsAnswerTo g.T.Work.gives tasks l.fn.own → IsAnswerTo g.T.Work.gives (tasks ++ all_asked (take l.place l.fn.mailboxes)) l.all;
}
