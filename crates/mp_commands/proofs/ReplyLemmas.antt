-- The reply to a line that was read.
use Rattle.std.specs.Prelude.{◌≡◌, ◌⊎◌, ◌&&◌, ◌∷◌, if◌then◌else◌}
use Rattle.mp_commands.proofs.Names.{inl, inr, ℕ, Bool, true, false, List, [], length, Result, Ok, Err, IsErrAnd, refl, sym, ap, subst, ◌∙◌, true≢false, length-append, Edit, EditError, Circuit, after_each, is_batch, may_want, RefusedBy, LineError, Line, Change, Ask, line_at, Outgoing, Writes, Failed, WriteError, puts_unmade, counted_edit, Kept, judged, IsOneMore, IsKeptAfter, IsNext, IsKeptNext, outcome, edit_text, PutsEdit, PutsReply}
use Rattle.mp_records.specs.declared.edit.Edit.TheVariants.{Single, Batch}
use Rattle.mp_records.specs.declared.edit_error.EditError.TheVariants as edits
use Rattle.mp_text.specs.declared.lexing.line_error.LineError.TheVariants.{OutOfMemory}
use Rattle.mp_text.specs.declared.question.Question.{Question}
use Rattle.mp_streams.specs.Outgoing as outs
use Rattle.mp_streams.specs.declared.write_error.WriteError.TheVariants as writes
use Rattle.mp_commands.specs.answers.Answers.{answer_text}
use Rattle.mp_commands.specs.answers.ShortReplies.{accepted_text, refused_text, unread_text}

-- ---- what becomes of an edit

module _ {S : Type 0} (r : Result (Unit {0}) Failed) (a b : Outgoing S) (old new : Kept) (edit : Edit) where
  kept_after : (wanting : Bool) (made : Result Circuit EditError) → outcome wanting old edit ≡ made → IsKeptAfter old edit made new → outs.Writes r a b (edit_text old made) → PutsEdit r a b old new edit
  kept_after wanting made is kept put = (wanting, rw is kept, rw is put)

  -- an accepted edit
  pub edit_accepted : (accepted : ℕ) → judged old edit ≡ Ok new.netlist → IsOneMore old edit new → accepted ≡ length new.edits → outs.Writes r a b (accepted_text accepted) → PutsEdit r a b old new edit
  edit_accepted accepted is more counted put = kept_after false (Ok new.netlist) is (refl, more) (subst (outs.Writes r a b) (ap accepted_text (counted ∙ ap length more.edits ∙ length-append old.edits (edit ∷ []))) put)

  -- a refused edit
  pub edit_refused : (error : EditError) → RefusedBy edit (judged old edit) error → new ≡ old → outs.Writes r a b (refused_text error) → PutsEdit r a b old new edit
  edit_refused error (inl is) stays put = kept_after false (Err error) is stays put
  edit_refused error (inr wanting) stays put =
      let is : outcome true old edit ≡ Err edits.OutOfMemory = ap (λ (b : Bool). if b then Err edits.OutOfMemory else judged old edit) wanting.1 in
      kept_after true (Err edits.OutOfMemory) is stays (subst (outs.Writes r a b) (ap refused_text wanting.0) put)

-- where the memory for an edit was wanting, nothing is changed, whether or not it would be accepted
wanting_keeps : (old : Kept) (edit : Edit) → IsKeptAfter old edit (outcome true old edit) old
wanting_keeps old (Single edit) = by (judged old (Single edit))
  where
    by : (r : Result Circuit EditError) → IsKeptAfter old (Single edit) (if true && may_want (Single edit) r then Err edits.OutOfMemory else r) old
    by (Ok n) = refl
    by (Err error) = refl
wanting_keeps old (Batch several) = by (is_batch several)
  where
    by : (b : Bool) → IsKeptAfter old (Batch several) (if true && b then Err edits.OutOfMemory else counted_edit old.edits (if b then after_each 1 old.netlist several else Err edits.BadBatch)) old
    by true = refl
    by false = refl

read_keeps : (old : Kept) (read : Result Line LineError) → IsKeptNext true old read old
read_keeps old (Ok (Change edit)) = wanting_keeps old edit
read_keeps old read = refl

-- what was kept before a line may be kept after it: so each line may have a next one
pub next_keeps : (old : Kept) (line : List ℕ) → IsNext true old line old
next_keeps old line = read_keeps old (line_at line)

-- ---- a line and its reply

-- whether memory was wanting for a line
abbrev pub is_memory : LineError → Bool
is_memory OutOfMemory = true
is_memory error = false

module _ {S : Type 0} (r : Result (Unit {0}) WriteError) (a b : Outgoing S) (kept : Kept) where
  -- an edit
  pub change_replied : (now : Kept) (edit : Edit) (wanting : Bool) → IsKeptAfter kept edit (outcome wanting kept edit) now
      → Writes r a b (edit_text kept (outcome wanting kept edit)) → PutsReply r a b kept now (Ok (Change edit))
  change_replied now edit wanting after put = (wanting, after, put)

  -- a question, which changes nothing
  pub ask_replied : (question : Question) → Writes r a b (answer_text kept question) → PutsReply r a b kept kept (Ok (Ask question))
  ask_replied question put = (false, refl, put)

  -- a line that is not read, where memory was not wanting
  pub unread_replied : (line : List ℕ) (error : LineError) → (error ≡ OutOfMemory) ⊎ (line_at line ≡ Err error) → is_memory error ≡ false → Writes r a b (unread_text error) → PutsReply r a b kept kept (line_at line)
  unread_replied line error (inl memory) other put = absurd (true≢false (sym (ap is_memory memory) ∙ other))
  unread_replied line error (inr same) other put = rw same (false, refl, put)

-- memory was wanting for the line
pub memory_replied : {S : Type 0} (r : Result (Unit {0}) WriteError) (a : Outgoing S) (kept : Kept) (line : List ℕ) → IsErrAnd r (λ e. e ≡ writes.OutOfMemory) → PutsReply r a a kept kept (line_at line)
memory_replied r a kept line is = (true, next_keeps kept line, puts_unmade r writes.OutOfMemory a _ is refl)
