-- The step of one line.
use Rattle.std.proofs.Common.{◌≡◌, ◌<◌, inl, inr, ℕ, Bool, true, false, List, [], ◌∷◌, ◌++◌, length, take, Option, Some, None, Result, Ok, Err, refl, sym, ap, subst, ◌∙◌}
use mathlib.Core.List.{IsPrefix}
use Rattle.mp_records.specs.declared.edit.Edit.{Edit}
use Rattle.mp_records.specs.declared.edit_error.EditError.{EditError}
use Rattle.mp_records.specs.declared.edit_error.EditError.TheVariants.{OutOfMemory}
use Rattle.mp_streams.specs.Outgoing.{Outgoing}
use Rattle.mp_streams.specs.WriteErrors.{Writes}
use Rattle.mp_streams.specs.declared.write_error.WriteError.{WriteError}
use Rattle.mp_text.specs.declared.question.Question.{Question}
use Rattle.mp_text.specs.declared.script_line.Line.TheVariants.{Empty}
use Rattle.mp_text.specs.ScriptLines.{line_at}
use Rattle.mp_version.specs.Stories.{Story}
use Rattle.mp_version.specs.Extending.{Extends}
use Rattle.mp_desk.specs.Holders.{RefusedAfter}
use Rattle.mp_version.proofs.PrefixLemmas.{prefix_self, prefix_take, prefix_trans, extends_self}
use Rattle.mp_seats.specs.talk.Answers.{PutsAnswer}
use Rattle.mp_seats.specs.declared.refusal.Refusal.TheVariants as refusals
use Rattle.mp_seats.specs.declared.reply.Reply.{Reply}
use Rattle.mp_seats.specs.declared.reply.Reply.TheVariants as replies
use Rattle.mp_seats.specs.Widths.{written_length}
use Rattle.mp_seats.specs.Replies.{Writing, signed_writing, IsEditLine, IsQuestionLine, IsRefusal, IsRefusalAt, IsReadRefusal, IsReadAnswer}
use Rattle.mp_seats.specs.Steps.{Seated, with_seen, with_read, with_refusal, AddsRead, Submits, IsRefusedLine, IsStep, IsSignedStep, PutsEdit, PutsAsked}

-- an edit that was refused
refusal : (before seen : Story) (edit : Edit) (error : EditError) → RefusedAfter before seen edit error → IsRefusal seen edit error
refusal before seen edit error (inl (inl judged)) = inl judged
refusal before seen edit error (inl (inr want)) = inr want.0
refusal before seen edit error (inr want) = inr want.0

-- a refusal that was counted behind one who then saw this
refused_line : (w : Writing) (edits : Bool) (old seen new : Seated) (line : Option (List ℕ)) (text : List ℕ) → Extends seen.seen old.seen → IsPrefix old.signed seen.signed
    → seen ≡ with_seen old seen.seen seen.signed seen.reads → new ≡ with_refusal edits seen → IsRefusalAt w edits seen.seen line text → IsRefusedLine w edits old line new text
refused_line w edits old seen new line text extends begins same counted replied =
    let last : new.seen ≡ seen.seen = ap (λ (s : Seated). s.seen) counted in
    let by : new.signed ≡ seen.signed = ap (λ (s : Seated). s.signed) counted in
    let reads : new.reads ≡ seen.reads = ap (λ (s : Seated). s.reads) counted in
    record {
      extends = subst (λ (s : Story). Extends s old.seen) (sym last) extends;
      begins = subst (IsPrefix old.signed) (sym by) begins;
      stands = counted ∙ ap (with_refusal edits) (same ∙ (λ i. with_seen old (sym last i) (sym by i) (sym reads i)));
      replied = subst (λ (s : Story). IsRefusalAt w edits s line text) (sym last) replied;
    }

-- ---- what is known of authors

-- a step forgets no author
pub step_begins : (w : Writing) (edits : Bool) (old : Seated) (line : Option (List ℕ)) (new : Seated) (text : List ℕ) → IsStep w edits old line new text → IsPrefix old.signed new.signed
step_begins w edits old line new text (inl step) =
    subst (IsPrefix old.signed) (sym (ap (λ (s : Seated). s.signed) step.stands)) (prefix_trans old.signed step.authors (step.authors ++ old.number ∷ []) step.begins (old.number ∷ [], refl))
step_begins w edits old line new text (inr (inl step)) = step.begins
step_begins w edits old line new text (inr (inr step)) = step.begins

-- ---- edits

module _ {S : Type 0} (answer : Story → List ℕ → Question → List ℕ) (reply : Reply → List ℕ) (r : Result (Unit {0}) WriteError) (old new : Seated) (edit : Edit) (a b : Outgoing S) where
  accepted_so : (n : ℕ) → Submits true (Ok n) old new edit → Writes r a b (reply (replies.Accepted n)) → PutsEdit (signed_writing answer reply) true r old new edit a b
  accepted_so n is put = (
    reply (replies.Accepted n),
    (λ line says authors more.
        inl
        (record {
          edit = edit;
          before = is.1;
          authors = is.3;
          edits_may = refl;
          is_edit = says;
          extends = is.2;
          begins = is.4;
          each = is.5;
          stands = is.6;
          replied = ap (λ (k : ℕ). reply (replies.Accepted k)) is.7;
        })),
    put,
  )

  refused_so : (seen : Seated) (error : EditError) → Submits true (Err (refusals.Refused error)) old seen edit → new ≡ with_refusal true seen → Writes r a b (reply (replies.Refused error))
      → PutsEdit (signed_writing answer reply) true r old new edit a b
  refused_so seen error is counted put = (
    reply (replies.Refused error),
    (λ line says authors more. inr (inl (refused_line (signed_writing answer reply authors) true old seen new line (reply (replies.Refused error)) is.3 is.4 is.2 counted (by authors line says)))),
    put,
  )
    where
      by : (authors : List ℕ) (line : Option (List ℕ)) → IsEditLine line edit → IsRefusalAt (signed_writing answer reply authors) true seen.seen line (reply (replies.Refused error))
      by authors None says = absurd says
      by authors (Some line) says =
          inl (subst (λ read. IsReadRefusal (signed_writing answer reply authors) true seen.seen read (reply (replies.Refused error))) (sym says) (inl (error, refusal old.seen seen.seen edit error is.1, refl)))

  not_kept_so : (seen : Seated) → Submits true (Err refusals.NotKept) old seen edit → new ≡ with_refusal true seen → Writes r a b (reply replies.NotKept) → PutsEdit (signed_writing answer reply) true r old new edit a b
  not_kept_so seen is counted put = (
    reply replies.NotKept,
    (λ line says authors more. inr (inl (refused_line (signed_writing answer reply authors) true old seen new line (reply replies.NotKept) is.2 is.3 is.1 counted (by authors line says)))),
    put,
  )
    where
      by : (authors : List ℕ) (line : Option (List ℕ)) → IsEditLine line edit → IsRefusalAt (signed_writing answer reply authors) true seen.seen line (reply replies.NotKept)
      by authors None says = absurd says
      by authors (Some line) says = inl (subst (λ read. IsReadRefusal (signed_writing answer reply authors) true seen.seen read (reply replies.NotKept)) (sym says) (inr refl))

  pub edit_accepted : (edits : Bool) (n : ℕ) → Submits edits (Ok n) old new edit → Writes r a b (reply (replies.Accepted n)) → PutsEdit (signed_writing answer reply) edits r old new edit a b
  edit_accepted true n is put = accepted_so n is put
  edit_accepted false n is put = absurd (cc (is.0))

  pub edit_refused : (edits : Bool) (seen : Seated) (error : EditError) → Submits edits (Err (refusals.Refused error)) old seen edit → new ≡ with_refusal edits seen
      → Writes r a b (reply (replies.Refused error)) → PutsEdit (signed_writing answer reply) edits r old new edit a b
  edit_refused true seen error is counted put = refused_so seen error is counted put
  edit_refused false seen error is counted put = absurd (cc (is.0))

  pub edit_not_kept : (edits : Bool) (seen : Seated) → Submits edits (Err refusals.NotKept) old seen edit → new ≡ with_refusal edits seen → Writes r a b (reply replies.NotKept)
      → PutsEdit (signed_writing answer reply) edits r old new edit a b
  edit_not_kept true seen is counted put = not_kept_so seen is counted put
  edit_not_kept false seen is counted put = absurd (cc (is.0))

-- ---- questions

module _ {S : Type 0} (answer : Story → List ℕ → Question → List ℕ) (reply : Reply → List ℕ) (edits : Bool) (r : Result (Unit {0}) WriteError) (old new : Seated) (question : Question) (a b : Outgoing S) where
  -- it was answered after the version that was read for it
  pub asked_answered : (seen : Story) (authors : List ℕ) → new ≡ with_read old seen authors → Extends seen old.seen → IsPrefix old.signed authors → length new.signed ≡ length new.seen.edits
      → Writes r a b (answer seen authors question) → PutsAsked (signed_writing answer reply) edits r old new question a b
  asked_answered seen authors same extends begins each put = (answer seen authors question, by, put)
    where
      is_seen : new.seen ≡ seen
      is_seen = ap (λ (s : Seated). s.seen) same

      is_signed : new.signed ≡ authors
      is_signed = ap (λ (s : Seated). s.signed) same

      are_read : new.reads ≡ seen ∷ old.reads
      are_read = ap (λ (s : Seated). s.reads) same

      mine : (all : List ℕ) → IsPrefix new.signed all → answer seen authors question ≡ answer new.seen (take (length new.seen.edits) all) question
      mine all more =
          ap (λ (s : Story). answer s authors question) (sym is_seen)
          ∙ ap (λ l. answer new.seen l question) (sym is_signed ∙ sym (ap (λ n. take n all) (sym each) ∙ prefix_take new.signed all more))

      by : (line : Option (List ℕ)) → IsQuestionLine line question → IsSignedStep (signed_writing answer reply) edits old line new (answer seen authors question)
      by None says = absurd says
      by (Some line) says = λ all more.
          inr
          (inr
          (record {
            extends = subst (λ (s : Story). Extends s old.seen) (sym is_seen) extends;
            begins = subst (IsPrefix old.signed) (sym is_signed) begins;
            stands = same ∙ (λ i. with_seen old (sym is_seen i) (sym is_signed i) (sym are_read i));
            read = subst (λ read. AddsRead new.seen read old.reads new.reads) (sym says) (are_read ∙ ap (λ (s : Story). s ∷ old.reads) (sym is_seen));
            replied = subst (λ read. IsReadAnswer (signed_writing answer reply all) new.seen read (answer seen authors question)) (sym says) (mine all more);
          }))

  -- memory was wanting for the version
  pub asked_refused : (seen : Seated) → seen ≡ with_seen old old.seen old.signed seen.reads → new ≡ with_refusal edits seen → Writes r a b (reply (replies.Refused OutOfMemory))
      → PutsAsked (signed_writing answer reply) edits r old new question a b
  asked_refused seen same counted put = (reply (replies.Refused OutOfMemory), by, put)
    where
      still : seen.seen ≡ old.seen
      still = ap (λ (s : Seated). s.seen) same

      known : seen.signed ≡ old.signed
      known = ap (λ (s : Seated). s.signed) same

      by : (line : Option (List ℕ)) → IsQuestionLine line question → IsSignedStep (signed_writing answer reply) edits old line new (reply (replies.Refused OutOfMemory))
      by None says = absurd says
      by (Some line) says = λ authors more.
          inr
          (inl
          (refused_line (signed_writing answer reply authors) edits old seen new (Some line) (reply (replies.Refused OutOfMemory)) (subst (λ (s : Story). Extends s old.seen) (sym still) (extends_self old.seen))
          (subst (IsPrefix old.signed) (sym known) (prefix_self old.signed)) (same ∙ (λ i. with_seen old (sym still i) (sym known i) seen.reads)) counted
          (inl (subst (λ read. IsReadRefusal (signed_writing answer reply authors) edits seen.seen read (reply (replies.Refused OutOfMemory))) (sym says) refl))))

-- ---- lines

module _ {S : Type 0} (answer : Story → List ℕ → Question → List ℕ) (reply : Reply → List ℕ) (edits : Bool) (r : Result (Unit {0}) WriteError) (old new : Seated) (a b : Outgoing S) where
  -- a line that isn't read, and is counted
  counted : (line : Option (List ℕ)) (text : List ℕ) → new ≡ with_refusal edits old → ((authors : List ℕ) → IsRefusalAt (signed_writing answer reply authors) edits old.seen line text) → Writes r a b text → PutsAnswer (IsSignedStep (signed_writing answer reply) edits) r old new line a b
  counted line text same replied put = (
    text,
    (λ authors more. inr (inl (refused_line (signed_writing answer reply authors) edits old old new line text (extends_self old.seen) (prefix_self old.signed) refl same (replied authors)))),
    put,
  )

  pub too_long : (line : Option (List ℕ)) → line ≡ None → new ≡ with_refusal edits old → Writes r a b (reply replies.TooLong) → PutsAnswer (IsSignedStep (signed_writing answer reply) edits) r old new line a b
  too_long line none same put = rw none (counted None (reply replies.TooLong) same (λ authors. refl) put)

  module _ (line : List ℕ) where
    pub too_wide : 65536 < written_length line → new ≡ with_refusal edits old → Writes r a b (reply replies.TooLong) → PutsAnswer (IsSignedStep (signed_writing answer reply) edits) r old new (Some line) a b
    too_wide wide same put = counted (Some line) (reply replies.TooLong) same (λ authors. inr (inr (wide, refl))) put

    pub line_empty : line_at line ≡ Ok Empty → new ≡ old → Writes r a b [] → PutsAnswer (IsSignedStep (signed_writing answer reply) edits) r old new (Some line) a b
    line_empty is same put = (
      [],
      (λ authors more.
          inr
          (inr
          (record {
            extends = subst (λ (s : Seated). Extends s.seen old.seen) (sym same) (extends_self old.seen);
            begins = subst (λ (s : Seated). IsPrefix old.signed s.signed) (sym same) (prefix_self old.signed);
            stands = subst (λ (s : Seated). s ≡ with_seen old s.seen s.signed s.reads) (sym same) refl;
            read = subst (λ read. AddsRead new.seen read old.reads new.reads) (sym is) (ap (λ (s : Seated). s.reads) same);
            replied = subst (λ read. IsReadAnswer (signed_writing answer reply authors) new.seen read []) (sym is) refl;
          }))),
      put,
    )
