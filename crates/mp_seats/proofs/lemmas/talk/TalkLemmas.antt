-- A conversation, line after line.
use Rattle.std.proofs.Common.{◌≡◌, ◌⊎◌, inl, inr, ℕ, ◌<◌, Bool, true, false, List, [], ◌∷◌, ◌++◌, append_assoc, length, map, Result, Ok, Err, refl, sym, ap, ◌∙◌}
use Rattle.std.specs.Io.KnownBytes.{Consumes, IsAtEnd}
use Rattle.std.specs.List.{before_first, after_first}
use Rattle.std.proofs.KnownBytes.{Consumes-nil, Consumes-trans}
use Rattle.std.proofs.lemmas.List.{append-nil, map-append}
use Rattle.mp_streams.specs.Outgoing.{Outgoing}
use Rattle.mp_streams.specs.WriteErrors.{Writes}
use Rattle.mp_streams.specs.declared.failed.Failed.{Failed}
use Rattle.mp_streams.specs.declared.write_error.WriteError.{WriteError}
use Rattle.mp_streams.specs.declared.write_error.WriteError.TheVariants as writes
use Rattle.mp_streams.proofs.OutLemmas.{puts_none, puts_then}
use Rattle.mp_text.specs.lexing.Lines.{is_line_feed, lines_of}
use Rattle.mp_text.proofs.lemmas.lexing.LineLemmas.{lines_of-cons}
use Rattle.mp_text.specs.lines.Given.{given, has_line_feed}
use Rattle.mp_text.specs.lines.Incoming.{Incoming, IsFirstLine, ReadsLine}
use Rattle.mp_text.proofs.lemmas.lines.FeedLemmas.{lines_within}
use Rattle.mp_seats.specs.declared.talk.talk_fault.TalkFault.TheVariants.{ReadFailed}
use Rattle.mp_seats.specs.talk.TalkFaults.{counted_reads, fault_of_write}
use Rattle.mp_seats.specs.talk.Answers.{Answering, AreAnswers, PutsAnswer}
use Rattle.mp_seats.specs.talk.Conversations.{Conversed}
use Rattle.mp_seats.proofs.lemmas.talk.AnswerLemmas.{no_answers, one_more}

-- these lines were answered, and those of what is held and of more bytes follow
pub record IsTalking {S K : Type 0} (Answers : Answering K) (first now : Incoming) (kept here : K) (before out : Outgoing S) : Type 0 where
  pub bytes : List ℕ
  pub lines : List (List ℕ)
  pub text : List ℕ
  pub taken : Consumes first.left now.left bytes
  pub goes_on : (more : List ℕ) → (now.ended ≡ true → more ≡ []) → lines_of ((first.held ++ bytes) ++ more) ≡ lines ++ lines_of (now.held ++ more)
  pub answers : AreAnswers Answers kept (map given lines) here text
  pub put : Writes {T = Unit {0}} (Ok tt) before out text

pub begins : {S K : Type 0} (Answers : Answering K) (first : Incoming) (kept : K) (before : Outgoing S) → IsTalking Answers first first kept kept before before
begins Answers first kept before = record {
  bytes = [];
  lines = [];
  text = [];
  taken = Consumes-nil first.left;
  goes_on = λ more _. ap (λ l. lines_of (l ++ more)) (append-nil first.held);
  answers = no_answers Answers kept;
  put = puts_none before;
}

-- ---- the first line of what is held and was taken

first_ended : (bytes more : List ℕ) → 0 < length bytes → more ≡ [] → lines_of (bytes ++ more) ≡ before_first is_line_feed bytes ∷ lines_of (after_first is_line_feed bytes ++ more)
first_ended bytes more some none =
    ap (λ l. lines_of (bytes ++ l)) none ∙ ap lines_of (append-nil bytes) ∙ lines_of-cons bytes some
    ∙ ap (λ l. before_first is_line_feed bytes ∷ lines_of l) (sym (append-nil (after_first is_line_feed bytes)))
    ∙ ap (λ l. before_first is_line_feed bytes ∷ lines_of (after_first is_line_feed bytes ++ l)) (sym none)

first_line : (bytes more : List ℕ) (new : Incoming) → IsFirstLine bytes new → (new.ended ≡ true → more ≡ [])
    → lines_of (bytes ++ more) ≡ before_first is_line_feed bytes ∷ lines_of (new.held ++ more)
first_line bytes more new is none = by is.ends ∙ ap (λ l. before_first is_line_feed bytes ∷ lines_of (l ++ more)) (sym is.rest)
  where
    by : (has_line_feed bytes ≡ true) ⊎ (new.ended ≡ true) → lines_of (bytes ++ more) ≡ before_first is_line_feed bytes ∷ lines_of (after_first is_line_feed bytes ++ more)
    by (inl feed) = lines_within bytes more feed
    by (inr ended) = first_ended bytes more is.some (none ended)

-- a read took more bytes
module _ {S K : Type 0} (Answers : Answering K) (first now new : Incoming) (kept here : K) (before out : Outgoing S) (talk : IsTalking Answers first now kept here before out) where
  more_taken : {r : Result Bool Failed} (read : ReadsLine r now new) → Consumes first.left new.left (talk.bytes ++ read.bytes)
  more_taken {r = r} read = Consumes-trans _ _ _ _ _ talk.taken read.taken

  split_at : {r : Result Bool Failed} (read : ReadsLine r now new) (more : List ℕ) → (new.ended ≡ true → more ≡ [])
      → lines_of ((first.held ++ (talk.bytes ++ read.bytes)) ++ more) ≡ talk.lines ++ lines_of ((now.held ++ read.bytes) ++ more)
  split_at {r = r} read more none =
      let behind : now.ended ≡ true → read.bytes ++ more ≡ [] = λ end. ap (λ l. l ++ more) (read.none end) ∙ none (read.ended end) in
      ap lines_of (ap (λ l. l ++ more) (sym (append_assoc first.held talk.bytes read.bytes)) ∙ append_assoc (first.held ++ talk.bytes) read.bytes more)
      ∙ talk.goes_on (read.bytes ++ more) behind ∙ ap (λ l. talk.lines ++ lines_of l) (sym (append_assoc now.held read.bytes more))

  -- without any behind them
  split_whole : {r : Result Bool Failed} (read : ReadsLine r now new) → lines_of (first.held ++ (talk.bytes ++ read.bytes)) ≡ talk.lines ++ lines_of (now.held ++ read.bytes)
  split_whole {r = r} read =
      ap lines_of (sym (append-nil (first.held ++ (talk.bytes ++ read.bytes)))) ∙ split_at read [] (λ _. refl) ∙ ap (λ l. talk.lines ++ lines_of l) (append-nil (now.held ++ read.bytes))

  -- the source is at its end
  pub ended : ReadsLine (Ok false) now new → IsAtEnd new.left → Conversed Answers (Ok tt) kept here first new before out
  ended read end = record {
    bytes = talk.bytes ++ read.bytes;
    lines = talk.lines;
    rest = [];
    text = talk.text;
    taken = more_taken read;
    split = split_whole read ∙ ap (λ l. talk.lines ++ lines_of l) read.becomes.0;
    answers = talk.answers;
    closes = (refl, end, talk.put);
  }

  -- the source failed
  pub broken : {error : Failed} → ReadsLine (Err error) now new → Conversed Answers (Err ReadFailed) kept here first new before out
  broken {error = error} read = record {
    bytes = talk.bytes ++ read.bytes;
    lines = talk.lines;
    rest = now.held ++ read.bytes;
    text = talk.text;
    taken = more_taken read;
    split = split_whole read;
    answers = talk.answers;
    closes = (read.becomes.0, talk.put);
  }

  -- a line was read
  module _ (read : ReadsLine (Ok true) now new) where
    line : List ℕ
    line = before_first is_line_feed (now.held ++ read.bytes)

    goes_on : (more : List ℕ) → (new.ended ≡ true → more ≡ []) → lines_of ((first.held ++ (talk.bytes ++ read.bytes)) ++ more) ≡ (talk.lines ++ line ∷ []) ++ lines_of (new.held ++ more)
    unfolding line
    goes_on more none =
        split_at read more none ∙ ap (λ l. talk.lines ++ l) (first_line (now.held ++ read.bytes) more new read.becomes none)
        ∙ sym (append_assoc talk.lines (line ∷ []) (lines_of (new.held ++ more)))

    answers : (next : K) (piece : List ℕ) → Answers here new.line next piece → AreAnswers Answers kept (map given (talk.lines ++ line ∷ [])) next (talk.text ++ piece)
    unfolding line
    answers next piece after =
        let all = map-append given talk.lines (line ∷ []) in
        let is : new.line ≡ given line = read.becomes.line in
        rw (all, ← is) (one_more Answers new.line kept here next (map given talk.lines) talk.text piece talk.answers after)

    -- and answered
    pub answered : (next : K) (sent : Outgoing S) → PutsAnswer Answers (Ok tt) here next new.line out sent → IsTalking Answers first new kept next before sent
    answered next sent puts = record {
      bytes = talk.bytes ++ read.bytes;
      lines = talk.lines ++ line ∷ [];
      text = talk.text ++ puts.0;
      taken = more_taken read;
      goes_on = goes_on;
      answers = answers next puts.0 puts.1;
      put = puts_then talk.put puts.2;
    }

    whole : lines_of (first.held ++ (talk.bytes ++ read.bytes)) ≡ (talk.lines ++ line ∷ []) ++ lines_of new.held
    whole =
        ap lines_of (sym (append-nil (first.held ++ (talk.bytes ++ read.bytes)))) ∙ goes_on [] (λ _. refl) ∙ ap (λ l. (talk.lines ++ line ∷ []) ++ lines_of l) (append-nil new.held)

    -- and not answered, or in part
    pub stopped : (next : K) (sent : Outgoing S) (error : WriteError) → PutsAnswer Answers (Err error) here next new.line out sent → Conversed Answers (Err (fault_of_write error)) kept next first new before sent
    stopped next sent writes.WriteFailed puts = record {
      bytes = talk.bytes ++ read.bytes;
      lines = talk.lines ++ line ∷ [];
      rest = new.held;
      text = talk.text ++ puts.0;
      taken = more_taken read;
      split = whole;
      answers = answers next puts.0 puts.1;
      closes = (refl, puts_then talk.put puts.2);
    }
    stopped next sent writes.OutOfMemory puts = record {
      bytes = talk.bytes ++ read.bytes;
      lines = talk.lines ++ line ∷ [];
      rest = new.held;
      text = talk.text ++ puts.0;
      taken = more_taken read;
      split = whole;
      answers = answers next puts.0 puts.1;
      closes = (refl, puts_then talk.put puts.2);
    }

-- a fault of the sink is none of the source
pub unread_faults : (error : WriteError) (n : ℕ) → n ≡ counted_reads {T = Unit {0}} (Err (fault_of_write error)) n
unread_faults writes.WriteFailed n = refl
unread_faults writes.OutOfMemory n = refl
