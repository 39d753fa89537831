-- Answers in turn.
use Rattle.std.proofs.Common.{◌≡◌, ℕ, List, [], ◌∷◌, ◌++◌, append_assoc, map, Option, Result, Ok, Err, refl, sym, ap, subst, ◌∙◌}
use Rattle.std.proofs.lemmas.List.{append-nil}
use Rattle.mp_streams.specs.Outgoing.{Outgoing}
use Rattle.mp_streams.specs.Outgoing as outs
use Rattle.mp_streams.specs.declared.failed.Failed.{Failed}
use Rattle.mp_streams.specs.declared.write_error.WriteError.{WriteError}
use Rattle.mp_streams.specs.declared.write_error.WriteError.TheVariants as writes
use Rattle.mp_streams.proofs.FlushLemmas.{passed_on, not_passed_on}
use mathlib.Core.List.{IsPrefix}
use Rattle.mp_text.specs.lines.Given.{given}
use Rattle.mp_text.specs.lines.Incoming.{Incoming}
use Rattle.mp_version.proofs.PrefixLemmas.{prefix_trans}
use Rattle.mp_seats.specs.declared.talk.talk_fault.TalkFault.{TalkFault}
use Rattle.mp_seats.specs.talk.Answers.{Answering, ForAllAuthors, AreAnswers, PutsAnswer}
use Rattle.mp_seats.specs.talk.Conversations.{Conversed}

module _ {S K : Type 0} (Answers : Answering K) where
  -- an answer that is passed on
  module _ (r : Result (Unit {0}) WriteError) (old now : K) (line : Option (List ℕ)) (a b c : Outgoing S) (puts : PutsAnswer Answers r old now line a b) where
    pub answered : outs.Writes {T = Unit {0}} (Ok tt) b c [] → c.held ≡ [] → PutsAnswer Answers r old now line a c
    answered second none = (puts.0, puts.1, passed_on a b c puts.0 r puts.2 second none)

    pub unanswered : {error : Failed} → outs.Writes {T = Unit {0}} (Err error) b c [] → PutsAnswer Answers (Err writes.WriteFailed) old now line a c
    unanswered {error = error} second = (puts.0, puts.1, not_passed_on a b c puts.0 r puts.2 second)

module _ {K : Type 0} (Answers : Answering K) where
  pub no_answers : (first : K) → AreAnswers Answers first [] first []
  unfolding AreAnswers
  no_answers first = (refl, refl)

  -- one more answer
  pub one_more : (line : Option (List ℕ)) (first here next : K) (lines : List (Option (List ℕ))) (text piece : List ℕ) → AreAnswers Answers first lines here text → Answers here line next piece
      → AreAnswers Answers first (lines ++ line ∷ []) next (text ++ piece)
  unfolding AreAnswers
  one_more line first here next [] text piece are after = (
    next,
    piece,
    [],
    subst (λ k. Answers k line next piece) are.0 after,
    (refl, refl),
    ap (λ l. l ++ piece) are.1 ∙ sym (append-nil piece),
  )
  one_more line first here next (line' ∷ lines) text piece are after =
      let (second, front, later, by, rest, is) = are in (
        second,
        front,
        later ++ piece,
        by,
        one_more line second here next lines later piece rest after,
        ap (λ l. l ++ piece) is ∙ append_assoc front later piece,
      )

-- answers that hold whoever makes the edits to come are answers by the authors of all edits in the end
module _ {K : Type 0} (signed : K → List ℕ) (Answers : List ℕ → Answering K)
    (begins : (authors : List ℕ) (old : K) (line : Option (List ℕ)) (new : K) (text : List ℕ) → Answers authors old line new text → IsPrefix (signed old) (signed new)) (authors : List ℕ) where
  all_by : (first : K) (lines : List (Option (List ℕ))) (last : K) (text : List ℕ) → AreAnswers (ForAllAuthors signed Answers) first lines last text → IsPrefix (signed last) authors
      → AreAnswers (Answers authors) first lines last text × IsPrefix (signed first) authors
  unfolding AreAnswers
  all_by first [] last text are more = (are, subst (λ k. IsPrefix (signed k) authors) are.0 more)
  all_by first (line ∷ lines) last text are more =
      let (next, piece, later, step, rest, is) = are in
      let others = all_by next lines last later rest more in
      let here = step authors others.1 in
      ((next, piece, later, here, others.0, is), prefix_trans (signed first) (signed next) authors (begins authors first line next piece here) others.1)

  pub conversed_by : {S : Type 0} (r : Result (Unit {0}) TalkFault) (first last : K) (old new : Incoming) (a b : Outgoing S) → Conversed (ForAllAuthors signed Answers) r first last old new a b
      → IsPrefix (signed last) authors → Conversed (Answers authors) r first last old new a b
  conversed_by r first last old new a b talk more = record {
    bytes = talk.bytes;
    lines = talk.lines;
    rest = talk.rest;
    text = talk.text;
    taken = talk.taken;
    split = talk.split;
    answers = (all_by first (map given talk.lines) last talk.text talk.answers more).0;
    closes = talk.closes;
  }
