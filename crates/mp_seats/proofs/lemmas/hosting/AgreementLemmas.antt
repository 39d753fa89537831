-- Blocks of a meeting as lines of a seat.
use Rattle.std.proofs.Common.{◌≡◌, ℕ, ◌+◌, ◌-◌, ◌^◌, ◌≤◌, min, zero, suc, true, List, [], ◌∷◌, ◌++◌, length, map, take, Option, Some, Result, Ok, Err, slice_get, slice_index_or, refl, sym, ap, subst, ◌∙◌, inl, arith}
use Rattle.std.proofs.lemmas.List.{append-nil}
use mathlib.Core.List.{IsPrefix}
use Rattle.mp_text.specs.declared.lexing.line_error.LineError.{LineError}
use Rattle.mp_text.specs.declared.question.Question.{Question}
use Rattle.mp_text.specs.declared.script_line.Line.{Line}
use Rattle.mp_text.specs.declared.script_line.Line.TheVariants.{Empty, Change, Ask}
use Rattle.mp_text.specs.ScriptLines.{line_at}
use Rattle.mp_version.specs.Stories.{Story, opening}
use Rattle.mp_version.specs.Extending.{Extends, up_to}
use Rattle.mp_version.specs.publication.Chronicles.{unsigned}
use Rattle.mp_meeting.specs.Fates.{Fate, Accepted, Refused, said, unless_empty, AreFates}
use Rattle.mp_meeting.specs.Fates as fates_of
use Rattle.mp_seats.specs.declared.reply.Reply.TheVariants as replies
use Rattle.mp_seats.specs.Marks.{Mark, RefusedAt, AnsweredAt, Rise, accepted_of, refused_of, told_of, places_of, AreSigned}
use Rattle.mp_seats.specs.Replies.{Writing, IsReadRefusal, IsReadAnswer}
use Rattle.mp_seats.specs.Steps.{AddsRead}
use Rattle.mp_seats.specs.Seats.{AreReplies, HaveRead}
use Rattle.mp_seats.specs.hosting.Agreement.{with_mark, marks_of, BlocksAreSeats, IsSeenAtSeat, NumbersAreSeats}

-- ---- stories that go on

prefix_length : {A : Type 0} (xs ys : List A) → IsPrefix xs ys → length xs ≤ length ys
prefix_length [] ys p = omega arith
prefix_length (x ∷ xs) [] p = absurd (cc (p.1))
prefix_length (x ∷ xs) (y ∷ ys) p = let rest = prefix_length xs ys (p.0, cc (p.1)) in omega arith

prefix_get : {A : Type 0} (xs ys : List A) (k : ℕ) (a : A) → IsPrefix xs ys → slice_get xs k ≡ Some a → slice_get ys k ≡ Some a
prefix_get [] ys k a p got = absurd (cc got)
prefix_get (x ∷ xs) [] k a p got = absurd (cc (p.1))
prefix_get (x ∷ xs) (y ∷ ys) zero a p got = let same : x ≡ y = cc (p.1) in ap (λ b. Some b) (sym same) ∙ got
prefix_get (x ∷ xs) (y ∷ ys) (suc k) a p got = prefix_get xs ys k a (p.0, cc (p.1)) got

get_same : {A B : Type 0} (b : B) (xs : List A) (k : ℕ) (a : A) → slice_get xs k ≡ Some a → slice_get (map (λ x. b) xs) k ≡ Some b
get_same b [] k a got = absurd (cc got)
get_same b (x ∷ xs) zero a got = refl
get_same b (x ∷ xs) (suc k) a got = get_same b xs k a got

prefix_take : {A : Type 0} (xs ys : List A) (k : ℕ) → IsPrefix xs ys → k ≤ length xs → take k ys ≡ take k xs
prefix_take xs ys zero p within = refl
prefix_take [] ys (suc k) p within = absurd (omega (arith, within))
prefix_take (x ∷ xs) [] (suc k) p within = absurd (cc (p.1))
prefix_take (x ∷ xs) (y ∷ ys) (suc k) p within = let same : x ≡ y = cc (p.1) in let rest = prefix_take xs ys k (p.0, cc (p.1)) (omega (arith, within)) in cc

same_up_to : (now later : Story) (k : ℕ) → Extends later now → k ≤ length now.edits → up_to later k ≡ up_to now k
same_up_to now later k more within = let e = prefix_take now.edits later.edits k more.begins within in λ i. record { base = more.same_base i; edits = e i }

rise_within : (seen last : ℕ) (fates : List Fate) → fates_of.Rise seen last fates → seen ≤ last
rise_within seen last [] rise = rise
rise_within seen last (Accepted k ∷ fates) rise = let h = rise_within (k + 1) last fates rise.1 in let low = rise.0 in omega (arith, h, low)
rise_within seen last (Refused k ∷ fates) rise = let h = rise_within k last fates rise.1 in let low = rise.0 in omega (arith, h, low)

module _ (w : Writing) (number : ℕ) (now : Story) where
  -- lines are answered with these numbers, which rise from what was seen before them
  record Answered (seen : ℕ) (lines : List (Option (List ℕ))) (marks : List Mark) (fates : List Fate) : Type 0 where
    text : List ℕ
    replied : (later : Story) → Extends later now → AreReplies w true later lines marks text
    rise : (last : ℕ) → length now.edits ≤ last → Rise seen last marks
    count : accepted_of marks ≡ fates_of.accepted_of fates
    signed : (authors : List ℕ) → IsPrefix (map (λ edit. number) now.edits) authors → AreSigned number authors (places_of marks)
    read : (first : List Story) → (last : List Story) × ((later : Story) → Extends later now → HaveRead later lines marks first last)

  -- one line before others
  module _ (line : List ℕ) (lines : List (List ℕ)) (others : (seen : ℕ) (fates : List Fate) → AreFates now (said lines) fates → fates_of.Rise seen (length now.edits) fates
      → Answered seen (map (λ l. Some l) lines) (marks_of seen lines fates) fates) where
    after_none : (seen : ℕ) (fates : List Fate) → line_at line ≡ Ok Empty → AreFates now (said lines) fates → fates_of.Rise seen (length now.edits) fates
        → Answered seen (Some line ∷ map (λ l. Some l) lines) (AnsweredAt seen ∷ marks_of seen lines fates) fates
    after_none seen fates is are rise =
        let rest = others seen fates are rise in
        record {
          text = rest.text;
          replied = λ later more. (
            [],
            rest.text,
            subst (λ read. IsReadAnswer w (up_to later seen) read []) (sym is) refl,
            rest.replied later more,
            refl,
          );
          rise = λ last le. (omega arith, rest.rise last le);
          count = rest.count;
          signed = rest.signed;
          read = λ first. (
            (rest.read first).0,
            λ later more. (first, subst (λ read. AddsRead (up_to later seen) read first first) (sym is) refl, (rest.read first).1 later more),
          );
        }

    after_answer : (seen k : ℕ) (fates : List Fate) (piece : List ℕ) (question : Question) → line_at line ≡ Ok (Ask question) → seen ≤ k → k ≤ length now.edits
        → IsReadAnswer w (up_to now k) (line_at line) piece
        → Answered k (map (λ l. Some l) lines) (marks_of k lines fates) fates
        → Answered seen (Some line ∷ map (λ l. Some l) lines) (AnsweredAt k ∷ marks_of k lines fates) (Refused k ∷ fates)
    after_answer seen k fates piece question asks low within is rest = record {
      text = piece ++ rest.text;
      replied = λ later more. (
        piece,
        rest.text,
        subst (λ (s : Story). IsReadAnswer w s (line_at line) piece) (sym (same_up_to now later k more within)) is,
        rest.replied later more,
        refl,
      );
      rise = λ last le. (low, rest.rise last le);
      count = rest.count;
      signed = rest.signed;
      read = λ first. (
        (rest.read (up_to now k ∷ first)).0,
        λ later more. (
          up_to now k ∷ first,
          subst (λ read. AddsRead (up_to later k) read first (up_to now k ∷ first)) (sym asks) (ap (λ (s : Story). s ∷ first) (sym (same_up_to now later k more within))),
          (rest.read (up_to now k ∷ first)).1 later more,
        ),
      );
    }

    after_refusal : (seen k : ℕ) (fates : List Fate) (piece : List ℕ) → seen ≤ k → k ≤ length now.edits → IsReadRefusal w true (up_to now k) (line_at line) piece
        → Answered k (map (λ l. Some l) lines) (marks_of k lines fates) fates
        → Answered seen (Some line ∷ map (λ l. Some l) lines) (RefusedAt k ∷ marks_of k lines fates) (Refused k ∷ fates)
    after_refusal seen k fates piece low within is rest = record {
      text = piece ++ rest.text;
      replied = λ later more. (
        piece,
        rest.text,
        inl (subst (λ (s : Story). IsReadRefusal w true s (line_at line) piece) (sym (same_up_to now later k more within)) is),
        rest.replied later more,
        refl,
      );
      rise = λ last le. (low, rest.rise last le);
      count = rest.count;
      signed = rest.signed;
      read = λ first. ((rest.read first).0, λ later more. (first, tt, (rest.read first).1 later more));
    }

    one : (read : Result Line LineError) → line_at line ≡ read → (seen : ℕ) (fates : List Fate) → AreFates now (unless_empty read (said lines)) fates → fates_of.Rise seen (length now.edits) fates
        → Answered seen (Some line ∷ map (λ l. Some l) lines) (with_mark seen read fates (λ s f. marks_of s lines f)) fates
    one (Ok Empty) is seen fates are rise = after_none seen fates is are rise
    one (Ok (Change edit)) is seen [] are rise = absurd are
    one (Ok (Change edit)) is seen (Accepted k ∷ fates) are rise =
        let rest = others (k + 1) fates are.1 rise.1 in
        record {
          text = w.reply (replies.Accepted (k + 1)) ++ rest.text;
          replied = λ later more. (
            w.reply (replies.Accepted (k + 1)),
            rest.text,
            (edit, refl, is, prefix_get now.edits later.edits k edit more.begins are.0, refl),
            rest.replied later more,
            refl,
          );
          rise = λ last le. (rise.0, rest.rise last le);
          count = ap (λ n. n + 1) rest.count;
          signed = λ authors more. (
            prefix_get (map (λ e. number) now.edits) authors k number more (get_same number now.edits k edit are.0),
            rest.signed authors more,
          );
          read = λ first. ((rest.read first).0, λ later more. (first, tt, (rest.read first).1 later more));
        }
    one (Ok (Change edit)) is seen (Refused k ∷ fates) are rise =
        after_refusal seen k fates (w.reply (replies.Refused are.0.0)) rise.0 (rise_within k (length now.edits) fates rise.1)
        (subst (λ read. IsReadRefusal w true (up_to now k) read (w.reply (replies.Refused are.0.0))) (sym is) (inl (are.0.0, inl are.0.1, refl))) (others k fates are.1 rise.1)
    one (Ok (Ask question)) is seen [] are rise = absurd are
    one (Ok (Ask question)) is seen (Accepted k ∷ fates) are rise = absurd are.0
    one (Ok (Ask question)) is seen (Refused k ∷ fates) are rise =
        after_answer seen k fates (w.answer (up_to now k) question) question is rise.0 (rise_within k (length now.edits) fates rise.1)
        (subst (λ read. IsReadAnswer w (up_to now k) read (w.answer (up_to now k) question)) (sym is) refl) (others k fates are.1 rise.1)
    one (Err error) is seen [] are rise = absurd are
    one (Err error) is seen (Accepted k ∷ fates) are rise = absurd are.0
    one (Err error) is seen (Refused k ∷ fates) are rise =
        after_refusal seen k fates (w.reply (replies.Unread error)) rise.0 (rise_within k (length now.edits) fates rise.1)
        (subst (λ read. IsReadRefusal w true (up_to now k) read (w.reply (replies.Unread error))) (sym is) refl) (others k fates are.1 rise.1)

  all : (lines : List (List ℕ)) (seen : ℕ) (fates : List Fate) → AreFates now (said lines) fates → fates_of.Rise seen (length now.edits) fates
      → Answered seen (map (λ l. Some l) lines) (marks_of seen lines fates) fates
  all [] seen [] are rise = record { text = []; replied = λ later more. refl; rise = λ last le. let low = rise in omega (arith, low, le); count = refl; signed = λ authors more. tt; read = λ first. (first, λ later more. refl) }
  all [] seen (fate ∷ fates) are rise = absurd are
  all (line ∷ lines) seen fates are rise = one line lines (λ s f a r. all lines s f a r) (line_at line) refl seen fates are rise

pub blocks_are_seats : BlocksAreSeats
blocks_are_seats w number now numbers lines tally worked =
    let answered = all w number now lines 0 worked.fates worked.judged worked.rise in
    let signed : List ℕ = map (λ edit. number) now.edits in
    let count = answered.count in
    let accepted = worked.accepted in (
      answered.text,
      signed,
      min (0 + refused_of (marks_of 0 lines worked.fates)) (2 ^ 64 - 1),
      told_of 0 (marks_of 0 lines worked.fates),
      (answered.read (opening now.base ∷ [])).0,
      record {
        marks = marks_of 0 lines worked.fates;
        extends = record { same_base = refl; begins = (now.edits, refl) };
        replies = answered.replied;
        rise = λ later more. answered.rise (length later.edits) (prefix_length now.edits later.edits more.begins);
        read = (answered.read (opening now.base ∷ [])).1;
        accepted = omega (arith, count, accepted);
        refused = λ _ _. refl;
        told = refl;
        number = refl;
        begins = (signed, refl);
        signed = answered.signed;
      },
      refl,
    )

seen_at_seat : (w : Writing) (now : Story) (number : ℕ) → number ≤ length now.edits → IsSeenAtSeat w now number
seen_at_seat w now number within line question asks = (
  record {
    marks = AnsweredAt number ∷ [];
    extends = record { same_base = refl; begins = (now.edits, refl) };
    replies = λ later more. (
      w.answer (up_to now number) question,
      [],
      subst (λ read. IsReadAnswer w (up_to later number) read (w.answer (up_to now number) question)) (sym asks)
          (ap (λ (s : Story). w.answer s question) (sym (same_up_to now later number more within))),
      refl,
      sym (append-nil (w.answer (up_to now number) question)),
    );
    rise = λ later more. (omega arith, let long = prefix_length now.edits later.edits more.begins in omega (arith, long, within));
    read = λ later more. (
      up_to now number ∷ opening now.base ∷ [],
      subst (λ read. AddsRead (up_to later number) read (opening now.base ∷ []) (up_to now number ∷ opening now.base ∷ [])) (sym asks)
          (ap (λ (s : Story). s ∷ opening now.base ∷ []) (sym (same_up_to now later number more within))),
      refl,
    );
    accepted = refl;
    refused = λ edits. absurd (cc edits);
    told = refl;
    number = refl;
    begins = (unsigned now, refl);
    signed = λ authors more. tt;
  },
  refl,
)

pub numbers_are_seats : NumbersAreSeats
numbers_are_seats w base blocks now tallies numbers met k d low = seen_at_seat w now (slice_index_or numbers k d) (met.within k d low)
