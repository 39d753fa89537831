-- A seat's lines, one after the other.
use Rattle.std.proofs.Common.{◌≡◌, inl, inr, ℕ, ◌+◌, ◌-◌, ◌^◌, ◌<◌, min, Bool, true, List, [], ◌∷◌, ◌++◌, length, map, Option, Some, Result, slice_get, refl, sym, ap, subst, ◌∙◌, length-append, arith}
use mathlib.Core.List.{IsPrefix}
use Rattle.mp_text.specs.lines.Given.{given}
use Rattle.mp_text.specs.lines.Incoming.{Incoming}
use Rattle.mp_streams.specs.Outgoing.{Outgoing}
use Rattle.mp_version.specs.Stories.{Story, one_more}
use Rattle.mp_version.specs.Extending.{Extends}
use Rattle.mp_version.proofs.PrefixLemmas.{prefix_self, prefix_trans, prefix_last, extends_self, extends_trans, extends_length, extends_one_more, up_to-earlier}
use Rattle.mp_seats.specs.declared.talk.talk_fault.TalkFault.{TalkFault}
use Rattle.mp_seats.specs.talk.Answers.{AreAnswers}
use Rattle.mp_seats.specs.talk.Conversations.{Conversed}
use Rattle.mp_seats.specs.Replies.{Writing, IsRefusalAt, IsAnswerAt}
use Rattle.mp_seats.specs.Marks.{AcceptedAt, RefusedAt, AnsweredAt, Rise, refused_of, told_of, places_of, AreSigned}
use Rattle.mp_seats.specs.Steps.{Seated, HasReadFor, one_more_refused, IsAcceptedLine, IsRefusedLine, IsAnsweredLine, IsStep, IsSignedStep}
use Rattle.mp_seats.specs.Seats.{IsSeat, IsVisit}
use Rattle.mp_seats.proofs.StepLemmas.{step_begins}
use Rattle.mp_seats.proofs.lemmas.talk.AnswerLemmas.{conversed_by}

module _ (w : Writing) (edits : Bool) where
  -- no lines
  none : (start last : Seated) (text : List ℕ) → last ≡ start → text ≡ [] → IsSeat w edits start [] last text
  none start last text same empty =
      let seen : last.seen ≡ start.seen = ap (λ (s : Seated). s.seen) same in
      let extends : Extends last.seen start.seen = subst (λ (s : Story). Extends s start.seen) (sym seen) (extends_self start.seen) in
      let accepted : last.accepted ≡ start.accepted = ap (λ (s : Seated). s.accepted) same in
      record {
        marks = [];
        extends = extends;
        replies = λ now more. empty;
        rise = λ now more. extends_length now start.seen (extends_trans now last.seen start.seen more extends);
        read = λ now more. ap (λ (s : Seated). s.reads) same;
        accepted = omega (arith, accepted);
        refused = λ _ low. let refused : last.refused ≡ start.refused = ap (λ (s : Seated). s.refused) same in omega (arith, refused, low);
        told = ap (λ (s : Seated). s.told) same;
        number = ap (λ (s : Seated). s.number) same;
        begins = subst (λ (s : Seated). IsPrefix start.signed s.signed) (sym same) (prefix_self start.signed);
        signed = λ authors more. tt;
      }

  -- one line before others
  module _ (start next last : Seated) (line : Option (List ℕ)) (lines : List (Option (List ℕ))) (piece later text : List ℕ) (is : text ≡ piece ++ later) (rest : IsSeat w edits next lines last later) where
    -- a line that isn't counted as refused
    unrefused : next.refused ≡ start.refused → edits ≡ true → start.refused < 2 ^ 64 → last.refused ≡ min (start.refused + refused_of rest.marks) (2 ^ 64 - 1)
    unrefused same edits_may low =
        let there : last.refused ≡ min (next.refused + refused_of rest.marks) (2 ^ 64 - 1) = rest.refused edits_may (omega (arith, same, low)) in
        there ∙ ap (λ (n : ℕ). min (n + refused_of rest.marks) (2 ^ 64 - 1)) same

    accepted : IsAcceptedLine w edits start line next piece → IsSeat w edits start (line ∷ lines) last text
    accepted step =
        let k = length step.before.edits in
        let seen : next.seen ≡ one_more step.before step.edit = ap (λ (s : Seated). s.seen) step.stands in
        let onward : Extends next.seen (one_more step.before step.edit) = subst (λ (s : Story). Extends s (one_more step.before step.edit)) (sym seen) (extends_self (one_more step.before step.edit)) in
        let onward_last = extends_trans last.seen next.seen (one_more step.before step.edit) rest.extends onward in
        let back = extends_trans (one_more step.before step.edit) step.before start.seen (extends_one_more step.before step.edit) step.extends in
        let size : length next.seen.edits ≡ k + 1 = ap (λ (s : Story). length s.edits) seen ∙ length-append step.before.edits (step.edit ∷ []) in
        let count = rest.accepted in
        let counted = ap (λ (s : Seated). s.accepted) step.stands in
        let same_number : next.number ≡ start.number = ap (λ (s : Seated). s.number) step.stands in
        let numbered : last.number ≡ start.number = rest.number ∙ same_number in
        let signed : next.signed ≡ step.authors ++ start.number ∷ [] = ap (λ (s : Seated). s.signed) step.stands in
        let begins : IsPrefix start.signed next.signed =
        subst (IsPrefix start.signed) (sym signed) (prefix_trans start.signed step.authors (step.authors ++ start.number ∷ []) step.begins (start.number ∷ [], refl)) in
        record {
          marks = AcceptedAt k ∷ rest.marks;
          extends = extends_trans last.seen (one_more step.before step.edit) start.seen onward_last back;
          replies = λ now more. (
            piece,
            later,
            (step.edit, step.edits_may, step.is_edit, prefix_last now.edits step.before.edits step.edit (extends_trans now last.seen (one_more step.before step.edit) more onward_last).begins, step.replied),
            rest.replies now more,
            is,
          );
          rise = λ now more. (extends_length step.before start.seen step.extends, subst (λ (n : ℕ). Rise n (length now.edits) rest.marks) size (rest.rise now more));
          read = λ now more. (next.reads, tt, rest.read now more);
          accepted = omega (arith, count, counted);
          refused = unrefused (ap (λ (s : Seated). s.refused) step.stands);
          told = rest.told ∙ ap (λ (told : ℕ). told_of told rest.marks) (ap (λ (s : Seated). s.told) step.stands);
          number = numbered;
          begins = prefix_trans start.signed next.signed last.signed begins rest.begins;
          signed = λ authors more. (
            subst (λ (place : ℕ). slice_get authors place ≡ Some start.number) step.each
                (prefix_last authors step.authors start.number (subst (λ (signed : List ℕ). IsPrefix signed authors) signed (prefix_trans next.signed last.signed authors rest.begins more))),
            subst (λ (author : ℕ). AreSigned author authors (places_of rest.marks)) same_number (rest.signed authors more),
          );
        }

    refused : IsRefusedLine w edits start line next piece → IsSeat w edits start (line ∷ lines) last text
    refused step =
        let k = length next.seen.edits in
        let count = rest.accepted in
        let counted = ap (λ (s : Seated). s.accepted) step.stands in
        let same_number : next.number ≡ start.number = ap (λ (s : Seated). s.number) step.stands in
        record {
          marks = RefusedAt k ∷ rest.marks;
          extends = extends_trans last.seen next.seen start.seen rest.extends step.extends;
          replies = λ now more. (
            piece,
            later,
            subst (λ (s : Story). IsRefusalAt w edits s line piece) (sym (up_to-earlier now next.seen (extends_trans now last.seen next.seen more rest.extends))) step.replied,
            rest.replies now more,
            is,
          );
          rise = λ now more. (extends_length next.seen start.seen step.extends, rest.rise now more);
          read = λ now more. (next.reads, tt, rest.read now more);
          accepted = omega (arith, count, counted);
          refused = λ edits_may low.
              let here : next.refused ≡ min (start.refused + 1) (2 ^ 64 - 1) = ap (λ (s : Seated). s.refused) step.stands ∙ ap (λ (b : Bool). one_more_refused b start.refused) edits_may in
              let there : last.refused ≡ min (next.refused + refused_of rest.marks) (2 ^ 64 - 1) = rest.refused edits_may (omega (arith, here)) in
              omega (arith, here, there, low);
          told = rest.told ∙ ap (λ (told : ℕ). told_of told rest.marks) (ap (λ (s : Seated). s.told) step.stands);
          number = rest.number ∙ same_number;
          begins = prefix_trans start.signed next.signed last.signed step.begins rest.begins;
          signed = λ authors more. subst (λ (author : ℕ). AreSigned author authors (places_of rest.marks)) same_number (rest.signed authors more);
        }

    answered : IsAnsweredLine w start line next piece → IsSeat w edits start (line ∷ lines) last text
    answered step =
        let k = length next.seen.edits in
        let count = rest.accepted in
        let counted = ap (λ (s : Seated). s.accepted) step.stands in
        let same_number : next.number ≡ start.number = ap (λ (s : Seated). s.number) step.stands in
        record {
          marks = AnsweredAt k ∷ rest.marks;
          extends = extends_trans last.seen next.seen start.seen rest.extends step.extends;
          replies = λ now more. (
            piece,
            later,
            subst (λ (s : Story). IsAnswerAt w s line piece) (sym (up_to-earlier now next.seen (extends_trans now last.seen next.seen more rest.extends))) step.replied,
            rest.replies now more,
            is,
          );
          rise = λ now more. (extends_length next.seen start.seen step.extends, rest.rise now more);
          read = λ now more. (
            next.reads,
            subst (λ (s : Story). HasReadFor s line start.reads next.reads) (sym (up_to-earlier now next.seen (extends_trans now last.seen next.seen more rest.extends))) step.read,
            rest.read now more,
          );
          accepted = omega (arith, count, counted);
          refused = unrefused (ap (λ (s : Seated). s.refused) step.stands);
          told = rest.told ∙ ap (λ (told : ℕ). told_of told rest.marks) (ap (λ (s : Seated). s.told) step.stands);
          number = rest.number ∙ same_number;
          begins = prefix_trans start.signed next.signed last.signed step.begins rest.begins;
          signed = λ authors more. subst (λ (author : ℕ). AreSigned author authors (places_of rest.marks)) same_number (rest.signed authors more);
        }

    one : IsStep w edits start line next piece → IsSeat w edits start (line ∷ lines) last text
    one (inl step) = accepted step
    one (inr (inl step)) = refused step
    one (inr (inr step)) = answered step

  -- all lines
  pub seat : (start : Seated) (lines : List (Option (List ℕ))) (last : Seated) (text : List ℕ) → AreAnswers (IsStep w edits) start lines last text → IsSeat w edits start lines last text
  unfolding AreAnswers
  seat start [] last text are = none start last text are.0 are.1
  seat start (line ∷ lines) last text are =
      let (next, piece, later, step, rest, is) = are in
      one start next last line lines piece later text is (seat next lines last later rest) step

  pub visit : {S : Type 0} (r : Result (Unit {0}) TalkFault) (start last : Seated) (old new : Incoming) (a b : Outgoing S) → Conversed (IsStep w edits) r start last old new a b
      → IsVisit w edits r start last old new a b
  visit r start last old new a b talk = record {
    bytes = talk.bytes;
    lines = talk.lines;
    rest = talk.rest;
    text = talk.text;
    taken = talk.taken;
    split = talk.split;
    seat = seat start (map given talk.lines) last talk.text talk.answers;
    closes = talk.closes;
  }

-- somebody came, whoever makes the edits to come
pub signed_visit : {S : Type 0} (w : List ℕ → Writing) (edits : Bool) (r : Result (Unit {0}) TalkFault) (start last : Seated) (old new : Incoming) (a b : Outgoing S)
    → Conversed (IsSignedStep w edits) r start last old new a b → (authors : List ℕ) → IsPrefix last.signed authors → IsVisit (w authors) edits r start last old new a b
signed_visit w edits r start last old new a b talk authors more =
    visit (w authors) edits r start last old new a b
    (conversed_by (λ (s : Seated). s.signed) (λ them. IsStep (w them) edits) (λ them s line t text. step_begins (w them) edits s line t text) authors r start last old new a b talk more)
