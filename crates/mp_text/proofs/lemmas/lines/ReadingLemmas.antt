-- A line that is read in several parts.
use Rattle.std.proofs.Common.{◌≡◌, ℕ, ◌<◌, Bool, true, false, not, ◌==◌, List, [], ◌∷◌, ◌++◌, append_assoc, length, Some, Ok, Err, inl, inr, true≢false, refl, sym, ap, subst, ◌∙◌, arith}
use Rattle.std.specs.Io.KnownBytes.{Consumes, Keeps}
use Rattle.std.specs.List.{before_first, after_first}
use Rattle.std.proofs.KnownBytes.{Consumes-nil, Consumes-trans, Consumes-kept}
use Rattle.std.proofs.lemmas.Bool.Decides.{nat_tests}
use Rattle.std.proofs.lemmas.List.{append-nil}
use Rattle.mp_streams.specs.declared.failed.Failed.{Failed}
use Rattle.mp_text.specs.lexing.Lines.{is_line_feed}
use Rattle.mp_text.specs.lines.Given.{given, with_more, has_line_feed}
use Rattle.mp_text.specs.lines.Incoming.{Incoming, ReadsLine}
use Rattle.mp_text.proofs.lemmas.lines.GivenLemmas.{given_more, given_none}
use Rattle.mp_text.proofs.lemmas.lines.FeedLemmas.{before_behind, after_behind, feed_behind, before_none, after_none}

-- a line of which these bytes were read so far, none of which ends it
pub record IsReading (first now : Incoming) : Type 0 where
  pub taken : List ℕ
  pub begun : List ℕ
  pub consumed : Consumes first.left now.left taken
  pub all : first.held ++ taken ≡ begun ++ now.held
  pub unended : has_line_feed begun ≡ false
  pub line : now.line ≡ given begun
  pub faults : now.faults ≡ first.faults
  pub ended : now.ended ≡ first.ended
  pub none : first.ended ≡ true → taken ≡ []
  pub stays : has_line_feed first.held ≡ true → (now.left ≡ first.left) × (now.held ≡ first.held)

pub begins : (first now : Incoming) → now.left ≡ first.left → now.held ≡ first.held → now.ended ≡ first.ended → now.line ≡ Some [] → now.faults ≡ first.faults → IsReading first now
begins first now left held ended line faults = record {
  taken = [];
  begun = [];
  consumed = rw left (Consumes-nil first.left);
  all = append-nil first.held ∙ sym held;
  unended = refl;
  line = line;
  faults = faults;
  ended = ended;
  none = λ _. refl;
  stays = λ _. (left, held);
}

-- the line ends in what is held
pub ended : (first now new : Incoming) → IsReading first now → has_line_feed now.held ≡ true → new.line ≡ with_more now.line (before_first is_line_feed now.held)
    → new.held ≡ after_first is_line_feed now.held → new.left ≡ now.left → new.ended ≡ now.ended → ReadsLine (Ok true) first new
ended first now new reading feed line rest left same =
    let all = reading.all in
    let none = reading.unended in
    let begun = reading.begun in
    let here : has_line_feed (first.held ++ reading.taken) ≡ true = ap has_line_feed all ∙ feed_behind begun now.held none ∙ feed in
    record {
      bytes = reading.taken;
      taken = rw left reading.consumed;
      none = reading.none;
      ended = λ end. same ∙ reading.ended ∙ end;
      becomes = record {
        some = some_bytes (first.held ++ reading.taken) here;
        line = line ∙ ap (λ l. with_more l (before_first is_line_feed now.held)) reading.line ∙ given_more begun (before_first is_line_feed now.held)
            ∙ ap given (sym (ap (before_first is_line_feed) all ∙ before_behind begun now.held none));
        rest = rest ∙ sym (ap (after_first is_line_feed) all ∙ after_behind begun now.held none);
        ends = inl here;
      };
    }
  where
    some_bytes : (bytes : List ℕ) → has_line_feed bytes ≡ true → 0 < length bytes
    some_bytes [] feed = absurd (true≢false (sym feed))
    some_bytes (b ∷ bytes) feed = omega arith

-- the source was asked for bytes behind what is held, in which no line ends
module _ (first now new : Incoming) (reading : IsReading first now) (none : has_line_feed now.held ≡ false) where
  longer : has_line_feed (reading.begun ++ now.held) ≡ false
  longer = feed_behind reading.begun now.held reading.unended ∙ none

  no_stay : has_line_feed first.held ≡ true → ⊥
  no_stay feed = true≢false (sym feed ∙ ap has_line_feed (sym (reading.stays feed).1) ∙ none)

  -- it gave some, or told its end
  pub goes_on : new.line ≡ with_more now.line (before_first is_line_feed now.held) → Consumes now.left new.left new.held → new.faults ≡ now.faults → new.ended ≡ now.ended
      → (now.ended ≡ true → new.held ≡ []) → IsReading first new
  goes_on line bytes faults ended no_more = record {
    taken = reading.taken ++ new.held;
    begun = reading.begun ++ now.held;
    consumed = Consumes-trans _ _ _ _ _ reading.consumed bytes;
    all = sym (append_assoc first.held reading.taken new.held) ∙ ap (λ l. l ++ new.held) reading.all;
    unended = longer;
    line = line ∙ ap (λ l. with_more l (before_first is_line_feed now.held)) reading.line ∙ given_more reading.begun (before_first is_line_feed now.held)
        ∙ ap (λ l. given (reading.begun ++ l)) (before_none now.held none);
    faults = faults ∙ reading.faults;
    ended = ended ∙ reading.ended;
    none = λ end. ap (λ l. l ++ new.held) (reading.none end) ∙ no_more (reading.ended ∙ end);
    stays = λ feed. absurd (no_stay feed);
  }

  -- it failed
  pub failed : {error : Failed} → new.held ≡ [] → Keeps now.left new.left → new.ended ≡ now.ended → ReadsLine (Err error) first new
  failed {error = error} empty kept same = record {
    bytes = reading.taken;
    taken = Consumes-kept _ _ _ _ reading.consumed kept;
    none = reading.none;
    ended = λ end. same ∙ reading.ended ∙ end;
    becomes = (ap has_line_feed reading.all ∙ longer, empty);
  }

  module _ (empty : new.held ≡ []) (ended : new.ended ≡ true) (left : Consumes now.left new.left new.held)
      (line : new.line ≡ with_more now.line (before_first is_line_feed now.held)) where
    begun : List ℕ
    begun = reading.begun ++ now.held

    whole : first.held ++ reading.taken ≡ begun
    unfolding begun
    whole = reading.all

    line_is : new.line ≡ given begun
    unfolding begun
    line_is = line ∙ ap (λ l. with_more l (before_first is_line_feed now.held)) reading.line ∙ given_more reading.begun (before_first is_line_feed now.held)
        ∙ ap (λ l. given (reading.begun ++ l)) (before_none now.held none)

    unended : has_line_feed begun ≡ false
    unfolding begun
    unended = longer

    took : Consumes first.left new.left reading.taken
    took =
        let bytes = subst (Consumes now.left new.left) empty left in
        subst (Consumes first.left new.left) (append-nil reading.taken) (Consumes-trans _ _ _ _ _ reading.consumed bytes)

    some_begun : (bytes : List ℕ) → (bytes ≡ [] → ⊥) → 0 < length bytes
    some_begun [] some = absurd (some refl)
    some_begun (b ∷ bytes) some = omega arith

    -- it is at its end, and no line was begun
    pub ended_without : new.line ≡ Some [] → ReadsLine (Ok false) first new
    ended_without is = record {
      bytes = reading.taken;
      taken = took;
      none = reading.none;
      ended = λ _. ended;
      becomes = (whole ∙ given_none begun (sym line_is ∙ is), empty, ended);
    }

    -- it is at its end, and so is a line
    pub ended_at_end : (new.line ≡ Some [] → ⊥) → ReadsLine (Ok true) first new
    ended_at_end some = record {
      bytes = reading.taken;
      taken = took;
      none = reading.none;
      ended = λ _. ended;
      becomes = record {
        some = rw whole (some_begun begun (λ none. some (line_is ∙ ap given none)));
        line = line_is ∙ ap given (sym (before_none begun unended) ∙ ap (before_first is_line_feed) (sym whole));
        rest = empty ∙ sym (after_none begun unended) ∙ ap (after_first is_line_feed) (sym whole);
        ends = inr ended;
      };
    }

    -- whether there is a line
    pub ended_as : (is : Bool) → (is ≡ true → new.line ≡ Some []) → (new.line ≡ Some [] → is ≡ true) → ReadsLine (Ok (not is)) first new
    ended_as true if_so only = ended_without (if_so refl)
    ended_as false if_so only = ended_at_end (λ none. true≢false (sym (only none)))

pub no_bytes : (bytes : List ℕ) → (length bytes == 0) ≡ true → bytes ≡ []
no_bytes [] none = refl
no_bytes (b ∷ bytes) none = let more : 0 < length (b ∷ bytes) = omega arith in absurd (grind (arith, nat_tests))

pub still_open : (new old : Bool) → new ≡ false → (old ≡ true → ⊥) → new ≡ old
still_open new true goes_on ended = absurd (ended refl)
still_open new false goes_on ended = goes_on
