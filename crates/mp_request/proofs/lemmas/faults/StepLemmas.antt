-- Facts about steps of the loops over bytes and changes.
use Rattle.std.proofs.Common.{◌≡◌, ◌≢◌, ℕ, zero, suc, ◌+◌, ◌-◌, ◌<◌, ◌≤◌, List, length, drop, get_or, refl, arith, eq-eqb}
use Rattle.std.specs.Prelude.{true, false, if◌then◌else◌}
use Rattle.std.proofs.lemmas.Bool.{ne_eqb}
use Rattle.std.proofs.lemmas.Bool.Decides.{nat_tests}
use Rattle.std.proofs.lemmas.List.{at_drop_all, at_drop_more, take_rest}
use Rattle.mp_text.specs.Names.{is_line_feed}
use Rattle.mp_request.specs.faults.TextLines.{bytes_of_lines}
use Rattle.mp_request.specs.faults.Spans.{gap_count, word_end, span_from}
use Rattle.mp_request.specs.faults.EditPlaces.{is_good, good_changes}

pub bytes_next : (left at : ℕ) (text : List ℕ) → 0 < left → at < length text
    → bytes_of_lines left (drop at text) ≡ bytes_of_lines (if is_line_feed (get_or text at 0) then left - 1 else left) (drop (at + 1) text) + 1
unfolding bytes_of_lines
bytes_next zero at text some less = absurd (omega arith)
bytes_next (suc count) at text some less =
    let one : suc count - 1 ≡ count = omega arith in
    rw one (at_drop_more (bytes_of_lines (suc count)) text at 0 less)

pub bytes_end : (left at : ℕ) (text : List ℕ) → length text ≤ at → bytes_of_lines left (drop at text) ≡ 0
unfolding bytes_of_lines
bytes_end zero at text over = refl
bytes_end (suc count) at text over = grind (arith, (at_drop_all (bytes_of_lines (suc count)) text at over))

pub bytes_none : (left : ℕ) (text : List ℕ) → left ≤ 0 → bytes_of_lines left text ≡ 0
unfolding bytes_of_lines
bytes_none zero text none = refl
bytes_none (suc count) text none = absurd (omega arith)

pub ruleset bytes_steps = (bytes_next, bytes_end, bytes_none)

pub span_end : (left at : ℕ) (rest : List ℕ) → gap_count rest ≡ length rest → span_from left at rest ≡ (at, at + 1)
unfolding span_from
span_end zero at rest none = grind (arith, nat_tests, (eq-eqb (gap_count rest) (length rest) none))
span_end (suc left) at rest none = grind (arith, nat_tests, (eq-eqb (gap_count rest) (length rest) none))

pub span_here : (at : ℕ) (rest : List ℕ) → gap_count rest ≢ length rest → span_from 0 at rest ≡ (at + gap_count rest, at + word_end rest)
unfolding span_from
span_here at rest some = grind (arith, nat_tests, (ne_eqb (gap_count rest) (length rest) some))

pub span_next : (left at : ℕ) (rest : List ℕ) → 0 < left → gap_count rest ≢ length rest
    → span_from left at rest ≡ span_from (left - 1) (at + word_end rest) (drop (word_end rest) rest)
unfolding span_from
span_next zero at rest more some = absurd (omega arith)
span_next (suc left) at rest more some =
    let one : suc left - 1 ≡ left = omega arith in
    rw one (grind (arith, nat_tests, (ne_eqb (gap_count rest) (length rest) some)))

pub ruleset span_steps = (span_end, span_here, span_next, take_rest)

module _ (horizon width before k : ℕ) (changes : List (ℕ × ℕ)) (d : ℕ × ℕ) where
  pub good_next : k < length changes → is_good horizon width before (get_or changes k d) ≡ true
      → good_changes horizon width before (drop k changes) ≡ good_changes horizon width (get_or changes k d).0 (drop (k + 1) changes) + 1
  unfolding good_changes
  good_next less good = rw (at_drop_more (good_changes horizon width before) changes k d less, good) refl

  pub good_stop : k < length changes → is_good horizon width before (get_or changes k d) ≡ false → good_changes horizon width before (drop k changes) ≡ 0
  unfolding good_changes
  good_stop less bad = rw (at_drop_more (good_changes horizon width before) changes k d less, bad) refl

pub good_end : (horizon width before k : ℕ) (changes : List (ℕ × ℕ)) → length changes ≤ k → good_changes horizon width before (drop k changes) ≡ 0
unfolding good_changes
good_end horizon width before k changes over = at_drop_all (good_changes horizon width before) changes k over
