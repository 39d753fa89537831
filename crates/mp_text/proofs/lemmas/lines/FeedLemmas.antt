-- Bytes behind others in which no line ends.
use Rattle.std.proofs.Common.{◌≡◌, ℕ, ◌+◌, ◌<◌, ◌≤◌, Bool, true, false, List, [], ◌∷◌, ◌++◌, length, take, drop, true≢false, refl, sym, ap, ◌∙◌, arith}
use Rattle.std.specs.List.{position_or_len, before_first, after_first}
use Rattle.std.proofs.lemmas.Bool.Decides.{nat_tests}
use Rattle.std.proofs.lemmas.List.{append-nil, length-append, take-append-le, drop-append-le}
use Rattle.std.proofs.Math.Seq.{take-append-add, drop-append-add}
use Rattle.mp_text.specs.lexing.Lines.{is_line_feed, lines_of}
use Rattle.mp_text.proofs.lemmas.lexing.LineLemmas.{lines_of-cons}
use Rattle.mp_text.specs.lines.Given.{has_line_feed}

-- the first line feed is behind these bytes
module _ (q : List ℕ) where
  past : (b : ℕ) (p : List ℕ) (t : Bool) → is_line_feed b ≡ t → has_line_feed (b ∷ p) ≡ false → (has_line_feed p ≡ false → position_or_len is_line_feed (p ++ q) ≡ length p + position_or_len is_line_feed q)
      → position_or_len is_line_feed (b ∷ (p ++ q)) ≡ length (b ∷ p) + position_or_len is_line_feed q
  past b p true e none next =
      let first : has_line_feed (b ∷ p) ≡ true = rw e (grind (arith, nat_tests)) in
      absurd (true≢false (sym first ∙ none))
  past b p false e none next =
      let same : has_line_feed (b ∷ p) ≡ has_line_feed p = rw e (grind (arith, nat_tests)) in
      let rest = next (sym same ∙ none) in
      rw e (omega arith)

  pub place_behind : (p : List ℕ) → has_line_feed p ≡ false → position_or_len is_line_feed (p ++ q) ≡ length p + position_or_len is_line_feed q
  place_behind [] none = omega arith
  place_behind (b ∷ p) none = past b p (is_line_feed b) refl none (place_behind p)

module _ (p q : List ℕ) (none : has_line_feed p ≡ false) where
  pub before_behind : before_first is_line_feed (p ++ q) ≡ p ++ before_first is_line_feed q
  before_behind = ap (λ n. take n (p ++ q)) (place_behind q p none) ∙ take-append-add p q (position_or_len is_line_feed q)

  pub after_behind : after_first is_line_feed (p ++ q) ≡ after_first is_line_feed q
  after_behind =
      let place = place_behind q p none in
      let next : position_or_len is_line_feed (p ++ q) + 1 ≡ length p + (position_or_len is_line_feed q + 1) = omega arith in
      ap (λ n. drop n (p ++ q)) next ∙ drop-append-add p q (position_or_len is_line_feed q + 1)

  pub feed_behind : has_line_feed (p ++ q) ≡ has_line_feed q
  feed_behind =
      let place = place_behind q p none in
      let long = length-append p q in
      rw (place, long) (grind (arith, nat_tests))

-- where there is no line feed, all bytes are before it and none behind it

pub before_none : (p : List ℕ) → has_line_feed p ≡ false → before_first is_line_feed p ≡ p
before_none p none = sym (ap (before_first is_line_feed) (append-nil p)) ∙ before_behind p [] none ∙ append-nil p

pub after_none : (p : List ℕ) → has_line_feed p ≡ false → after_first is_line_feed p ≡ []
after_none p none = sym (ap (after_first is_line_feed) (append-nil p)) ∙ after_behind p [] none

-- the first line feed is in these bytes
module _ (q : List ℕ) where
  within : (b : ℕ) (p : List ℕ) (t : Bool) → is_line_feed b ≡ t → has_line_feed (b ∷ p) ≡ true → (has_line_feed p ≡ true → position_or_len is_line_feed (p ++ q) ≡ position_or_len is_line_feed p)
      → position_or_len is_line_feed (b ∷ (p ++ q)) ≡ position_or_len is_line_feed (b ∷ p)
  within b p true e feed next = rw e refl
  within b p false e feed next =
      let same : has_line_feed (b ∷ p) ≡ has_line_feed p = rw e (grind (arith, nat_tests)) in
      let rest = next (sym same ∙ feed) in
      rw (e, rest) refl

  place_within : (p : List ℕ) → has_line_feed p ≡ true → position_or_len is_line_feed (p ++ q) ≡ position_or_len is_line_feed p
  place_within [] feed = absurd (true≢false (sym feed))
  place_within (b ∷ p) feed = within b p (is_line_feed b) refl feed (place_within p)

module _ (p q : List ℕ) (feed : has_line_feed p ≡ true) where
  less : position_or_len is_line_feed p < length p
  less = grind (arith, nat_tests)

  pub before_within : before_first is_line_feed (p ++ q) ≡ before_first is_line_feed p
  before_within =
      let near : position_or_len is_line_feed p ≤ length p = omega (arith, less) in
      ap (λ n. take n (p ++ q)) (place_within q p feed) ∙ take-append-le (position_or_len is_line_feed p) p q near

  pub after_within : after_first is_line_feed (p ++ q) ≡ after_first is_line_feed p ++ q
  after_within =
      let near : position_or_len is_line_feed p + 1 ≤ length p = omega (arith, less) in
      ap (λ n. drop (n + 1) (p ++ q)) (place_within q p feed) ∙ drop-append-le (position_or_len is_line_feed p + 1) p q near

  some_bytes : (bytes : List ℕ) → has_line_feed bytes ≡ true → 0 < length bytes
  some_bytes [] some = absurd (true≢false (sym some))
  some_bytes (b ∷ bytes) some = omega arith

  -- the first line of these bytes is that of more bytes too
  pub lines_within : lines_of (p ++ q) ≡ before_first is_line_feed p ∷ lines_of (after_first is_line_feed p ++ q)
  lines_within =
      let some : 0 < length (p ++ q) = omega (arith, length-append p q, some_bytes p feed) in
      lines_of-cons (p ++ q) some ∙ ap (λ l. l ∷ lines_of (after_first is_line_feed (p ++ q))) before_within
      ∙ ap (λ l. before_first is_line_feed p ∷ lines_of l) after_within
