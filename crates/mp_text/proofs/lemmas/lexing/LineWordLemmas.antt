-- The words of a line, taken off its front one by one.
use Rattle.mp_text.proofs.lemmas.lexing.Names.{◌≡◌, ◌+◌, ◌<◌, ◌≤◌, ◌==◌, ◌&&◌, ◌∷◌, ◌++◌, ℕ, Bool, true, false, suc, List, [], Bor, append_assoc, append-nil, length, map_push, take, drop, drop-cons, get_or, length-drop, length-take-le, take-append-drop, All, All-head, All-tail, All-cons, All-nil, and_parts, IsAscii, IsAscii-from_all, Result, Ok, Err, refl, sym, ap, subst, ◌∙◌, arith, nat_tests, position_or_len, list_all, list_all-append, slice_split, slice_split_none, is_gap, is_word, is_word_byte, is_allowed, statement_part, words_of, texts, with_front, LineError}
use Rattle.std.specs.Prelude.{filter, if◌then◌else◌}
use Rattle.std.proofs.lemmas.List.Splits.{slice_split_at}
use Rattle.mp_text.specs.declared.lexing.line_error.LineError.TheVariants.{NotAscii}
use Rattle.mp_text.specs.lexing.Lines.{line_words}
use Rattle.mp_text.proofs.lemmas.lexing.PlainLemmas.{IsPlain, All-passing, list_all-passing, plain_allowed, plain_no_gap, plain_no_hash}

no_hash : (w : List ℕ) → IsPlain w → All (λ b. (b == 35) ≡ false) w
no_hash w plain = All-passing is_word_byte (λ b. (b == 35) ≡ false) plain_no_hash w plain.plain

no_gap : (w : List ℕ) → IsPlain w → All (λ b. is_gap b ≡ false) w
no_gap w plain = All-passing is_word_byte (λ b. is_gap b ≡ false) plain_no_gap w plain.plain

part-append : (w rest : List ℕ) → All (λ b. (b == 35) ≡ false) w → statement_part (w ++ rest) ≡ w ++ statement_part rest
part-append [] rest all = refl
part-append (b ∷ w) rest all =
    let one : 1 + position_or_len (λ b. b == 35) (w ++ rest) ≡ suc (position_or_len (λ b. b == 35) (w ++ rest)) = omega arith in
    rw (All-head (λ b. (b == 35) ≡ false) b w all, one) (ap (λ l. b ∷ l) (part-append w rest (All-tail (λ b. (b == 35) ≡ false) b w all)))

word_kept : (w : List ℕ) (parts : List (List ℕ)) → 0 < length w → filter is_word (w ∷ parts) ≡ w ∷ filter is_word parts
word_kept w parts some = grind (arith, nat_tests)

gap_no_hash : (b : ℕ) → is_gap b ≡ true → (b == 35) ≡ false
gap_no_hash b gap = grind (arith, nat_tests)

gap_part : (b : ℕ) (line : List ℕ) → is_gap b ≡ true → statement_part (b ∷ line) ≡ b ∷ statement_part line
gap_part b line gap = part-append (b ∷ []) line (All-cons (λ c. (c == 35) ≡ false) b [] (gap_no_hash b gap) (All-nil (λ c. (c == 35) ≡ false)))

abbrev words_in : List ℕ → List (List ℕ)
words_in part = filter is_word (slice_split is_gap part)

-- a word and a gap in front of a line
pub words_of-gap : (w : List ℕ) (b : ℕ) (line : List ℕ) → IsPlain w → is_gap b ≡ true → words_of (w ++ b ∷ line) ≡ w ∷ words_of line
unfolding words_of
words_of-gap w b line plain gap =
    ap words_in (part-append w (b ∷ line) (no_hash w plain) ∙ ap (λ part. w ++ part) (gap_part b line gap))
    ∙ ap (filter is_word) (slice_split_at is_gap w b (statement_part line) (no_gap w plain) gap)
    ∙ word_kept w (slice_split is_gap (statement_part line)) plain.some

-- a last word
pub words_of-last : (w : List ℕ) → IsPlain w → words_of w ≡ w ∷ []
unfolding words_of
words_of-last w plain = grind (arith, append-nil, (part-append w [] (no_hash w plain)), (slice_split_none is_gap w (no_gap w plain)), word_kept)

-- a gap in front
words_behind_gap : (b : ℕ) (line : List ℕ) → is_gap b ≡ true → words_of (b ∷ line) ≡ words_of line
unfolding words_of
words_behind_gap b line gap =
    ap words_in (gap_part b line gap) ∙ ap (filter is_word) (slice_split_at is_gap [] b (statement_part line) (All-nil (λ c. is_gap c ≡ false)) gap)

-- a comment
words_of-comment : (line : List ℕ) → words_of (35 ∷ line) ≡ []
unfolding words_of
words_of-comment line = refl

-- a word before a comment
words_before_comment : (w line : List ℕ) → IsPlain w → words_of (w ++ 35 ∷ line) ≡ w ∷ []
unfolding words_of
words_before_comment w line plain =
    ap words_in (part-append w (35 ∷ line) (no_hash w plain) ∙ append-nil w)
    ∙ ap (filter is_word) (slice_split_none is_gap w (no_gap w plain))
    ∙ word_kept w [] plain.some

-- an allowed byte that isn't of a word is a gap or begins a comment
hash_left : (b : ℕ) → is_word_byte b ≡ false → is_allowed b ≡ true → is_gap b ≡ false → b ≡ 35
hash_left b ends allowed gap = grind (arith, nat_tests)

gap_allowed : (b : ℕ) → is_gap b ≡ true → is_allowed b ≡ true
gap_allowed b gap = grind (arith, nat_tests)

word_first : (w : List ℕ) (b : ℕ) (line : List ℕ) → IsPlain w → is_word_byte b ≡ false → is_allowed b ≡ true → words_of (w ++ b ∷ line) ≡ w ∷ words_of (b ∷ line)
word_first w b line plain ends allowed = by (is_gap b) refl
  where
    by : (gap : Bool) → is_gap b ≡ gap → words_of (w ++ b ∷ line) ≡ w ∷ words_of (b ∷ line)
    by true gap = words_of-gap w b line plain gap ∙ ap (λ words. w ∷ words) (sym (words_behind_gap b line gap))
    by false gap =
        subst (λ c. words_of (w ++ c ∷ line) ≡ w ∷ words_of (c ∷ line)) (sym (hash_left b ends allowed gap))
        (words_before_comment w line plain ∙ ap (λ words. w ∷ words) (sym (words_of-comment line)))

-- the words of a line, where it is known whether all its bytes are allowed
abbrev words_if : Bool → List (List ℕ) → Result (List (List ℕ)) LineError
words_if allowed words = if allowed then Ok words else Err NotAscii

-- a gap in front is passed over
gap_passed : (b : ℕ) (line : List ℕ) → is_gap b ≡ true → line_words (b ∷ line) ≡ line_words line
gap_passed b line gap =
    ap (λ allowed. words_if (allowed && list_all is_allowed line) (words_of (b ∷ line))) (gap_allowed b gap)
    ∙ ap (words_if (list_all is_allowed line)) (words_behind_gap b line gap)

plain_passes : (w line : List ℕ) → IsPlain w → list_all is_allowed (w ++ line) ≡ list_all is_allowed line
plain_passes w line plain =
    list_all-append is_allowed w line ∙ ap (λ all. all && list_all is_allowed line) (list_all-passing is_word_byte is_allowed plain_allowed w plain.plain)

front_if : (w line : List ℕ) (allowed : Bool) → (allowed ≡ true → words_of (w ++ line) ≡ w ∷ words_of line)
    → words_if allowed (words_of (w ++ line)) ≡ with_front (w ∷ []) (words_if allowed (words_of line))
front_if w line true same = ap Ok (same refl)
front_if w line false same = refl

no_words : words_of [] ≡ []
unfolding words_of
no_words = refl

abbrev EndsWord : List ℕ → Type 0
EndsWord line = 0 < length line → is_word_byte (get_or line 0 0) ≡ false

-- a word in front is taken off
word_off : (w line : List ℕ) → IsPlain w → EndsWord line → line_words (w ++ line) ≡ with_front (w ∷ []) (line_words line)
word_off w line plain ends =
    ap (λ allowed. words_if allowed (words_of (w ++ line))) (plain_passes w line plain)
    ∙ front_if w line (list_all is_allowed line) (by line ends)
  where
    by : (line : List ℕ) → EndsWord line → list_all is_allowed line ≡ true → words_of (w ++ line) ≡ w ∷ words_of line
    by [] ends allowed = ap words_of (append-nil w) ∙ words_of-last w plain ∙ ap (λ words. w ∷ words) (sym no_words)
    by (b ∷ line) ends allowed = word_first w b line plain (ends (omega arith)) (and_parts (is_allowed b) (list_all is_allowed line) allowed).0

-- so is one that ends at this byte
word_taken : (k : ℕ) (line : List ℕ) → 0 < k → k ≤ length line → list_all is_word_byte (take k line) ≡ true → (k < length line → is_word_byte (get_or line k 0) ≡ false)
    → line_words line ≡ with_front (take k line ∷ []) (line_words (drop k line))
word_taken k line some within plain ends =
    ap line_words (sym (take-append-drop k line)) ∙ word_off (take k line) (drop k line) (record { some = long; plain = plain }) behind
  where
    long : 0 < length (take k line)
    long = let same = length-take-le k line within in omega (arith, same, some)

    behind : EndsWord (drop k line)
    behind more =
        let l : k < length line = omega (arith, length-drop k line, more) in
        ap (λ rest. is_word_byte (get_or rest 0 0)) (drop-cons line k 0 l) ∙ ends l

-- a comment says nothing
comment_read : (line : List ℕ) → 0 < length line → is_word_byte (get_or line 0 0) ≡ false → is_gap (get_or line 0 0) ≡ false → list_all is_allowed line ≡ true → line_words line ≡ Ok []
comment_read [] some ends gap allowed = absurd (omega (arith, some))
comment_read (b ∷ line) some ends gap allowed =
    let hash = hash_left b ends (and_parts (is_allowed b) (list_all is_allowed line) allowed).0 gap in
    ap (λ all. words_if all (words_of (b ∷ line))) allowed ∙ ap (λ c. words_if true (words_of (c ∷ line))) hash ∙ ap (words_if true) (words_of-comment line)

-- a byte that isn't allowed
not_read : (line : List ℕ) → list_all is_allowed line ≡ false → line_words line ≡ Err NotAscii
not_read line not = ap (λ all. words_if all (words_of line)) not

-- a gap in front is passed over
gap_taken : (line : List ℕ) → 0 < length line → is_gap (get_or line 0 0) ≡ true → line_words line ≡ line_words (drop 1 line)
gap_taken [] some gap = absurd (omega (arith, some))
gap_taken (b ∷ line) some gap = gap_passed b line gap

front_pushed : (words : List (Bor (List ℕ))) (word : Bor (List ℕ)) (read : Result (List (List ℕ)) LineError)
    → with_front (texts (words ++ word ∷ [])) read ≡ with_front (texts words) (with_front (word.now ∷ []) read)
front_pushed words word (Err error) = refl
front_pushed words word (Ok items) =
    ap (words_if true) (ap (λ front. front ++ items) (map_push (λ (w : Bor (List ℕ)). w.now) words word) ∙ append_assoc (texts words) (word.now ∷ []) items)

empty_read : (line : List ℕ) → length line ≡ 0 → line_words line ≡ Ok []
unfolding words_of
empty_read [] none = refl
empty_read (b ∷ line) none = absurd (omega (arith, none))

-- the words so far, and those of the rest, are those of the line
abbrev AreWords : List (Bor (List ℕ)) → List ℕ → List ℕ → Type 0
AreWords words rest line = with_front (texts words) (line_words rest) ≡ line_words line

-- so they are when a word is pushed
pub word_pushed : (words : List (Bor (List ℕ))) (word : Bor (List ℕ)) (k : ℕ) (rest line : List ℕ) → 0 < k → k ≤ length rest
    → list_all is_word_byte (take k rest) ≡ true → (k < length rest → is_word_byte (get_or rest k 0) ≡ false) → word.now ≡ take k rest
    → AreWords words rest line → AreWords (words ++ word ∷ []) (drop k rest) line
word_pushed words word k rest line some within plain ends same are =
    front_pushed words word (line_words (drop k rest))
    ∙ ap (with_front (texts words)) (ap (λ w. with_front (w ∷ []) (line_words (drop k rest))) same ∙ sym (word_taken k rest some within plain ends))
    ∙ are

-- and when a gap is passed over
pub gap_dropped : (words : List (Bor (List ℕ))) (rest line : List ℕ) → 0 < length rest → is_gap (get_or rest 0 0) ≡ true → AreWords words rest line → AreWords words (drop 1 rest) line
gap_dropped words rest line some gap are = ap (with_front (texts words)) (sym (gap_taken rest some gap)) ∙ are

all_read : (words : List (Bor (List ℕ))) (rest line : List ℕ) → line_words rest ≡ Ok [] → AreWords words rest line → line_words line ≡ Ok (texts words)
all_read words rest line none are = sym are ∙ ap (with_front (texts words)) none ∙ ap (words_if true) (append-nil (texts words))

-- at the end of the line they are its words
pub line_ended : (words : List (Bor (List ℕ))) (rest line : List ℕ) → length rest ≡ 0 → AreWords words rest line → line_words line ≡ Ok (texts words)
line_ended words rest line none are = all_read words rest line (empty_read rest none) are

-- so they are at a comment
pub comment_ended : (words : List (Bor (List ℕ))) (rest line : List ℕ) → 0 < length rest → is_word_byte (get_or rest 0 0) ≡ false → is_gap (get_or rest 0 0) ≡ false
    → list_all is_allowed rest ≡ true → AreWords words rest line → line_words line ≡ Ok (texts words)
comment_ended words rest line some ends gap allowed are = all_read words rest line (comment_read rest some ends gap allowed) are

-- a byte that isn't allowed is the fault of the line
pub fault_found : (words : List (Bor (List ℕ))) (rest line : List ℕ) → list_all is_allowed rest ≡ false → AreWords words rest line → line_words line ≡ Err NotAscii
fault_found words rest line fault are = sym are ∙ ap (with_front (texts words)) (not_read rest fault)

-- bytes of a word are ASCII
pub word_ascii : (w : List ℕ) → list_all is_word_byte w ≡ true → IsAscii w
word_ascii w plain = IsAscii-from_all w (All-passing is_word_byte (λ b. b < 128) (λ b byte. grind (arith, nat_tests)) w plain)

pub ruleset line_word_steps = (word_pushed, gap_dropped, line_ended, comment_ended, fault_found, word_ascii)
