-- Facts about words.
use Rattle.mp_text.proofs.lemmas.lexing.Names.{◌<◌, ◌==◌, ◌∷◌, ◌-◌, ◌≡◌, ℕ, Bool, List, [], Bor, length, drop, take, IsAscii, All, sym, subst, slice_split, onto_first, position_or_len, All-cons, All-nil, All-head, All-tail, All-filter, All-weaker, map, arith, get_or-map, length-map, IsAscii-from_all, All-from_ascii, IsAscii-take, take_rest, drop-map, All-drop, words_of, is_word, is_gap, statement_part, texts, AreAscii, IsUtf8-from_ascii, Option, Some, None, get_or, position, false_from_ne_true, nat_tests, position_or_len_is}
use Rattle.memchr.specs.Find.{IsFirstByte}

module _ {X : Type 0} (P : X → Type 0) (p : X → Bool) where
  All-onto_first : (x : X) (parts : List (List X)) → P x → All (All P) parts → All (All P) (onto_first x parts)
  All-onto_first x [] here all = All-cons (All P) (x ∷ []) [] (All-cons P x [] here (All-nil P)) (All-nil (All P))
  All-onto_first x (part ∷ parts) here all = All-cons (All P) (x ∷ part) parts (All-cons P x part here (All-head (All P) part parts all)) (All-tail (All P) part parts all)

  -- what holds of each element holds of each of its parts' elements
  pub All-slice_split : (xs : List X) → All P xs → All (All P) (slice_split p xs)
  All-slice_split [] all = grind (arith, All-cons, All-nil)
  All-slice_split (x ∷ xs) all = grind (arith, All-tail, All-cons, All-nil, All-onto_first, All-head, (All-slice_split xs (All-tail P x xs all)))

-- what holds of each image
pub All-unmap : {X Y : Type 0} (P : Y → Type 0) (f : X → Y) (xs : List X) → All P (map f xs) → All (λ x. P (f x)) xs
All-unmap P f xs all k d within = subst P (get_or-map f xs k d (f d) within) (all k (f d) (omega (arith, within, length-map xs f)))

-- words that are those of a line of ASCII bytes
pub texts_ascii : (ws : List (Bor (List ℕ))) (line : List ℕ) → texts ws ≡ words_of line → IsAscii line → AreAscii ws
unfolding words_of
texts_ascii ws line same ascii =
    let part = statement_part line in
    let bytes = All-from_ascii part (IsAscii-take line (position_or_len (λ byte. byte == 35) line) ascii) in
    let parts = All-weaker (All (λ b. b < 128)) IsAscii IsAscii-from_all (slice_split is_gap part) (All-slice_split (λ b. b < 128) is_gap part bytes) in
    All-unmap IsAscii (λ w. w.now) ws (subst (All IsAscii) (sym same) (All-filter is_word IsAscii (slice_split is_gap part) parts))

-- the words behind the first k
pub rest_ascii : (ws : List (Bor (List ℕ))) (k : ℕ) → AreAscii ws → AreAscii (take (length ws - k) (drop k ws))
rest_ascii ws k all = rw (take_rest ws k) (All-drop (λ w. IsAscii w.now) k ws all)

-- the texts of the words behind the first k
pub texts_behind : (ws : List (Bor (List ℕ))) (k : ℕ) → texts (take (length ws - k) (drop k ws)) ≡ drop k (texts ws)
texts_behind ws k = rw (take_rest ws k) (sym (drop-map (λ (w : Bor (List ℕ)). w.now) k ws))

pub ruleset name_steps = (IsUtf8-from_ascii)

-- the first place that a search gives
pub first_place : (test : ℕ → Bool) (hay : List ℕ) (r : Option ℕ) → IsFirstByte test hay r → r ≡ position test hay
first_place test hay None none =
    grind (arith, nat_tests, (position_or_len_is test hay (length hay) 0 (omega arith) (λ k low. false_from_ne_true (test (get_or hay k 0)) (none k (omega arith) low)) (λ less. absurd (omega (arith, less)))))
first_place test hay (Some k) found =
    let within : k < length hay = found.0.high in
    grind (arith, nat_tests, (position_or_len_is test hay k 0 (omega (arith, within)) (λ i low. false_from_ne_true (test (get_or hay i 0)) (found.0.before i (omega arith) low)) (λ less. found.1)))
