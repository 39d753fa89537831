-- Words that are written are read again.
use Rattle.mp_text.proofs.lemmas.lexing.Names.{◌≡◌, ◌^◌, ◌<◌, ◌==◌, ◌&&◌, ◌∷◌, ◌++◌, ℕ, true, false, not, List, [], length, map, All, Some, None, Result, Ok, decimal, refl, ap, arith, codes, nat_le, is_ascii_digit, list_all, list_any, nat_tests, and_parts, false_from_ne_true, or_right, length-append, bytes_eq-Decides, list_any-append, list_any_none, All-head, All-tail, take-append_seam, drop-append-add, LineError, pair_text, is_name, is_name_byte, begins_with_letter, time_and_value, parts_at_equals, is_slash, parts_at_slash, name_and_number, number_word, change_word, input_word, output_word, each_word}
use Rattle.std.specs.Option.{ok_or}
use Rattle.std.specs.Str.{bytes_eq}
use Rattle.mp_text.specs.declared.lexing.line_error.LineError.TheVariants.{BadNumber}
use Rattle.mp_text.proofs.lemmas.lexing.DecimalLemmas.{spelled_number-decimal, decimal_digits}
use Rattle.mp_text.proofs.lemmas.lexing.DividedLemmas.{position-append, before_last-append, after_last-append}
use Rattle.mp_text.proofs.lemmas.lexing.PlainLemmas.{All-passing, list_all-passing}

-- a number
pub number_back : (n : ℕ) → n < 2 ^ 64 → number_word (decimal n) ≡ Ok n
number_back n fits = ap (λ o. ok_or o BadNumber) (spelled_number-decimal n fits)

-- a time and a value
pub change_back : (change : ℕ × ℕ) → change.0 < 2 ^ 64 → change.1 < 2 ^ 64 → change_word (pair_text change) ≡ Ok change
unfolding time_and_value parts_at_equals
change_back change time value =
    let front = decimal change.0 in
    let back = decimal change.1 in
    let none = All-passing is_ascii_digit (λ b. (b == 61) ≡ false) (λ b digit. grind (arith, nat_tests)) front (decimal_digits change.0 time) in
    rw (position-append (λ b. b == 61) 61 back refl front none)
    (rw (take-append_seam front (61 ∷ back), drop-append-add front (61 ∷ back) 1) (rw (spelled_number-decimal change.0 time, spelled_number-decimal change.1 value) refl))

-- a name and a number
pub name_and_number-back : (name : List ℕ) (n : ℕ) → 0 < length name → n < 2 ^ 64 → name_and_number (name ++ 47 ∷ decimal n) ≡ Some (name, n)
unfolding name_and_number parts_at_slash
name_and_number-back name n some fits =
    let digits = list_all-passing is_ascii_digit (λ b. not (is_slash b)) (λ b digit. grind (arith, nat_tests)) (decimal n) (decimal_digits n fits) in
    let long : (length name == 0) ≡ false = grind (arith, nat_tests) in
    rw (before_last-append is_slash 47 (decimal n) refl digits name, after_last-append is_slash 47 (decimal n) refl digits name) (rw long (rw (spelled_number-decimal n fits) refl))

-- what each word says
pub each_back : {W X A : Type 0} (read : W → Result A LineError) (write : X → W) (see : X → A) (xs : List X)
    → All (λ x. read (write x) ≡ Ok (see x)) xs → each_word read (map write xs) ≡ Ok (map see xs)
unfolding each_word
each_back read write see [] all = refl
each_back read write see (x ∷ xs) all = grind (arith, nat_tests, All-head, All-tail, (each_back read write see xs (All-tail (λ x. read (write x) ≡ Ok (see x)) x xs all)))

-- a word with a slash in it is not `-`
longer : (name ds : List ℕ) → 0 < length name → bytes_eq (name ++ 47 ∷ ds) (codes "-") ≡ false
longer name ds some =
    let long = length-append name (47 ∷ ds) in
    false_from_ne_true _ (λ same. let one = ap length ((bytes_eq-Decides (name ++ 47 ∷ ds) (codes "-")).0 same) in omega (arith, some, long, one))

-- an output without a wire
pub no_wire_back : (delay : ℕ) → delay < 2 ^ 64 → output_word (codes "-" ++ (47 ∷ decimal delay)) ≡ Ok (record { wire = None; delay = delay })
unfolding output_word
no_wire_back delay fits = rw (longer (codes "-") (decimal delay) (omega arith), name_and_number-back (codes "-") delay (omega arith) fits) refl

-- a name is not `-`
name_not_dash : (name : List ℕ) → is_name name ≡ true → bytes_eq name (codes "-") ≡ false
unfolding is_name
name_not_dash [] valid = refl
name_not_dash (b ∷ bs) valid = grind (arith, nat_tests, and_parts)

-- an output at a wire
pub wire_back : (name : List ℕ) (delay : ℕ) → is_name name ≡ true → 0 < length name → delay < 2 ^ 64
    → output_word (name ++ (47 ∷ decimal delay)) ≡ Ok (record { wire = Some name; delay = delay })
unfolding output_word
wire_back name delay valid some fits = grind (arith, nat_tests, longer, name_and_number-back, name_not_dash)

name_no_slash : (name : List ℕ) → is_name name ≡ true → list_any is_slash name ≡ false
unfolding is_name
name_no_slash name valid =
    let bytes = (and_parts (begins_with_letter name && nat_le (length name) 32) (list_all is_name_byte name) valid).1 in
    list_any_none is_slash name (All-passing is_name_byte (λ b. is_slash b ≡ false) (λ b byte. grind (arith, nat_tests)) name bytes)

-- an input without a delay
pub input_back : (name : List ℕ) → is_name name ≡ true → input_word name ≡ Ok (record { wire = name; delay = 0 })
unfolding input_word
input_back name valid = rw (name_no_slash name valid) refl

-- an input with one
pub late_input_back : (name : List ℕ) (delay : ℕ) → 0 < length name → delay < 2 ^ 64 → input_word (name ++ (47 ∷ decimal delay)) ≡ Ok (record { wire = name; delay = delay })
unfolding input_word
late_input_back name delay some fits = grind (arith, nat_tests, list_any-append, or_right, name_and_number-back)
