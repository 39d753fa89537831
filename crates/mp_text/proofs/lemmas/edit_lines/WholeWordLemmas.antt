-- Words that no gap and no `;` divides.
use Rattle.std.proofs.Common.{◌≡◌, ℕ, ◌^◌, ◌<◌, Bool, true, false, not, ◌==◌, ◌&&◌, List, [], ◌∷◌, ◌++◌, length, decimal, refl, sym, ◌∙◌, arith, true≢false}
use Rattle.std.specs.Prelude.{nat_le}
use Rattle.std.specs.Char.{is_ascii_digit}
use Rattle.std.specs.List.{list_all}
use Rattle.std.proofs.lemmas.Fmt.{decimal_nonempty}
use Rattle.std.proofs.lemmas.Bool.{and_parts}
use Rattle.std.proofs.lemmas.Bool.Decides.{nat_tests}
use Rattle.std.proofs.lemmas.List.{length-append}
use Rattle.std.proofs.lemmas.List.Folds.{list_all-append}
use Rattle.mp_records.specs.Names.{is_name, is_name_byte, begins_with_letter}
use Rattle.mp_text.proofs.lemmas.lexing.DecimalLemmas.{decimal_digits}
use Rattle.mp_text.proofs.lemmas.lexing.PlainLemmas.{IsPlain, is_plain_byte, list_all-passing}
use Rattle.mp_text.specs.Statements.{is_mark}

-- printed, and neither a space nor `#` nor `;`
abbrev pub is_whole_byte : ℕ → Bool
is_whole_byte b = is_plain_byte b && not (b == 59)

-- some bytes without a gap, a line feed, a comment or a division of a batch
pub record IsWhole (word : List ℕ) : Type 0 where
  pub some : 0 < length word
  pub whole : list_all is_whole_byte word ≡ true

digit_whole : (b : ℕ) → is_ascii_digit b ≡ true → is_whole_byte b ≡ true
digit_whole b digit = grind (arith, nat_tests)

name_byte_whole : (b : ℕ) → is_name_byte b ≡ true → is_whole_byte b ≡ true
name_byte_whole b name = grind (arith, nat_tests)

whole_plain : (b : ℕ) → is_whole_byte b ≡ true → is_plain_byte b ≡ true
whole_plain b whole = (and_parts (is_plain_byte b) (not (b == 59)) whole).0

whole_no_mark : (b : ℕ) → is_whole_byte b ≡ true → (b == 59) ≡ false
whole_no_mark b whole = grind (arith, nat_tests)

pub IsWhole-append : (v w : List ℕ) → IsWhole v → IsWhole w → IsWhole (v ++ w)
IsWhole-append v w front back = record {
  some = let n = length-append v w in omega (arith, n, front.some);
  whole = list_all-append is_whole_byte v w ∙ rw (front.whole, back.whole) refl;
}

pub IsWhole-decimal : (n : ℕ) → n < 2 ^ 64 → IsWhole (decimal n)
IsWhole-decimal n fits = record {
  some = decimal_nonempty n fits;
  whole = list_all-passing is_ascii_digit is_whole_byte digit_whole (decimal n) (decimal_digits n fits);
}

pub IsWhole-name : (name : List ℕ) → is_name name ≡ true → IsWhole name
unfolding is_name
IsWhole-name [] valid = absurd (true≢false (sym valid))
IsWhole-name (b ∷ bs) valid = record {
  some = omega arith;
  whole = list_all-passing is_name_byte is_whole_byte name_byte_whole (b ∷ bs) ((and_parts (begins_with_letter (b ∷ bs) && nat_le (length (b ∷ bs)) 32) (list_all is_name_byte (b ∷ bs)) valid).1);
}

-- such a word is read as itself
pub IsPlain-whole : (word : List ℕ) → IsWhole word → IsPlain word
IsPlain-whole word whole = record { some = whole.some; plain = list_all-passing is_whole_byte is_plain_byte whole_plain word whole.whole }

-- and divides no batch
pub whole_unmarked : (word : List ℕ) → IsWhole word → is_mark 59 word ≡ false
whole_unmarked [] whole = absurd (omega (arith, whole.some))
whole_unmarked (b ∷ bs) whole = let other = whole_no_mark b (and_parts (is_whole_byte b) (list_all is_whole_byte bs) whole.whole).0 in rw other refl
