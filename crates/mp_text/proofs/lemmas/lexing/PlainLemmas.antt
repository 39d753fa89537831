-- Words as they are written.
use Rattle.mp_text.proofs.lemmas.lexing.Names.{◌≡◌, ◌^◌, ◌<◌, ◌==◌, ◌∷◌, ◌++◌, ℕ, Bool, true, false, List, [], length, All, decimal, arith, is_ascii_digit, list_all, decimal_nonempty, nat_tests, length-append, All-weaker, and_parts, AllPass-from_list_all, list_all-from_AllPass, list_all-append, is_allowed, is_gap, is_word_byte, is_name, is_name_byte}
use Rattle.mp_text.proofs.lemmas.lexing.DecimalLemmas.{decimal_digits}

abbrev pub is_plain_byte : ℕ → Bool
is_plain_byte b = is_word_byte b

-- some bytes without a gap, a line feed or a comment
pub record IsPlain (word : List ℕ) : Type 0 where
  pub some : 0 < length word
  pub plain : list_all is_plain_byte word ≡ true

pub plain_allowed : (b : ℕ) → is_plain_byte b ≡ true → is_allowed b ≡ true
plain_allowed b plain = grind (arith, nat_tests)

pub plain_no_gap : (b : ℕ) → is_plain_byte b ≡ true → is_gap b ≡ false
plain_no_gap b plain = grind (arith, nat_tests)

pub plain_no_hash : (b : ℕ) → is_plain_byte b ≡ true → (b == 35) ≡ false
plain_no_hash b plain = grind (arith, nat_tests)

-- what holds of each byte that passes holds of all
pub All-passing : (p : ℕ → Bool) (P : ℕ → Type 0) → ((b : ℕ) → p b ≡ true → P b) → (w : List ℕ) → list_all p w ≡ true → All P w
All-passing p P each w all = All-weaker (λ b. p b ≡ true) P each w (AllPass-from_list_all p w all)

pub list_all-passing : (p q : ℕ → Bool) → ((b : ℕ) → p b ≡ true → q b ≡ true) → (w : List ℕ) → list_all p w ≡ true → list_all q w ≡ true
list_all-passing p q each w all = list_all-from_AllPass q w (All-passing p (λ b. q b ≡ true) each w all)

pub IsPlain-append : (v w : List ℕ) → IsPlain v → IsPlain w → IsPlain (v ++ w)
IsPlain-append v w front back = grind (arith, length-append, list_all-append)

pub IsPlain-decimal : (n : ℕ) → n < 2 ^ 64 → IsPlain (decimal n)
IsPlain-decimal n fits = record { some = decimal_nonempty n fits; plain = list_all-passing is_ascii_digit is_plain_byte (λ b digit. grind (arith, nat_tests)) (decimal n) (decimal_digits n fits) }

pub IsPlain-name : (name : List ℕ) → is_name name ≡ true → IsPlain name
unfolding is_name
IsPlain-name [] valid = grind arith
IsPlain-name (b ∷ bs) valid = grind (arith, nat_tests, and_parts, (list_all-passing is_name_byte is_plain_byte (λ b name. grind (arith, nat_tests))))
