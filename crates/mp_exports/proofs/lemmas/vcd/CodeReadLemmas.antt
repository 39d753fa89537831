-- Codes and numbers as words, and what they are read as.
use Rattle.mp_exports.proofs.lemmas.vcd.Names.{◌≡◌, ◌+◌, ◌-◌, ◌*◌, ◌/◌, ◌%◌, ◌^◌, ◌<◌, ◌≤◌, ◌∷◌, ℕ, Bool, true, false, nat_lt, List, [], length, zero, suc, decimal, refl, sym, ap, ◌∙◌, add-one, arith, codes, is_ascii_digit, list_all, bytes_eq, digits_value, false_from_ne_true, lt-ltb, ltb-false, ltb-true, nat_tests, list_all-append, bytes_eq-Decides, IsPlain, IsPlain-decimal, is_plain_byte, list_all-passing, is_made_of, is_binary, is_printed, digits_of, code, bit, bits}
use Rattle.std.proofs.lemmas.Int.Digits.{digits_value_push}
use Rattle.std.proofs.lemmas.Nat.{mod-pow-add}
use Rattle.mp_text.proofs.lemmas.lexing.DecimalLemmas.{decimal_digits}
use Rattle.mp_exports.proofs.lemmas.vcd.CodeLemmas.{bits_long, code_some}

-- some bytes, none of them white space
pub record IsSolid (word : List ℕ) : Type 0 where
  pub some : 0 < length word
  pub solid : list_all (nat_lt 32) word ≡ true

pub IsSolid-plain : (word : List ℕ) → IsPlain word → IsSolid word
IsSolid-plain word plain = record { some = plain.some; solid = list_all-passing is_plain_byte (nat_lt 32) (λ b plain. grind (arith, nat_tests)) word plain.plain }

pub IsSolid-decimal : (n : ℕ) → n < 2 ^ 64 → IsSolid (decimal n)
IsSolid-decimal n fits = IsSolid-plain (decimal n) (IsPlain-decimal n fits)

-- a byte before solid bytes
pub solid_behind : (b : ℕ) (word : List ℕ) → 32 < b → list_all (nat_lt 32) word ≡ true → IsSolid (b ∷ word)
solid_behind b word high solid = grind (arith, nat_tests)

digits_all : (p : ℕ → Bool) → ((n : ℕ) → p (33 + n % 94) ≡ true) → (most n : ℕ) → list_all p (digits_of most n) ≡ true
digits_all p each zero n = refl
digits_all p each (suc most) n = grind (arith, nat_tests, (digits_all p each most (n / 94)))

pub code_all : (p : ℕ → Bool) → ((n : ℕ) → p (33 + n % 94) ≡ true) → (w : ℕ) → list_all p (code w) ≡ true
unfolding code
code_all p each w = digits_all p each (suc w) w

pub IsSolid-code : (w : ℕ) → IsSolid (code w)
IsSolid-code w = record { some = code_some w; solid = code_all (nat_lt 32) (λ n. grind (arith, nat_tests)) w }

-- the number whose digits these are
abbrev pub worth : List ℕ → ℕ
worth [] = 0
worth (digit ∷ digits) = (digit - 33) + 94 * worth digits

worth-digits : (most n : ℕ) → n < most → worth (digits_of most n) ≡ n
worth-digits zero n below = grind (arith, nat_tests)
worth-digits (suc most) n below = grind (arith, nat_tests, ltb-true, ltb-false, (worth-digits most (n / 94)))

pub code_worth : (w : ℕ) → worth (code w) ≡ w
unfolding code
code_worth w = worth-digits (suc w) w (omega arith)

pub own_codes : (w v : ℕ) → code w ≡ code v → w ≡ v
own_codes w v same = sym (code_worth w) ∙ ap worth same ∙ code_worth v

-- a word that passes a test which `$end` fails
pub not_end : (p : List ℕ → Bool) (word : List ℕ) → p word ≡ true → p (codes "$end") ≡ false → bytes_eq word (codes "$end") ≡ false
not_end p word passes fails =
    false_from_ne_true (bytes_eq word (codes "$end")) (λ same. let no : false ≡ true = sym fails ∙ ap p (sym ((bytes_eq-Decides word (codes "$end")).0 same)) ∙ passes in cc no)

-- the digits of a level are read as its lowest bits
pub bits_read : (width level : ℕ) → digits_value 2 (bits width level) ≡ level % 2 ^ width
unfolding bits
bits_read zero level = grind (arith, nat_tests)
bits_read (suc width) level = grind (arith, nat_tests, digits_value_push, add-one, (mod-pow-add level width 1), (bits_read width (level / 2)))

pub bits_all : (p : ℕ → Bool) → ((level : ℕ) → p (bit level) ≡ true) → (width level : ℕ) → list_all p (bits width level) ≡ true
unfolding bits
bits_all p each zero level = refl
bits_all p each (suc width) level = grind (arith, nat_tests, list_all-append, (bits_all p each width (level / 2)))

pub decimal_made : (n : ℕ) → n < 2 ^ 64 → is_made_of is_ascii_digit (decimal n) ≡ true
decimal_made n fits = grind (arith, nat_tests, lt-ltb, IsSolid-decimal, decimal_digits)

pub code_made : (w : ℕ) → is_made_of is_printed (code w) ≡ true
code_made w = grind (arith, lt-ltb, IsSolid-code, code_all, nat_tests)

pub bits_made : (width level : ℕ) → 1 ≤ width → is_made_of is_binary (bits width level) ≡ true
bits_made width level wide = grind (arith, lt-ltb, bits_long, bits_all, nat_tests)
