-- No byte of a level's text is one of a mark.
use Rattle.std.proofs.Common.{◌≡◌, ◌≢◌, ℕ, ◌+◌, ◌/◌, ◌%◌, ◌<◌, ◌≤◌, ◌==◌, ◌⊎◌, inl, inr, Bool, true, false, cond, nat_lt, List, [], ◌∷◌, zero, suc, refl, arith}
use Rattle.std.proofs.lemmas.Bool.Decides.{nat_tests}
use Rattle.std.proofs.lemmas.List.Elements.{All-append, All-cons, All-nil, All-weaker}
use Rattle.std.specs.Fmt.{digits, digits_onto, digit_glyph}
use Rattle.std.specs.List.{All}
use Rattle.mp_picture.specs.declared.mark.Charset.{Charset}
use Rattle.mp_picture.specs.declared.mark.Charset.TheVariants.{Unicode, Ascii}
use Rattle.mp_picture.specs.declared.mark.Mark.{Mark}
use Rattle.mp_picture.specs.declared.mark.Mark.TheVariants.{Low, High, Rise, Fall, Busy, Flat, Cross}
use Rattle.mp_picture.specs.declared.numerals.Numerals.{Numerals}
use Rattle.mp_picture.specs.declared.numerals.Numerals.TheVariants.{Decimal, Hex}
use Rattle.mp_picture.specs.Marks.{mark_text}
use Rattle.mp_picture.specs.Levels.{LevelsApart, level_text, prefix_of, base_of}

-- a digit, or a small letter up to x
abbrev IsLevelByte : ℕ → Type 0
IsLevelByte b = ((48 ≤ b) × (b ≤ 57)) ⊎ ((97 ≤ b) × (b ≤ 120))

glyph_byte : (d : ℕ) → d < 16 → IsLevelByte (digit_glyph false d)
glyph_byte d small = by (nat_lt d 10) refl
  where
    by : (b : Bool) → nat_lt d 10 ≡ b → IsLevelByte (cond b (48 + d) (87 + d))
    by true test = let below : d < 10 = grind (arith, nat_tests) in inl (omega arith, omega (arith, below))
    by false test = let above : 10 ≤ d = grind (arith, nat_tests) in inr (omega (arith, above), omega (arith, small))

onto_bytes : (k base n : ℕ) (acc : List ℕ) → 0 < base → base ≤ 16 → All IsLevelByte acc → All IsLevelByte (digits_onto k base false n acc)
onto_bytes zero base n acc some few all = all
onto_bytes (suc k) base n acc some few all =
    let more : All IsLevelByte (digit_glyph false (n % base) ∷ acc) = All-cons IsLevelByte _ acc (glyph_byte (n % base) (omega (arith, some, few))) all in
    either (n / base == 0) _ _ more (onto_bytes k base (n / base) _ some few more)
  where
    either : (b : Bool) (xs ys : List ℕ) → All IsLevelByte xs → All IsLevelByte ys → All IsLevelByte (cond b xs ys)
    either true xs ys p q = p
    either false xs ys p q = q

digit_bytes : (base n : ℕ) → 0 < base → base ≤ 16 → All IsLevelByte (digits base false n)
unfolding digits
digit_bytes base n some few = onto_bytes 64 base n [] some few (All-nil IsLevelByte)

level_bytes : (numerals : Numerals) (level : ℕ) → All IsLevelByte (level_text numerals level)
level_bytes Decimal level = digit_bytes 10 level (omega arith) (omega arith)
level_bytes Hex level =
    let zero_x : All IsLevelByte (48 ∷ 120 ∷ []) =
    All-cons IsLevelByte 48 (120 ∷ []) (inl (omega arith, omega arith)) (All-cons IsLevelByte 120 [] (inr (omega arith, omega arith)) (All-nil IsLevelByte)) in
    All-append IsLevelByte (prefix_of Hex) (digits (base_of Hex) false level) zero_x (digit_bytes 16 level (omega arith) (omega arith))

-- a byte that no text of a level has
abbrev IsOther : ℕ → Type 0
IsOther m = (m < 48) ⊎ (((57 < m) × (m < 97)) ⊎ (120 < m))

apart : (b m : ℕ) → IsLevelByte b → IsOther m → b ≢ m
apart b m (inl digit) (inl low) same = omega (arith, digit.0, low, same)
apart b m (inl digit) (inr (inl middle)) same = omega (arith, digit.1, middle.0, same)
apart b m (inl digit) (inr (inr high)) same = omega (arith, digit.1, high, same)
apart b m (inr letter) (inl low) same = omega (arith, letter.0, low, same)
apart b m (inr letter) (inr (inl middle)) same = omega (arith, letter.0, middle.1, same)
apart b m (inr letter) (inr (inr high)) same = omega (arith, letter.1, high, same)

one : (a : ℕ) → IsOther a → All IsOther (a ∷ [])
one a p = All-cons IsOther a [] p (All-nil IsOther)

three : (a b c : ℕ) → 120 < a → 120 < b → 120 < c → All IsOther (a ∷ b ∷ c ∷ [])
three a b c p q r = All-cons IsOther a (b ∷ c ∷ []) (inr (inr p)) (All-cons IsOther b (c ∷ []) (inr (inr q)) (one c (inr (inr r))))

mark_bytes : (charset : Charset) (mark : Mark) → All IsOther (mark_text charset mark)
mark_bytes Unicode Low = three 226 150 129 (omega arith) (omega arith) (omega arith)
mark_bytes Unicode High = three 226 150 148 (omega arith) (omega arith) (omega arith)
mark_bytes Unicode Rise = three 226 149 177 (omega arith) (omega arith) (omega arith)
mark_bytes Unicode Fall = three 226 149 178 (omega arith) (omega arith) (omega arith)
mark_bytes Unicode Busy = three 226 150 146 (omega arith) (omega arith) (omega arith)
mark_bytes Unicode Flat = three 226 149 144 (omega arith) (omega arith) (omega arith)
mark_bytes Unicode Cross = three 226 149 179 (omega arith) (omega arith) (omega arith)
mark_bytes Ascii Low = one 95 (inr (inl (omega arith, omega arith)))
mark_bytes Ascii High = one 45 (inl (omega arith))
mark_bytes Ascii Rise = one 47 (inl (omega arith))
mark_bytes Ascii Fall = one 92 (inr (inl (omega arith, omega arith)))
mark_bytes Ascii Busy = one 35 (inl (omega arith))
mark_bytes Ascii Flat = one 61 (inr (inl (omega arith, omega arith)))
mark_bytes Ascii Cross = one 88 (inr (inl (omega arith, omega arith)))

pub levels_apart : LevelsApart
levels_apart numerals level charset mark =
    All-weaker IsLevelByte (λ b. All (λ m. b ≢ m) (mark_text charset mark))
    (λ b is. All-weaker IsOther (λ m. b ≢ m) (λ m other. apart b m is other) (mark_text charset mark) (mark_bytes charset mark))
    (level_text numerals level) (level_bytes numerals level)
