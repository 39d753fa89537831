-- What a wave says to a reader.
use Rattle.std.proofs.Common.{◌≡◌, ◌≢◌, ℕ, ◌+◌, ◌-◌, ◌*◌, ◌/◌, ◌%◌, ◌==◌, Bool, true, false, ◌&&◌, List, [], ◌∷◌, ◌++◌, length, map, zero, suc, refl, sym, ap, ◌∙◌, arith, if◌then◌else◌}
use Rattle.std.specs.List.{flat_map, range_with_len}
use Rattle.std.specs.Str.{byte}
use Rattle.std.proofs.lemmas.List.FromFn.{length-range_with_len}
use Rattle.std.proofs.lemmas.Bool.Decides.{nat_tests}
use Rattle.mp_picture.specs.declared.cell.ColumnCell.{ColumnCell}
use Rattle.mp_picture.specs.declared.cell.ColumnEvents.{ColumnEvents}
use Rattle.mp_picture.specs.declared.cell.ColumnEvents.TheVariants.{None, One, More}
use Rattle.mp_picture.specs.declared.columns.Columns.{Columns}
use Rattle.mp_picture.specs.Cells.{cells}
use Rattle.mp_picture.specs.Columns.{begin, count}
use Rattle.mp_picture.proofs.lemmas.svg.ColumnLemmas.{length-cells}
use Rattle.mp_picture.specs.wave_json.WaveJson.{tick}
use Rattle.mp_picture.specs.wave_json.Waves.{bit_at, bit_character, bit_symbol, character, wave}
use Rattle.mp_picture.specs.wave_json.Laws.{HasCharacters, ShowsBits, TicksAreTimes, shown_behind}

length-singles : (g : ℕ → ℕ) (xs : List ℕ) → length (flat_map (λ j. g j ∷ []) xs) ≡ length xs
length-singles g [] = refl
length-singles g (x ∷ xs) = ap suc (length-singles g xs)

pub has_characters : HasCharacters
has_characters width f c = length-singles (character width (cells f c)) (range_with_len 0 (length (cells f c))) ∙ length-range_with_len 0 (length (cells f c)) ∙ length-cells f c

-- no symbol is a `.`
not_point : (events : ColumnEvents) (level : ℕ) → (bit_symbol events level == byte ".") ≡ false
not_point None level = grind (arith, nat_tests)
not_point One level = grind (arith, nat_tests)
not_point More level = refl

-- a character behind a column with the symbol before it shows its column's symbol
shows_next : (drawn : List ColumnCell) (k before : ℕ) → before ≡ bit_at drawn k → (if bit_character drawn (k + 1) == byte "." then before else bit_character drawn (k + 1)) ≡ bit_at drawn (k + 1)
shows_next drawn k before is = grind (arith, nat_tests, not_point)

shows_rest : (drawn : List ColumnCell) (n k before : ℕ) → before ≡ bit_at drawn k
    → shown_behind before (flat_map (λ j. character 1 drawn j ∷ []) (range_with_len (k + 1) n)) ≡ map (bit_at drawn) (range_with_len (k + 1) n)
shows_rest drawn zero k before is = refl
shows_rest drawn (suc n) k before is =
    rw (shows_next drawn k before is) (ap (λ l. bit_at drawn (k + 1) ∷ l) (shows_rest drawn n (k + 1) (bit_at drawn (k + 1)) refl))

pub shows_bits : ShowsBits
shows_bits before [] = refl
shows_bits before (cell ∷ cells) = rw (not_point cell.events cell.level) (ap (λ l. bit_symbol cell.events cell.level ∷ l) (shows_rest (cell ∷ cells) (length cells) 0 (bit_symbol cell.events cell.level) refl))

pub ticks_are_times : TicksAreTimes
ticks_are_times c j whole = grind arith
