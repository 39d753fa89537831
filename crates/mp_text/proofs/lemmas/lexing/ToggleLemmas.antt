-- Changes of a level that toggles.
use Rattle.mp_text.proofs.lemmas.lexing.Names.{◌≡◌, ◌+◌, ◌-◌, ◌<◌, ◌≤◌, ◌∷◌, ◌++◌, left_as, left_whole, left_none, puts_then, ℕ, List, [], append_assoc, append-nil, add-one, decimal, drop, get_or, length, refl, ap, ◌∙◌, arith, set, length-set, drop_of_length-le, drop-cons, decimal_digit, toggle_changes, change_text, changes_text}
use Rattle.std.proofs.lemmas.List.Concat.{flat_map-append}
use Rattle.mp_streams.specs.Places.{IsPlaced}
use Rattle.mp_streams.proofs.PlaceLemmas.{placed_byte, placed_both}

-- a space, a time, an equals sign and a level of one digit are a change
pub toggle_placed : (time level : ℕ) (room timed : List ℕ) (at sign : ℕ) → level ≤ 1 → at < length room → IsPlaced (set room at 32) timed (at + 1) (decimal time) sign →
    sign + 1 < length timed → IsPlaced room (set (set timed sign 61) (sign + 1) (48 + level)) at (change_text (time, level)) (sign + 2)
toggle_placed time level room timed at sign low within placed room_left =
    let equals = placed_byte timed sign 61 (omega arith) in
    let one = placed_byte (set timed sign 61) (sign + 1) (48 + level) (omega (arith, length-set timed sign 61)) in
    let all = placed_both (placed_both (placed_both (placed_byte room at 32 within) placed) equals) one in
    grind (arith, decimal_digit, append_assoc)

dropped : (times : List ℕ) (i next : ℕ) → next ≡ i + 1 → i < length times → drop i times ≡ get_or times i 0 ∷ drop next times
dropped times i next is within = rw (is, add-one, drop-cons times i 0) refl

-- the changes at four times, and at those behind them
four_more : (level one two three four : ℕ) (others : List ℕ) → level ≤ 1 →
    changes_text (toggle_changes level (one ∷ two ∷ three ∷ four ∷ others)) ≡
    changes_text (toggle_changes level (one ∷ two ∷ three ∷ four ∷ [])) ++ changes_text (toggle_changes level others)
four_more level one two three four others low =
    let front = toggle_changes level (one ∷ two ∷ three ∷ four ∷ []) in
    ap (λ l. changes_text (front ++ toggle_changes l others)) (omega arith) ∙ flat_map-append change_text front (toggle_changes level others)

-- the same from a place on
pub four_from : (level : ℕ) (times : List ℕ) (i : ℕ) → level ≤ 1 → i + 4 ≤ length times →
    changes_text (toggle_changes level (drop i times)) ≡
    changes_text (toggle_changes level (get_or times i 0 ∷ get_or times (i + 1) 0 ∷ get_or times (i + 2) 0 ∷ get_or times (i + 3) 0 ∷ []))
    ++ changes_text (toggle_changes level (drop (i + 4) times))
four_from level times i low within = grind (arith, dropped, four_more)

-- one change, and those behind it
pub one_from : (level next : ℕ) (times : List ℕ) (i : ℕ) → next ≡ 1 - level → i < length times →
    changes_text (toggle_changes level (drop i times)) ≡ change_text (get_or times i 0, next) ++ changes_text (toggle_changes next (drop (i + 1) times))
one_from level next times i is within = grind (arith, dropped)

-- behind the last place there is none
pub none_from : (level : ℕ) (times : List ℕ) (i : ℕ) → length times ≤ i → changes_text (toggle_changes level (drop i times)) ≡ []
none_from level times i over = ap (λ l. changes_text (toggle_changes level l)) (drop_of_length-le times over)

-- from any level on the changes are those from 0 or 1 on
pub from_low : (level low : ℕ) (times : List ℕ) → 1 - low ≡ 1 - level → toggle_changes low times ≡ toggle_changes level times
from_low level low [] same = refl
from_low level low (time ∷ times) same = grind arith

-- four changes, one behind the other
pub four_placed : (level one two three four : ℕ) → level ≤ 1 → (a b c d e : List ℕ) (at i j k end : ℕ) → IsPlaced a b at (change_text (one, 1 - level)) i → IsPlaced b c i (change_text (two, level)) j
    → IsPlaced c d j (change_text (three, 1 - level)) k → IsPlaced d e k (change_text (four, level)) end
    → IsPlaced a e at (changes_text (toggle_changes level (one ∷ two ∷ three ∷ four ∷ []))) end
four_placed level one two three four low a b c d e at i j k end p q r s = let all = placed_both (placed_both (placed_both p q) r) s in grind (arith, append_assoc, append-nil)

pub ruleset toggle_steps = (four_from, from_low, left_as, left_whole, puts_then)

pub ruleset few_steps = (none_from, left_whole, left_none)
