-- How pairs with numbers are spelled.
use Rattle.std.specs.Prelude.{◌+◌, ◌==◌, if◌then◌else◌}
use Rattle.mp_streams.specs.Numbers.{spelled_number}
use Rattle.mp_text.specs.lexing.Names.{ℕ, Bool, List, length, take, drop, position, Option, Some, None, option_and_then, option_map, before_last, after_last, byte}

-- what stands before and behind the first `=`
unfoldable pub parts_at_equals : List ℕ → Option (List ℕ × List ℕ)
parts_at_equals word = option_map (λ at. (take at word, drop (at + 1) word)) (position (λ b. b == byte "=") word)

-- a time and a value, as in `5=1`
unfoldable pub time_and_value : List ℕ → Option (ℕ × ℕ)
time_and_value word =
    option_and_then (λ parts. option_and_then (λ time. option_map (λ value. (time, value)) (spelled_number parts.1)) (spelled_number parts.0)) (parts_at_equals word)

abbrev pub is_slash : ℕ → Bool
is_slash b = b == byte "/"

-- what stands before and behind the last `/`, where there is something before it
unfoldable pub parts_at_slash : List ℕ → Option (List ℕ × List ℕ)
parts_at_slash word = if length (before_last is_slash word) == 0 then None else Some (before_last is_slash word, after_last is_slash word)

-- a name and a number, as in `y/3`
unfoldable pub name_and_number : List ℕ → Option (List ℕ × ℕ)
name_and_number word = option_and_then (λ parts. option_map (λ number. (parts.0, number)) (spelled_number parts.1)) (parts_at_slash word)
