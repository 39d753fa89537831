-- The name nearest to a word.
use Rattle.std.specs.Prelude.{ℕ, ◌*◌, ◌&&◌, Bool, true, List, [], ◌∷◌, length, map, nat_le, nat_lt, nat_eq, if◌then◌else◌, codes, Option, Some, None, option_map}
use Rattle.std.specs.List.{before_first, filter_map}
use Rattle.std.specs.Char.{to_ascii_lowercase}
use Rattle.strsim.specs.Edits.{levenshtein_row}
use Rattle.mp_modules.specs.Kinds.{all_kinds, word_of}
use Rattle.mp_records.specs.declared.wire_record.WireRecord.{WireRecord}
use Rattle.mp_text.specs.lexing.Numbers.{is_slash}

-- with letters of one case
abbrev pub lowered : List ℕ → List ℕ
lowered word = map to_ascii_lowercase word

-- how many insertions, deletions and substitutions lead from the word to the name, capital and small letters being the same
abbrev pub distance : List ℕ → List ℕ → ℕ
distance word name = levenshtein_row nat_eq (lowered word) (lowered name) (length (lowered name))

-- at most a third of the word differs, which is no longer than a name may be
abbrev pub is_near : List ℕ → ℕ → Bool
is_near word count = nat_le (length word) 32 && nat_le (3 * count) (length word)

-- so many are fewer than for the best name so far, if there is one
abbrev pub is_nearer : List ℕ → Option (List ℕ) → ℕ → Bool
is_nearer word None count = true
is_nearer word (Some best) count = nat_lt count (distance word best)

-- the nearer of two names, of which the first may be none
abbrev pub nearer : List ℕ → Option (List ℕ) → List ℕ → Option (List ℕ)
nearer word best name = if is_near word (distance word name) && is_nearer word best (distance word name) then Some name else best

-- the nearest of the names and one before them, the first of several
unfoldable pub nearest_behind : List ℕ → Option (List ℕ) → List (List ℕ) → Option (List ℕ)
nearest_behind word best [] = best
nearest_behind word best (name ∷ names) = nearest_behind word (nearer word best name) names

-- the nearest of the names, where one is near
abbrev pub nearest : List ℕ → List (List ℕ) → Option (List ℕ)
nearest word names = nearest_behind word None names

abbrev pub name_in : Option WireRecord → Option (List ℕ)
name_in slot = option_map (λ (r : WireRecord). r.name) slot

-- the names of the wires that stand
abbrev pub wire_names : List (Option WireRecord) → List (List ℕ)
wire_names slots = filter_map name_in slots

abbrev pub statement_words : List (List ℕ)
statement_words = codes "horizon" ∷ codes "wire" ∷ codes "module" ∷ codes "bundle" ∷ codes "stim" ∷ codes "format" ∷ []

abbrev pub kind_words : List (List ℕ)
kind_words = map word_of all_kinds

-- what a word names: all before its first `/`
abbrev pub name_part : List ℕ → List ℕ
name_part word = before_first is_slash word
