-- How IEEE Std 1364 has a value change dump read, word after word. The reading is strict: its values are 0 and 1 alone, each at a time and
-- of a declared variable, times rise, a unit of time is declared, and variables stand in scopes, which end before the declarations do.
use Rattle.std.specs.Prelude.{◌&&◌, ◌||◌, ◌==◌, ◌∷◌, ◌++◌, if◌then◌else◌}
use Rattle.mp_exports.specs.vcd.Names.{is_ascii_digit, is_ascii_whitespace, list_all, list_any, digits_value, ℕ, Bool, true, nat_lt, nat_le, List, [], length, Option, Some, None, codes, byte, bytes_eq}

-- ---- words

-- some bytes before other words, as a word of their own where there are any
abbrev pub word_first : List ℕ → List (List ℕ) → List (List ℕ)
word_first [] words = words
word_first (byte ∷ bytes) words = (byte ∷ bytes) ∷ words

-- the words of a text, of which the first is begun already
abbrev pub words_from : List ℕ → List ℕ → List (List ℕ)
words_from begun [] = word_first begun []
words_from begun (byte ∷ bytes) =
    if is_ascii_whitespace byte then word_first begun (words_from [] bytes) else words_from (begun ++ byte ∷ []) bytes

-- what stands between white space
abbrev pub words : List ℕ → List (List ℕ)
words text = words_from [] text

-- the word is one of these
abbrev pub is_among : List (List ℕ) → List ℕ → Bool
is_among words word = list_any (bytes_eq word) words

-- one character or more, each of which passes
abbrev pub is_made_of : (ℕ → Bool) → List ℕ → Bool
is_made_of passes word = nat_lt 0 (length word) && list_all passes word

abbrev pub is_binary : ℕ → Bool
is_binary digit = digit == byte "0" || digit == byte "1"

-- from `!` to `~`
abbrev pub is_printed : ℕ → Bool
is_printed character = nat_le (byte "!") character && nat_le character (byte "~")

-- ---- what is read

-- a variable that is declared, and the names of the scopes around it, the innermost first
pub record Variable : Type 0 where
  pub scopes : List (List ℕ)
  pub width : ℕ
  pub code : List ℕ
  pub name : List ℕ

-- a value that is given to a code at a time
pub record Given : Type 0 where
  pub time : ℕ
  pub code : List ℕ
  pub value : ℕ

-- outside a block, or inside that of `$dumpvars` or its like, which goes on to `$end`
pub data Side : Type 0 where
  Outside : Side
  Inside : Side

-- what the words so far leave open
pub data Place : Type 0 where
  BetweenDeclarations : Place
  -- behind the keyword of a declaration and these words
  InDeclaration : List ℕ → List (List ℕ) → Place
  -- behind the declarations
  AmongValues : Side → Place
  -- behind the digits of a vector, whose code comes next
  BehindDigits : Side → List ℕ → Place
  -- a word came that cannot stand where it does
  Astray : Place

-- what the words so far say: how many of what a unit of time is, the scopes that are open, the innermost first, the variables in order, the
-- present time, and the values given, the latest first
pub record Reading : Type 0 where
  pub place : Place
  pub unit : Option (ℕ × List ℕ)
  pub scopes : List (List ℕ)
  pub variables : List Variable
  pub time : Option ℕ
  pub given : List Given

abbrev pub nothing_read : Reading
nothing_read = record { place = BetweenDeclarations; unit = None; scopes = []; variables = []; time = None; given = [] }

abbrev pub at_place : Place → Reading → Reading
at_place place r = record r { place = place }

-- ---- declarations

-- `$timescale NUMBER UNIT`
abbrev pub with_unit : List (List ℕ) → Reading → Reading
with_unit (number ∷ unit ∷ []) r =
    if is_among (codes "1" ∷ codes "10" ∷ codes "100" ∷ []) number
    && is_among (codes "s" ∷ codes "ms" ∷ codes "us" ∷ codes "ns" ∷ codes "ps" ∷ codes "fs" ∷ []) unit
    then record r { place = BetweenDeclarations; unit = Some (digits_value 10 number, unit) }
    else at_place Astray r
with_unit words r = at_place Astray r

-- `$scope KIND NAME`
abbrev pub with_scope : List (List ℕ) → Reading → Reading
with_scope (kind ∷ name ∷ []) r =
    if is_among (codes "begin" ∷ codes "fork" ∷ codes "function" ∷ codes "module" ∷ codes "task" ∷ []) kind
    then record r { place = BetweenDeclarations; scopes = name ∷ r.scopes }
    else at_place Astray r
with_scope words r = at_place Astray r

-- `$upscope`, in a scope
abbrev pub without_scope : List (List ℕ) → List (List ℕ) → Reading → Reading
without_scope [] (scope ∷ scopes) r = record r { place = BetweenDeclarations; scopes = scopes }
without_scope words scopes r = at_place Astray r

abbrev pub variable_kinds : List (List ℕ)
variable_kinds =
    codes "event" ∷ codes "integer" ∷ codes "parameter" ∷ codes "real" ∷ codes "realtime" ∷ codes "reg" ∷ codes "supply0" ∷ codes "supply1" ∷ codes "time"
    ∷ codes "tri" ∷ codes "triand" ∷ codes "trior" ∷ codes "trireg" ∷ codes "tri0" ∷ codes "tri1" ∷ codes "wand" ∷ codes "wire" ∷ codes "wor" ∷ []

-- `$var KIND WIDTH CODE NAME`, in a scope
abbrev pub with_variable : List (List ℕ) → Reading → Reading
with_variable (kind ∷ width ∷ code ∷ name ∷ []) r =
    if nat_lt 0 (length r.scopes) && is_among variable_kinds kind && is_made_of is_ascii_digit width && is_made_of is_printed code
    then record r { place = BetweenDeclarations; variables = r.variables ++ record { scopes = r.scopes; width = digits_value 10 width; code = code; name = name } ∷ [] }
    else at_place Astray r
with_variable words r = at_place Astray r

-- `$enddefinitions`, where a unit of time is declared and no scope is open
abbrev pub ended : List (List ℕ) → List (List ℕ) → Option (ℕ × List ℕ) → Reading → Reading
ended [] [] (Some unit) r = at_place (AmongValues Outside) r
ended words scopes unit r = at_place Astray r

-- a declaration is over: by its keyword, and the words behind it
abbrev pub declared : List ℕ → List (List ℕ) → Reading → Reading
declared keyword words r =
    if bytes_eq keyword (codes "$timescale") then with_unit words r
    else (if bytes_eq keyword (codes "$scope") then with_scope words r
    else (if bytes_eq keyword (codes "$upscope") then without_scope words r.scopes r
    else (if bytes_eq keyword (codes "$var") then with_variable words r
    else (if bytes_eq keyword (codes "$enddefinitions") then ended words r.scopes r.unit r
    else at_place BetweenDeclarations r))))

abbrev pub keywords : List (List ℕ)
keywords =
    codes "$comment" ∷ codes "$date" ∷ codes "$enddefinitions" ∷ codes "$scope" ∷ codes "$timescale" ∷ codes "$upscope" ∷ codes "$var" ∷ codes "$version" ∷ []

abbrev pub between_declarations : List ℕ → Reading → Reading
between_declarations word r = at_place (if is_among keywords word then InDeclaration word [] else Astray) r

-- a declaration goes on to its `$end`
abbrev pub in_declaration : List ℕ → List (List ℕ) → List ℕ → Reading → Reading
in_declaration keyword words word r =
    if bytes_eq word (codes "$end") then declared keyword words r else at_place (InDeclaration keyword (words ++ word ∷ [])) r

-- ---- times and values

abbrev pub is_later : ℕ → Option ℕ → Bool
is_later time None = true
is_later time (Some present) = nat_lt present time

-- `#TIME`: the times rise
abbrev pub with_time : List ℕ → Reading → Reading
with_time digits r =
    if is_made_of is_ascii_digit digits && is_later (digits_value 10 digits) r.time
    then record r { time = Some (digits_value 10 digits) }
    else at_place Astray r

-- the code is that of a variable which has so many digits or more
abbrev pub takes : List ℕ → List ℕ → Variable → Bool
takes code digits v = bytes_eq v.code code && nat_le (length digits) v.width

-- from the present time on a code has the value of some binary digits
abbrev pub with_value : Option ℕ → List ℕ → List ℕ → Reading → Reading
with_value None code digits r = at_place Astray r
with_value (Some time) code digits r =
    if list_any (takes code digits) r.variables
    then record r { given = record { time = time; code = code; value = digits_value 2 digits } ∷ r.given }
    else at_place Astray r

-- `0CODE`, `1CODE`, or `bDIGITS` before a code
abbrev pub value_word : Side → List ℕ → Reading → Reading
value_word side [] r = at_place Astray r
value_word side (first ∷ others) r =
    if is_binary first then with_value r.time others (first ∷ []) r
    else (if (first == byte "b" || first == byte "B") && is_made_of is_binary others then at_place (BehindDigits side others) r
    else at_place Astray r)

-- the words that begin a block of values
abbrev pub block_words : List (List ℕ)
block_words = codes "$dumpvars" ∷ codes "$dumpall" ∷ codes "$dumpon" ∷ codes "$dumpoff" ∷ []

-- outside a block: a time, a block, or a value
abbrev pub outside_block : List ℕ → Reading → Reading
outside_block [] r = at_place Astray r
outside_block (first ∷ others) r =
    if first == byte "#" then with_time others r
    else (if is_among block_words (first ∷ others) then at_place (AmongValues Inside) r
    else value_word Outside (first ∷ others) r)

-- inside a block: its end, or a value
abbrev pub inside_block : List ℕ → Reading → Reading
inside_block word r = if bytes_eq word (codes "$end") then at_place (AmongValues Outside) r else value_word Inside word r

-- ---- the whole

abbrev pub word_in : Place → List ℕ → Reading → Reading
word_in BetweenDeclarations word r = between_declarations word r
word_in (InDeclaration keyword words) word r = in_declaration keyword words word r
word_in (AmongValues Outside) word r = outside_block word r
word_in (AmongValues Inside) word r = inside_block word r
word_in (BehindDigits side digits) word r = with_value r.time word digits (at_place (AmongValues side) r)
word_in Astray word r = r

abbrev pub read_words : List (List ℕ) → Reading → Reading
read_words [] r = r
read_words (word ∷ words) r = read_words words (word_in r.place word r)

-- what a text says as a value change dump
unfoldable pub reading : List ℕ → Reading
reading text = read_words (words text) nothing_read

-- the last value that was given to a code at a time or before it
abbrev pub value_of : List ℕ → ℕ → List Given → Option ℕ
value_of code time [] = None
value_of code time (last ∷ earlier) =
    if nat_le last.time time && bytes_eq last.code code then Some last.value else value_of code time earlier
