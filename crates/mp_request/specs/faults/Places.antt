-- Where a word stands in a line, by what it is there for.
use Rattle.std.specs.Prelude.{ℕ, ◌+◌, List, length, drop, min}
use Rattle.std.specs.List.{before_first, after_first}
use Rattle.std.specs.Str.{byte}
use Rattle.mp_text.specs.Statements.{is_mark}
use Rattle.mp_request.specs.declared.faults.word_place.WordPlace.{WordPlace}
use Rattle.mp_request.specs.declared.faults.word_place.WordPlace.TheVariants.{Word, Param, Input, Output}

-- the words of a module's line behind its kind
pub record ModuleParts : Type 0 where
  pub params : List (List ℕ)
  pub inputs : List (List ℕ)
  pub outputs : List (List ℕ)

-- the words behind the first `:`
abbrev pub ports_behind : List (List ℕ) → List (List ℕ)
ports_behind words = after_first (is_mark (byte ":")) words

-- parameters end at the first `:`, inputs at the first `>` behind it
abbrev pub module_parts : List (List ℕ) → ModuleParts
module_parts words = record {
  params = before_first (is_mark (byte ":")) (drop 3 words);
  inputs = before_first (is_mark (byte ">")) (ports_behind (drop 3 words));
  outputs = after_first (is_mark (byte ">")) (ports_behind (drop 3 words));
}

-- how many words stand before it, where a `:` and a `>` end the parameters and the inputs
abbrev pub index_in : ModuleParts → WordPlace → ℕ
index_in parts (Word place) = place
index_in parts (Param place) = place + 3
index_in parts (Input place) = place + (4 + length parts.params)
index_in parts (Output place) = place + (5 + length parts.params) + length parts.inputs

-- the same, and all the words of the line where it has no such word
abbrev pub index : List (List ℕ) → WordPlace → ℕ
index words place = min (length words) (index_in (module_parts words) place)
