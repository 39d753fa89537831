-- What a script's batch says.
use Rattle.std.specs.Prelude.{◌∷◌}
use Rattle.mp_text.specs.Names.{ok_or, byte, slice_split, SingleEdit, LineError, UnknownStatement, WordCount, each_word, texts, ◌>>=◌, ℕ, List, [], map, Result, Err, Bor}
use Rattle.mp_text.specs.Statements.{is_mark}
use Rattle.mp_text.specs.SingleEdits.{single_word, single_edit}

-- the edit of one thing that a part's words say
abbrev pub part_edit : List (List ℕ) → Result SingleEdit LineError
part_edit [] = Err WordCount
part_edit (word ∷ words) = do
  first ← ok_or (single_word word) UnknownStatement
  single_edit first words

-- what each of the parts says, or the code of the first that cannot be read
abbrev pub each_part : List (List (List ℕ)) → Result (List SingleEdit) LineError
each_part parts = each_word part_edit parts

-- the edits of the words behind `batch`: the words `;` divide them into parts
abbrev pub batch_of : List (List ℕ) → Result (List SingleEdit) LineError
batch_of words = each_part (slice_split (is_mark (byte ";")) words)

-- parts without where they lie in memory
abbrev pub part_texts : List (Bor (List (Bor (List ℕ)))) → List (List (List ℕ))
part_texts parts = map (λ part. texts part.now) parts
