-- The line of a batch is read as the batch.
use Rattle.std.proofs.Common.{◌≡◌, ℕ, ◌<◌, Bool, true, false, List, [], ◌∷◌, ◌++◌, length, map, All, Option, Some, None, Result, Ok, Err, refl, sym, ap, ◌∙◌, arith}
use Rattle.std.specs.Prelude.{codes, if◌then◌else◌}
use Rattle.std.specs.Str.{bytes_eq}
use Rattle.std.specs.List.{flat_map, slice_split}
use Rattle.std.specs.Option.{ok_or}
use Rattle.std.proofs.lemmas.Grind.{flat_map-append}
use Rattle.std.proofs.lemmas.List.{append-nil, map-id}
use Rattle.std.proofs.lemmas.List.Elements.{All-nil, All-cons, All-head, All-tail, All-weaker, All-append}
use Rattle.std.proofs.lemmas.List.Splits.{slice_split_none, slice_split_at}
use Rattle.mp_records.specs.declared.edit.Edit.TheVariants as edits
use Rattle.mp_records.specs.declared.single_edit.SingleEdit.{SingleEdit}
use Rattle.mp_text.specs.declared.lexing.line_error.LineError.{LineError}
use Rattle.mp_text.specs.declared.lexing.line_error.LineError.TheVariants.{UnknownStatement}
use Rattle.mp_text.specs.lexing.Reads.{◌>>=◌}
use Rattle.mp_text.proofs.lemmas.lexing.PlainLemmas.{IsPlain}
use Rattle.mp_text.proofs.lemmas.lexing.ReadBackLemmas.{each_back}
use Rattle.mp_text.specs.declared.script_line.Line.TheVariants.{Change}
use Rattle.mp_text.specs.declared.line_word.LineWord.TheVariants.{Batch}
use Rattle.mp_text.specs.declared.question.Question.{Question as Asked}
use Rattle.mp_text.specs.declared.question_word.QuestionWord.{QuestionWord}
use Rattle.mp_text.specs.declared.single_word.SingleWord.{SingleWord}
use Rattle.mp_text.specs.Statements.{is_mark}
use Rattle.mp_text.specs.SingleEdits.{single_word, single_edit}
use Rattle.mp_text.specs.Batches.{part_edit, each_part, batch_of}
use Rattle.mp_text.specs.Questions.{question_word, stated_question}
use Rattle.mp_text.specs.ScriptLines.{known_word, single_line, batch_line, question_line, stated_line, line_of, line_at}
use Rattle.mp_text.specs.Written.{spaced}
use Rattle.mp_text.specs.edit_lines.EditLines.{joined, edit_words, single_text, behind_text, batch_text}
use Rattle.mp_text.specs.edit_lines.ReadBack.{IsSaid, AreReadAsWritten}
use Rattle.mp_text.proofs.lemmas.edit_lines.JoinedLemmas.{joined-spaced}
use Rattle.mp_text.proofs.lemmas.edit_lines.WholeWordLemmas.{IsWhole, whole_unmarked}
use Rattle.mp_text.proofs.lemmas.edit_lines.EditWordLemmas.{whole_words}
use Rattle.mp_text.proofs.lemmas.edit_lines.ReadBackLemmas.{read_words, words_read, some_edit_words, plain_words, read_as_written}

-- ---- the words of a batch

-- the words of an edit behind the one before it
abbrev behind_words : SingleEdit → List (List ℕ)
behind_words edit = codes ";" ∷ edit_words edit

-- the words behind `batch`
abbrev batch_words : SingleEdit → List SingleEdit → List (List ℕ)
batch_words first others = edit_words first ++ flat_map behind_words others

spaced_joined : (words : List (List ℕ)) → 0 < length words → spaced words ≡ 32 ∷ joined words
spaced_joined [] some = absurd (omega (arith, some))
spaced_joined (word ∷ words) some = ap (λ l. 32 ∷ l) (sym (joined-spaced word words))

spaced_edit : (edit : SingleEdit) → spaced (edit_words edit) ≡ 32 ∷ single_text edit
spaced_edit edit = spaced_joined (edit_words edit) (some_edit_words edit)

spaced_others : (others : List SingleEdit) → spaced (flat_map behind_words others) ≡ flat_map behind_text others
spaced_others [] = refl
spaced_others (edit ∷ others) =
    flat_map-append (λ (word : List ℕ). 32 ∷ word) (behind_words edit) (flat_map behind_words others)
    ∙ ap (λ l. (codes " ;" ++ l) ++ spaced (flat_map behind_words others)) (spaced_edit edit)
    ∙ ap (λ l. behind_text edit ++ l) (spaced_others others)

batch_joined : (first : SingleEdit) (others : List SingleEdit) → batch_text (first ∷ others) ≡ joined (codes "batch" ∷ batch_words first others)
batch_joined first others =
    sym (joined-spaced (codes "batch") (batch_words first others)
    ∙ ap (λ l. codes "batch" ++ l) (flat_map-append (λ (word : List ℕ). 32 ∷ word) (edit_words first) (flat_map behind_words others))
    ∙ ap (λ l. codes "batch" ++ (l ++ spaced (flat_map behind_words others))) (spaced_edit first)
    ∙ ap (λ l. (codes "batch " ++ single_text first) ++ l) (spaced_others others))

-- no word of an edit is `;`
unmarked_words : (edit : SingleEdit) → IsSaid edit → All (λ word. is_mark 59 word ≡ false) (edit_words edit)
unmarked_words edit said = All-weaker IsWhole (λ word. is_mark 59 word ≡ false) whole_unmarked (edit_words edit) (whole_words edit said)

plain_others : (others : List SingleEdit) → All IsSaid others → All IsPlain (flat_map behind_words others)
plain_others [] said = All-nil IsPlain
plain_others (edit ∷ others) said =
    let behind = All-cons IsPlain (codes ";") (edit_words edit) (record { some = omega arith; plain = refl }) (plain_words edit (All-head IsSaid edit others said)) in
    All-append IsPlain (behind_words edit) (flat_map behind_words others) behind (plain_others others (All-tail IsSaid edit others said))

-- ---- what the words say

-- the words `;` divide the batch into its edits
parts_are : (first : SingleEdit) (others : List SingleEdit) → IsSaid first → All IsSaid others → slice_split (is_mark 59) (batch_words first others) ≡ edit_words first ∷ map edit_words others
parts_are first [] here said = ap (slice_split (is_mark 59)) (append-nil (edit_words first)) ∙ slice_split_none (is_mark 59) (edit_words first) (unmarked_words first here)
parts_are first (next ∷ others) here said =
    slice_split_at (is_mark 59) (edit_words first) (codes ";") (batch_words next others) (unmarked_words first here) refl
    ∙ ap (λ l. edit_words first ∷ l) (parts_are next others (All-head IsSaid next others said) (All-tail IsSaid next others said))

no_batch : (r : Result (List SingleEdit) LineError) (edit : SingleEdit) → batch_line r ≡ Ok (Change (edits.Single edit)) → ⊥
no_batch (Ok several) edit read = cc
no_batch (Err error) edit read = cc

no_question : (r : Result Asked LineError) (edit : SingleEdit) → question_line r ≡ Ok (Change (edits.Single edit)) → ⊥
no_question (Ok question) edit read = cc
no_question (Err error) edit read = cc

the_single : (r : Result SingleEdit LineError) (edit : SingleEdit) → single_line r ≡ Ok (Change (edits.Single edit)) → r ≡ Ok edit
the_single (Ok other) edit read = cc
the_single (Err error) edit read = let no : ⊥ = cc in absurd no

-- what a line says alone it says in a batch
module _ (words : List (List ℕ)) (edit : SingleEdit) where
  part_known : (is_batch : Bool) (question : Option QuestionWord) (single : Option SingleWord)
      → (ok_or (if is_batch then Some Batch else known_word question single) UnknownStatement >>= λ first. stated_line first words) ≡ Ok (Change (edits.Single edit))
      → (ok_or single UnknownStatement >>= λ first. single_edit first words) ≡ Ok edit
  part_known true question single read = absurd (no_batch (batch_of words) edit read)
  part_known false (Some question) single read = absurd (no_question (stated_question question words) edit read)
  part_known false None (Some single) read = the_single (single_edit single words) edit read
  part_known false None None read = let no : ⊥ = cc in absurd no

  part_said : (word : List ℕ) → line_of (word ∷ words) ≡ Ok (Change (edits.Single edit)) → part_edit (word ∷ words) ≡ Ok edit
  unfolding line_of
  part_said word read = part_known (bytes_eq word (codes "batch")) (question_word word) (single_word word) read

part_of_line : (words : List (List ℕ)) (edit : SingleEdit) → line_of words ≡ Ok (Change (edits.Single edit)) → part_edit words ≡ Ok edit
unfolding line_of
part_of_line [] edit read = let no : ⊥ = cc in absurd no
part_of_line (word ∷ words) edit read = part_said words edit word read

each_said : (several : List SingleEdit) → All IsSaid several → each_part (map edit_words several) ≡ Ok several
each_said several said =
    let each = All-weaker IsSaid (λ edit. part_edit (edit_words edit) ≡ Ok edit) (λ edit is. part_of_line (edit_words edit) edit (words_read edit is)) several said in
    each_back part_edit edit_words (λ edit. edit) several each ∙ ap Ok (map-id several)

batch_words_read : (words : List (List ℕ)) → line_of (codes "batch" ∷ words) ≡ batch_line (batch_of words)
unfolding line_of
batch_words_read words = refl

batch_read : (first : SingleEdit) (others : List SingleEdit) → All IsSaid (first ∷ others) → line_at (batch_text (first ∷ others)) ≡ Ok (Change (edits.Batch (first ∷ others)))
batch_read first others said =
    let here = All-head IsSaid first others said in
    let rest = All-tail IsSaid first others said in
    let words = batch_words first others in
    let plain = All-append IsPlain (edit_words first) (flat_map behind_words others) (plain_words first here) (plain_others others rest) in
    let whole = All-cons IsPlain (codes "batch") words (record { some = omega arith; plain = refl }) plain in
    ap line_at (batch_joined first others) ∙ read_words (codes "batch" ∷ words) (omega arith) whole ∙ batch_words_read words
    ∙ ap (λ l. batch_line (each_part l)) (parts_are first others here rest) ∙ ap batch_line (each_said (first ∷ others) said)

-- ---- each edit

pub edits_as_written : AreReadAsWritten
edits_as_written (edits.Single edit) said = read_as_written edit said
edits_as_written (edits.Batch []) said = absurd (omega (arith, said.0))
edits_as_written (edits.Batch (first ∷ others)) said = batch_read first others said.1
