-- What a call that reads gives where a step of it failed.
use Rattle.mp_text.proofs.Names.{◌≡◌, ◌<◌, ℕ, List, [], length, get_or, Bor, IsAscii, AreAscii, Result, inl, refl, arith, LineError, OutOfMemory, Gives, with_front, err_from_is_err_and, Ok, IfErr, EditError, Circuit, Line, Refused, Open, result_map_both, OnOk}
use Rattle.std.specs.Result.{IsErrAnd}
use Rattle.mp_records.specs.declared.edit.Edit.{Edit}
use Rattle.mp_netlist.specs.Edits.{RefusedBy}
use Rattle.mp_text.specs.Clauses.{told}

-- memory was wanting
pub wanting_given : {X Y : Type 0} (view : X → Y) (given : Result X LineError) (read : Result Y LineError) → IsErrAnd given (λ e. e ≡ OutOfMemory) → Gives OutOfMemory view given read
wanting_given view given read is = let p = err_from_is_err_and given is in rw (p.1, p.2) (inl refl)

-- nothing goes before what was read
pub front_none : {A : Type 0} (read : Result (List A) LineError) → with_front [] read ≡ read
front_none read = grind arith

-- what a place that is not there reads as
abbrev pub no_word : Bor (List ℕ)
no_word = record { ref_ptr = (0, 0); now = [] }

-- the text of the word at a place
abbrev pub text_of : List (Bor (List ℕ)) → ℕ → List ℕ
text_of words k = (get_or words k no_word).now

-- a word at a place is of ASCII bytes
pub ascii_at : (words : List (Bor (List ℕ))) (k : ℕ) → AreAscii words → k < length words → IsAscii (text_of words k)
ascii_at words k all within = all k no_word within

pub ruleset word_steps = (ascii_at, wanting_given)

-- what is told of an edit is what the line makes of the text, or want of memory
pub gives_told : (edit : Edit) (n : Circuit) (judged : Result Circuit EditError) (ended : Result (Unit {0}) EditError)
    → OnOk ended (judged ≡ Ok n) → IfErr ended (RefusedBy edit judged) → Gives (Line OutOfMemory) (λ _. Open n) (told ended) (result_map_both Open Refused judged)
gives_told edit n judged ended made refused = grind arith
