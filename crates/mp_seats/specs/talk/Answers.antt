-- What lines that come are answered, by one who may change with each of them.
use Rattle.std.specs.Prelude.{◌≡◌, ℕ, List, [], ◌∷◌, ◌++◌, Option, Result}
use mathlib.Core.List.{IsPrefix}
use Rattle.mp_streams.specs.Outgoing.{Outgoing}
use Rattle.mp_streams.specs.WriteErrors.{Writes}
use Rattle.mp_streams.specs.declared.write_error.WriteError.{WriteError}

-- a line, None where it is too long to be read, may be answered so by one who stands so, and then stands so
abbrev pub Answering : Type 0 → Type 1
Answering K = K → Option (List ℕ) → K → List ℕ → Type 0

-- an answer that holds whoever makes the edits to come: for all authors that begin with those that the answerer then knows
abbrev pub ForAllAuthors : {K : Type 0} → (K → List ℕ) → (List ℕ → Answering K) → Answering K
ForAllAuthors signed Answers old line new text = (authors : List ℕ) → IsPrefix (signed new) authors → Answers authors old line new text

-- these bytes are the answers to lines in turn, by one who stands so at first and so in the end
unfoldable pub AreAnswers : {K : Type 0} → Answering K → K → List (Option (List ℕ)) → K → List ℕ → Type 0
AreAnswers Answers first [] last text = (last ≡ first) × (text ≡ [])
AreAnswers {K = K} Answers first (line ∷ lines) last text =
    (next : K) × (piece : List ℕ) × (later : List ℕ) × Answers first line next piece × AreAnswers Answers next lines last later × (text ≡ piece ++ later)

-- the answer to a line was written, or a part of it
abbrev pub PutsAnswer : {S K : Type 0} → Answering K → Result (Unit {0}) WriteError → K → K → Option (List ℕ) → Outgoing S → Outgoing S → Type 0
PutsAnswer Answers result old now line before after = (text : List ℕ) × Answers old line now text × Writes result before after text
