-- The edits of a script, made line by line.
use Rattle.std.proofs.Common.{◌≡◌, List, [], ◌∷◌, ◌++◌, append_assoc, map, Some, Result, Ok, Err, refl, sym, ap, ◌∙◌}
use Rattle.std.specs.Prelude.{option_map}
use Rattle.std.proofs.lemmas.List.{append-nil}
use Rattle.mp_records.specs.declared.edit.Edit.{Edit}
use Rattle.mp_text.specs.declared.lexing.line_error.LineError.{LineError}
use Rattle.mp_text.specs.declared.script_line.Line.{Line}
use Rattle.mp_text.specs.declared.script_line.Line.TheVariants.{Empty, Change, Ask}
use Rattle.mp_version.specs.Stories.{Story, one_more}
use Rattle.mp_seats.specs.journal.Scripts.{edits_said, IsMadeLine}

-- these edits were made of the lines before the rest
pub record SoFar (start : Story) (all rest : List (Result Line LineError)) (now : Story) : Type 0 where
  pub edits : List Edit
  pub is : now ≡ record { base = start.base; edits = start.edits ++ edits }
  pub others : (more : List Edit) → edits_said rest ≡ Some more → edits_said all ≡ Some (edits ++ more)

pub none_yet : (start : Story) (all : List (Result Line LineError)) → SoFar start all all start
none_yet start all = record {
  edits = [];
  is = ap (λ (l : List Edit). record { base = start.base; edits = l }) (sym (append-nil start.edits));
  others = λ more e. e;
}

-- one line more
pub one_line : (start : Story) (all : List (Result Line LineError)) (read : Result Line LineError) (rest : List (Result Line LineError)) (old new : Story)
    → SoFar start all (read ∷ rest) old → IsMadeLine old new read → SoFar start all rest new
one_line start all (Ok Empty) rest old new before same = record { edits = before.edits; is = same ∙ before.is; others = before.others }
one_line start all (Ok (Change edit)) rest old new before made = record {
  edits = before.edits ++ edit ∷ [];
  is =
      made ∙ ap (λ (s : Story). one_more s edit) before.is
      ∙ ap (λ (l : List Edit). record { base = start.base; edits = l }) (append_assoc start.edits before.edits (edit ∷ []));
  others = λ more e.
      before.others (edit ∷ more) (ap (option_map (λ (edits : List Edit). edit ∷ edits)) e) ∙ ap (λ l. Some l) (sym (append_assoc before.edits (edit ∷ []) more));
}
one_line start all (Ok (Ask question)) rest old new before made = absurd made
one_line start all (Err error) rest old new before made = absurd made

-- each edit is said by its line
pub said_edits : (edits : List Edit) → edits_said (map (λ edit. Ok (Change edit)) edits) ≡ Some edits
said_edits [] = refl
said_edits (edit ∷ edits) = ap (option_map (λ (es : List Edit). edit ∷ es)) (said_edits edits)
