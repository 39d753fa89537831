-- What a guide tells of a word.
use Rattle.std.specs.Prelude.{ℕ, Bool, List, ◌++◌, codes}
use Rattle.std.specs.List.{filter, flat_map, list_any}
use Rattle.mp_request.specs.declared.explain.entry.Entry.{Entry}
use Rattle.mp_request.specs.explain.Subjects.{is_called, title}

abbrev pub entry_text : Entry → List ℕ
entry_text entry = title entry.subject ++ entry.text.now

abbrev pub title_line : Entry → List ℕ
title_line entry = title entry.subject ++ codes "\n"

-- each entry whose subject the word means, in the guide's order
abbrev pub explanation : List ℕ → List Entry → List ℕ
explanation word guide = flat_map entry_text (filter (λ entry. is_called word entry.subject) guide)

-- whether the word means anything
abbrev pub is_known : List ℕ → List Entry → Bool
is_known word guide = list_any (λ entry. is_called word entry.subject) guide
