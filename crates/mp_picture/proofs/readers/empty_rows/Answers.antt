use Rattle.std.proofs.Common.{ℕ, List, [], ◌∷◌, ◌++◌, replicate, ap, ◌∙◌}
use Rattle.std.proofs.lemmas.List.{replicate-append-replicate}
use Rattle.mp_records.specs.declared.ids.ModuleId.{ModuleId}
use Rattle.mp_picture.proofs.ReaderLemmas.{Rows}
use Rattle.mp_picture.proofs.readers.empty_rows.Goals as goal

pub loop-row-preserved : goal.loop-row-preserved
loop-row-preserved c =
    let i = c.loop-row._row in
    c.in_ok-push.ensures.items
    ∙ ap (λ (rows : Rows). rows ++ c.new.result ∷ []) c.loop-row.invariant
    ∙ ap (λ (row : List (ModuleId × ℕ)). replicate i [] ++ row ∷ []) c.new.ensures
    ∙ replicate-append-replicate i 1 []
