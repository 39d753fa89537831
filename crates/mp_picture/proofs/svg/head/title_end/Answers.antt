use Rattle.std.proofs.Common.{◌+◌, ◌*◌, count_by, min, ap, ap₂, ◌∙◌}
use Rattle.mp_picture.specs.svg.Heads.{begins_letter}
use Rattle.mp_picture.proofs.svg.head.title_end.Goals as goal

pub returns-clause-value : goal.returns-clause-value
returns-clause-value c =
    let count = c.letters.ensures ∙ ap (count_by begins_letter) c.as_bytes.ensures.value in
    ap₂ (λ x n. x + 8 * n) c.from.ensures (c.min-letters.ensures ∙ ap (λ n. min n 1200) count)
