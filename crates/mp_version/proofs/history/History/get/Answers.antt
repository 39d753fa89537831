use Rattle.std.proofs.Common.{◌≡◌, ◌-◌, ◌*◌, ◌/◌, ◌%◌, ◌<◌, ◌≤◌, length, sym, ap, ◌∙◌, arith}
use Rattle.std.specs.List.{slice_get}
use Rattle.std.specs.Arc.{arc_value}
use Rattle.mp_version.proofs.ChunkLemmas.{get_in_chunk, get_behind_chunks}
use Rattle.mp_version.proofs.history.History.get.Goals as goal

pub returns-then-place-len : goal.returns-then-place-len
returns-then-place-len c =
    let within : c.args.index / 64 < length c.self.inside.chunks.items = omega arith in
    c.get.ensures
    ∙ ap (λ l. slice_get l (c.args.index % 64)) c.deref.ensures
    ∙ sym (get_in_chunk arc_value c.self.inside.chunks.items c.self.inside.last c.args.index c.index.result.now c.self.invariant within c.index.ensures)
    ∙ ap (λ l. slice_get l c.args.index) c.self.view_is

pub returns-else-place-len : goal.returns-else-place-len
returns-else-place-len c =
    let past : length c.self.inside.chunks.items ≤ c.args.index / 64 = omega arith in
    let place : c.args.index - c.len-else-place-len.result * 64 ≡ c.args.index - 64 * length c.self.inside.chunks.items = omega arith in
    c.get-else-place-len.ensures
    ∙ ap (slice_get c.self.inside.last) place
    ∙ sym (get_behind_chunks arc_value c.self.inside.chunks.items c.self.inside.last c.args.index c.self.invariant past)
    ∙ ap (λ l. slice_get l c.args.index) c.self.view_is
