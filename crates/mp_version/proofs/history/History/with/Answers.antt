use Rattle.std.proofs.Common.{◌<◌, [], ◌∷◌, ◌++◌, length, map, sym, ap, subst, ◌∙◌, arith}
use Rattle.std.specs.List.{flat_map}
use Rattle.std.specs.Arc.{arc_value}
use Rattle.mp_version.specs.Limits.{max_edits}
use Rattle.mp_version.specs.Chunks.{AreChunks}
use Rattle.mp_version.proofs.ChunkLemmas.{length_chunks, same_grown, grown, same_chunked, chunked}
use Rattle.mp_version.proofs.history.History.with.Goals as goal

pub with_room-requires : goal.with_room-requires
with_room-requires c =
    omega (arith, ap length c.as_slice.ensures.value, length_chunks arc_value c.self.inside.chunks.items c.self.inside.last c.self.invariant, c.self.invariant.few)

pub invariant_of-result : goal.invariant_of-result
invariant_of-result c =
    let room : length (flat_map arc_value c.self.inside.chunks.items ++ c.self.inside.last) < max_edits = omega (arith, ap length c.self.view_is, c.requires) in
    grown arc_value c.self.inside.chunks.items c.in_ok-chunks.chunks.items c.self.inside.last c.in_ok-last.last (arc_value c.args.edit) c.self.invariant
    (c.in_ok-chunks.ensures ∙ ap (map arc_value) c.as_slice.ensures.value) c.in_ok-last.ensures (omega arith) room

pub returns-then-len-lt-CHUNK_EDITS : goal.returns-then-len-lt-CHUNK_EDITS
returns-then-len-lt-CHUNK_EDITS c =
    same_grown arc_value c.self.inside.chunks.items c.in_ok-chunks.chunks.items c.self.inside.last c.in_ok-last.last (arc_value c.args.edit)
    (c.in_ok-chunks.ensures ∙ ap (map arc_value) c.as_slice.ensures.value) c.in_ok-last.ensures
    ∙ ap (λ l. l ++ arc_value c.args.edit ∷ []) c.self.view_is

pub invariant_of-result-2 : goal.invariant_of-result-2
invariant_of-result-2 c =
    let room : length (flat_map arc_value c.self.inside.chunks.items ++ c.self.inside.last) < max_edits = omega (arith, ap length c.self.view_is, c.requires) in
    let made : AreChunks arc_value (c.in_ok-chunks.chunks.items ++ c.in_ok-new.field-0 ∷ []) [] =
    chunked arc_value c.self.inside.chunks.items c.in_ok-chunks.chunks.items c.self.inside.last c.in_ok-last.last (arc_value c.args.edit) c.in_ok-new.field-0 c.self.invariant
    (c.in_ok-chunks.ensures ∙ ap (map arc_value) c.as_slice.ensures.value) c.in_ok-last.ensures c.in_ok-new.ensures.ok (omega arith) room in
    subst (λ l. AreChunks arc_value l c.new-2.result) (sym c.in_ok-push.ensures.items)
    (subst (AreChunks arc_value (c.in_ok-chunks.chunks.items ++ c.in_ok-new.field-0 ∷ [])) (sym c.new-2.ensures) made)

pub returns : goal.returns
returns c =
    ap (λ l. flat_map arc_value l ++ c.new-2.result) c.in_ok-push.ensures.items
    ∙ ap (λ l. flat_map arc_value (c.in_ok-chunks.chunks.items ++ c.in_ok-new.field-0 ∷ []) ++ l) c.new-2.ensures
    ∙ same_chunked arc_value c.self.inside.chunks.items c.in_ok-chunks.chunks.items c.self.inside.last c.in_ok-last.last (arc_value c.args.edit) c.in_ok-new.field-0
    (c.in_ok-chunks.ensures ∙ ap (map arc_value) c.as_slice.ensures.value) c.in_ok-last.ensures c.in_ok-new.ensures.ok
    ∙ ap (λ l. l ++ arc_value c.args.edit ∷ []) c.self.view_is
