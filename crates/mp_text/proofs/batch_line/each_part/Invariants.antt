use Rattle.mp_text.proofs.Names.{◌≡◌, drop, with_front, each_part, part_texts}
use Rattle.mp_text.proofs.batch_line.each_part.Given as goal

-- what was read so far, and what the parts that are left say
abbrev pub invariant-loop-part : goal.invariant-loop-part
invariant-loop-part l = with_front l.edits.items (each_part (part_texts (drop l.part-index l.parts))) ≡ each_part (part_texts l.parts)
