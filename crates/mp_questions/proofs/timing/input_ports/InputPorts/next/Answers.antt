use Rattle.std.proofs.Common.{◌≡◌, ℕ, List, slice_index, arith}
use Rattle.mp_modules.specs.Memories.{input_levels}
use Rattle.mp_questions.proofs.timing.input_ports.InputPorts.next.Goals as goal

same_four : (x y : List ℕ) → slice_index x 0 ≡ slice_index y 0 → slice_index x 1 ≡ slice_index y 1 → slice_index x 2 ≡ slice_index y 2 → slice_index x 3 ≡ slice_index y 3 → input_levels x ≡ input_levels y
same_four x y first second third fourth = cc

pub returns-clause-quiet : goal.returns-clause-quiet
returns-clause-quiet c x most t heard le low high =
    let one = c.next-end.ensures.within in
    let two = c.next-end-2.ensures.within in
    let three = c.next-end-3.ensures.within in
    let four = c.next.ensures.within in
    same_four (x t) (x c.args.time)
    (c.next-end.ensures.quiet (λ u. slice_index (x u) 0) most t heard.first le low (omega (arith, high, two, three, four)))
    (c.next-end-2.ensures.quiet (λ u. slice_index (x u) 1) most t heard.second (omega (arith, le, one)) low (omega (arith, high, three, four)))
    (c.next-end-3.ensures.quiet (λ u. slice_index (x u) 2) most t heard.third (omega (arith, le, one, two)) low (omega (arith, high, four)))
    (c.next.ensures.quiet (λ u. slice_index (x u) 3) most t heard.fourth (omega (arith, le, one, two, three)) low high)
