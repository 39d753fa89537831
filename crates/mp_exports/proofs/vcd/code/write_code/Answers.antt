use Rattle.mp_exports.proofs.lemmas.vcd.Names.{append_assoc, ◌/◌, ◌≡◌, ◌+◌, ◌%◌, ◌<◌, ◌∷◌, ◌++◌, ℕ, List, [], length, refl, ap, sym, subst, ◌∙◌, rules, arith, set, length-append, IsPlaced, placed_both, placed_byte, code}
use Rattle.mp_exports.proofs.lemmas.vcd.CodeLemmas.{code-one, code-more, code_long, code_some}
use Rattle.mp_exports.proofs.vcd.code.write_code.Goals as goal

-- where the digits so far end
ends : (room new digits : List ℕ) (at end rest wire : ℕ) → wire < 4294967296 → IsPlaced room new at digits end → digits ++ code rest ≡ code wire → end < at + 5
ends room new digits at end rest wire low placed same =
    omega (arith, placed.moved, code_long wire low, code_some rest, ap length same, length-append digits (code rest))

pub loop-rest-init : goal.loop-rest-init
loop-rest-init c = ([], record { front = search rules; moved = omega arith; within = omega arith }, refl, omega arith)

pub loop-rest-preserved : goal.loop-rest-preserved
loop-rest-preserved c =
    let h = c.loop-rest.invariant in
    let rest = c.loop-rest.rest in
    let placed = placed_both h.1 (placed_byte c.loop-rest.room c.loop-rest.end (33 + rest % 94) (omega (arith, h.3, c.loop-rest.auto.room))) in
    let same = append_assoc h.0 ((33 + rest % 94) ∷ []) (code (rest / 94)) ∙ ap (λ l. h.0 ++ l) (sym (code-more rest (search rules))) ∙ h.2 in
    (h.0 ++ (33 + rest % 94) ∷ [], placed, same, ends _ _ _ _ _ _ _ c.ranges.wire.fits placed same)

pub returns-clause-placed : goal.returns-clause-placed
returns-clause-placed c =
    let h = c.loop-rest.invariant in
    let room = c.loop-rest.room in
    let end = c.loop-rest.end in
    let rest = c.loop-rest.rest in
    let last : h.0 ++ (33 + rest) ∷ [] ≡ code c.args.wire = ap (λ l. h.0 ++ l) (sym (code-one rest (search rules))) ∙ h.2 in
    subst (λ text. IsPlaced c.args.room.now (set room end (33 + rest)) c.args.at text (end + 1)) last (placed_both h.1 (placed_byte room end (33 + rest) (omega (arith, h.3, c.loop-rest.auto.room))))
