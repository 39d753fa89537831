-- The lines of waves, one after the other.
use Rattle.std.proofs.Common.{◌≡◌, ℕ, ◌+◌, ◌-◌, ◌≤◌, List, [], ◌++◌, append_assoc, length, zero, suc, refl, sym, ap, ◌∙◌, add-one, add-zero, add-suc, arith}
use Rattle.std.proofs.lemmas.List.{append-nil}
use Rattle.mp_netlist.specs.Circuit.{Circuit, wire_at}
use Rattle.mp_model.specs.Waves.{wave}
use Rattle.mp_commands.specs.views.Outputs.{slot_line, lines_below, waves_text}

-- ---- the wave of a wire that stands

-- ---- lines after lines

pub lines_below-zero : (n : Circuit) → lines_below n 0 ≡ []
unfolding lines_below
lines_below-zero n = refl

lines_below-suc : (n : Circuit) (w : ℕ) → lines_below n (suc w) ≡ lines_below n w ++ slot_line (wire_at n w) (wave n w)
unfolding lines_below
lines_below-suc n w = refl

pub lines_below-next : (n : Circuit) (w : ℕ) → lines_below n (w + 1) ≡ lines_below n w ++ slot_line (wire_at n w) (wave n w)
lines_below-next n w = rw add-one (lines_below-suc n w)

lines_below-add : (n : Circuit) (k d : ℕ) → (rest : List ℕ) × (lines_below n (k + d) ≡ lines_below n k ++ rest)
lines_below-add n k zero = ([], ap (lines_below n) (add-zero k) ∙ sym (append-nil (lines_below n k)))
lines_below-add n k (suc d) =
    let before = lines_below-add n k d in
    let line = slot_line (wire_at n (k + d)) (wave n (k + d)) in
    (before.0 ++ line, ap (lines_below n) (add-suc k d) ∙ lines_below-suc n (k + d) ∙ ap (λ l. l ++ line) before.1 ∙ append_assoc (lines_below n k) before.0 line)

-- the lines below a number are the front of all
pub lines_below-front : (n : Circuit) (k : ℕ) → k ≤ length n.wires → (rest : List ℕ) × (waves_text n ≡ lines_below n k ++ rest)
lines_below-front n k within =
    let over = lines_below-add n k (length n.wires - k) in
    let all : k + (length n.wires - k) ≡ length n.wires = omega arith in
    (over.0, ap (lines_below n) (sym all) ∙ over.1)
