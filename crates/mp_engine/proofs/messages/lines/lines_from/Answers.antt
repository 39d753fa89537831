use Rattle.std.proofs.Common.{◌≡◌, ◌⊎◌, ◌<◌, ◌≤◌, ◌++◌, [], ◌∷◌, Bool, true, false, nat_lt, length, refl, ap, ◌∙◌, sym, arith, inl, inr}
use Rattle.std.specs.Prelude.{◌&&◌}
use Rattle.std.proofs.lemmas.Bool.{cases_lt, lt-ltb, le-ltb}
use Rattle.std.proofs.lemmas.List.{map_push, get_or_past}
use Rattle.mp_modules.specs.automata.Codes.{bit}
use Rattle.mp_kernel.specs.events.Adding.{listed}
use Rattle.mp_partition.specs.runs.Marks.{is_marked}
use Rattle.mp_engine.specs.messages.Lines.{parts_of}
use Rattle.mp_engine.proofs.lemmas.messages.LineLemmas.{line_added, line_left_out}
use Rattle.mp_engine.proofs.messages.lines.lines_from.Goals as goal
use Rattle.mp_engine.proofs.messages.lines.lines_from.Goals.{then-marks-by+in_ok-end+in_ok-add_line+in_ok-push, else-marks-by}

pub loop-by-init : goal.loop-by-init
loop-by-init g c k = ap (λ lines. listed k (parts_of lines)) c.new-lines.ensures.items ∙ sym (ap (λ b. bit (b && is_marked c.args.marks.now k)) (le-ltb k 0 (omega arith)))

pub loop-by-preserved : goal.loop-by-preserved
loop-by-preserved g c = elim c.if-marks-by.branch [
  | then-marks-by+in_ok-end+in_ok-add_line+in_ok-push w ↦ λ k.
      ap (λ lines. listed k (parts_of lines.items)) w.lines-is
      ∙ ap (λ lines. listed k (parts_of lines)) w.in_ok-push.ensures.items
      ∙ ap (listed k) (map_push (λ l. l.by) c.loop-by.lines.items _)
      ∙ ap (λ by. listed k (parts_of c.loop-by.lines.items ++ by ∷ [])) w.in_ok-end.ensures.1
      ∙ line_added c.args.marks.now c.loop-by.by k (parts_of c.loop-by.lines.items) (c.loop-by.invariant k) w.if-marks-by.true
  | else-marks-by w ↦ λ k.
      ap (λ lines. listed k (parts_of lines.items)) w.lines-is
      ∙ line_left_out c.args.marks.now c.loop-by.by k (parts_of c.loop-by.lines.items) (c.loop-by.invariant k) w.if-marks-by.false
]

pub returns : goal.returns
returns g c k = c.loop-by.invariant k ∙ within (cases_lt k (length c.args.marks.now))
  where
    within : (k < length c.args.marks.now) ⊎ (length c.args.marks.now ≤ k) → bit (nat_lt k c.loop-by.by && is_marked c.args.marks.now k) ≡ bit (is_marked c.args.marks.now k)
    within (inl low) = rw (lt-ltb k c.loop-by.by (omega (arith, low))) refl
    within (inr past) = ap (λ b. bit (nat_lt k c.loop-by.by && b)) (get_or_past c.args.marks.now k false past) ∙ none (nat_lt k c.loop-by.by) ∙ sym (ap bit (get_or_past c.args.marks.now k false past))
      where
        none : (b : Bool) → bit (b && false) ≡ bit false
        none true = refl
        none false = refl
