use Rattle.std.proofs.Common.{ℕ, List, codes, decimal, slice_index, Ok, sym, ap, subst, ◌∙◌, arith}
use Rattle.mp_streams.specs.Outgoing.{Writes}
use Rattle.mp_streams.proofs.OutLemmas.{puts_none}
use Rattle.mp_model.specs.Levels.{inputs_by}
use Rattle.mp_model.specs.Waves.{level}
use Rattle.mp_questions.specs.timing.Waits.{apart, heard, since_line}
use Rattle.mp_questions.proofs.lemmas.timing.ApartLemmas.{since_low}
use Rattle.mp_questions.proofs.lemmas.timing.HeldLemmas.{reg_output, second_of_reg, third_of_reg}
use Rattle.mp_questions.proofs.lemmas.timing.WaitLemmas.{register_open, register_held}
use Rattle.mp_questions.proofs.timing.waits.put_register.Goals as goal

pub returns-then-level_at : goal.returns-then-level_at
returns-then-level_at g c m stands =
    let at = c.args.at.now in
    let n = at.netlist.now in
    let r = c.args.found.now in
    let x : ℕ → List ℕ = (λ (t : ℕ). inputs_by n (level n) r t) in
    let is =
    register_open n m r at.time c.level_at.result c.level_at-2.result (c.level_at.ensures (λ u. slice_index (x u) 1) n.horizon c.of-ears.ensures.second at.within)
    (c.level_at-2.ensures (λ u. slice_index (x u) 2) n.horizon c.of-ears.ensures.third at.within) c.if-level_at.true in
    subst (Writes {T = Unit {0}} (Ok tt) c.args.out.now c.args.out.now) is (puts_none c.args.out.now)

pub returns : goal.returns
returns g c m stands =
    let at = c.args.at.now in
    let n = at.netlist.now in
    let t = at.time in
    let within = at.within in
    let r = c.args.found.now in
    let ok = c.horizon-horizon.ensures.form in
    let form = c.requires.form in
    let kind = c.requires.kind in
    let hears = c.of-ears.ensures in
    let s = c.apart_since-since_held.result in
    let v = c.held_before-level.result in
    let is_a = c.level_at.ensures (heard n r 1) n.horizon hears.second within in
    let is_b = c.level_at-2.ensures (heard n r 2) n.horizon hears.third within in
    let s_is = c.apart_since-since_held.ensures (heard n r 1) (heard n r 2) n.horizon hears.second hears.third within (second_of_reg n ok r form kind) (third_of_reg n ok r form kind) in
    let low = since_low (apart (heard n r 1) (heard n r 2)) t in
    let is_v =
    reg_output n m r ok stands kind t (λ same. c.if-level_at.false (is_a ∙ same ∙ sym is_b)) s v s_is
    (λ none. c.held_before-level.ensures.first none ∙ ap (λ (l : List ℕ). slice_index l 0) c.as_slice.ensures)
    (λ e some. c.held_before-level.ensures.later (heard n r 0) n.horizon e hears.first some (omega (arith, some, s_is, low, within))) in
    let named = ap (λ (l : List ℕ). since_line l (codes " REG holds ") (decimal v) s) c.as_str-name.ensures in
    subst (Writes c.put_since.result c.args.out.now c.put_since.new.out) (named ∙ register_held n m r t c.level_at.result c.level_at-2.result v s is_a is_b c.if-level_at.false is_v s_is) c.put_since.ensures
