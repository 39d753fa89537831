use Rattle.std.proofs.Common.{◌≡◌, ◌<◌, ◌≤◌, ◌||◌, ◌%◌, ◌++◌, ℕ, List, [], ◌∷◌, All, sym, ap, subst, ◌∙◌, arith}
use Rattle.mp_questions.specs.causes.Changes.{change_at}
use Rattle.mp_questions.specs.declared.late.driven.Driven.{Driven}
use Rattle.mp_questions.specs.late.Lateness.{is_excused}
use Rattle.mp_questions.specs.late.Searching.{key, wire_numbers, change_by, any_excused}
use Rattle.mp_questions.proofs.lemmas.late.SearchLemmas.{above, above_within, above_last, any_last, last_below, less_is}
use Rattle.mp_questions.proofs.late.search.Search.is_excused.Goals as goal

pub loop-key-smaller : goal.loop-key-smaller
loop-key-smaller c =
    let k = c.in-Some.key in
    let popped = c.pop_last.new.self.keys in
    let low : All (λ q. q < k) popped = λ i d within. less_is _ k (c.in-Some.ensures.all_below i d within) in
    let bound : key c.change_of.result.time 0 ≤ k = omega (arith, c.change_of.ensures.time) in
    let most = above_within k c.is_excuse.new.self.pending.keys (c.in_ok-is_excuse.ensures.below k bound low) in
    let more = above_last popped k in
    let whole : above c.loop-key.self.pending.keys ≡ above (popped ++ k ∷ []) = ap above c.in-Some.ensures.removal in
    omega (arith, most, more, whole)

pub loop-key-preserved : goal.loop-key-preserved
loop-key-preserved c =
    let n = c.args.self.now.of.netlist.now in
    let w = c.args.request.wire.0 in
    let r = c.args.request.time in
    let k = c.in-Some.key in
    let popped = c.pop_last.new.self.keys in
    let end = key n.horizon 0 in
    let removal = c.in-Some.ensures.removal in
    let low : All (λ q. q < k) popped = λ i d within. less_is _ k (c.in-Some.ensures.all_below i d within) in
    let k_low : k < end = last_below end popped k (subst (All (λ q. q < end)) removal c.loop-key.invariant.1) in
    let below : All (λ q. q < end) popped = λ i d within. (let less = low i d within in omega (arith, less, k_low)) in
    let bound : key c.change_of.result.time 0 ≤ end = omega (arith, c.change_of.ensures.time, k_low) in
    let by_number : is_excused n w r (change_at n c.change_of.result.wire c.change_of.result.time) ≡ is_excused n w r (change_by n k) =
    ap (λ v. is_excused n w r (change_at n (record { 0 = v }) c.change_of.result.time)) c.change_of.ensures.wire
    ∙ ap (λ u. is_excused n w r (change_at n (record { 0 = k % wire_numbers }) u)) c.change_of.ensures.time in
    let value = subst
    (λ (d : Driven). (c.in_ok-is_excuse.field-0 || any_excused d.netlist.now w r c.is_excuse.new.self.pending.keys)
    ≡ (is_excused d.netlist.now w r (change_at d.netlist.now c.change_of.result.wire c.change_of.result.time) || any_excused d.netlist.now w r popped))
    c.loop-key.invariant.0 c.in_ok-is_excuse.ensures.value in (
      c.in_ok-is_excuse.ensures.of ∙ c.loop-key.invariant.0,
      c.in_ok-is_excuse.ensures.below end bound below,
      ap (λ b. b || any_excused n w r c.is_excuse.new.self.pending.keys) (sym c.if-branch.false) ∙ value
          ∙ ap (λ b. b || any_excused n w r popped) by_number ∙ sym (any_last (λ q. is_excused n w r (change_by n q)) popped k)
          ∙ ap (λ (ks : List ℕ). any_excused n w r ks) (sym removal) ∙ c.loop-key.invariant.2,
    )
