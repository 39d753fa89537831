use Rattle.std.proofs.Common.{◌≡◌, ◌++◌, ℕ, true, false, List, ◌∷◌, [], cond, Vec, Global, filter, length, ap, sym, ◌∙◌, append-nil}
use Rattle.std.specs.List.{range_with_len}
use Rattle.std.proofs.lemmas.Bool.{eq-eqb, ne_eqb}
use Rattle.mp_check.specs.Ways.{begins_round, least, way}
use Rattle.mp_check.specs.Doubling.{next_in, number_in}
use Rattle.mp_check.proofs.WayLemmas.{filter_more, next_low}
use Rattle.mp_check.proofs.rounds.round_beginnings.Goals as goal
use Rattle.mp_check.proofs.rounds.round_beginnings.Goals.{then-number_in-number+in_ok-push, else-number_in-number}

pub loop-number-preserved : goal.loop-number-preserved
loop-number-preserved c =
    let n = c.args.next.now in
    let k = c.loop-number.number in
    let begins = begins_round (next_in n) (length n) in
    let ways = c.in_ok-ways.ensures in
    let found : c.number_in.result ≡ least (length n) (way (next_in n) (length n) (next_in n k))
    = c.number_in.ensures ∙ ap (λ (l : List ℕ). number_in (length n) l c.number_in-behind.result) c.as_slice.ensures.value ∙ ap (number_in (length n) c.in_ok-ways.ways.least.items) c.number_in-behind.ensures
    ∙ ways.least_is (next_in n k) (next_low n c.requires.next k) in
    elim c.if-number_in-number.branch [
      | then-number_in-number+in_ok-push w ↦
          let begin : begins k ≡ true = eq-eqb _ k (sym found ∙ w.if-number_in-number.true) in
          ap (λ (v : Vec ℕ Global). v.items) w.found-is ∙ w.in_ok-push.ensures.items ∙ ap (λ l. l ++ k ∷ []) c.loop-number.invariant
          ∙ ap (λ b. filter begins (range_with_len 0 k) ++ cond b (k ∷ []) []) (sym begin) ∙ sym (filter_more begins k)
      | else-number_in-number w ↦
          let not : begins k ≡ false = ne_eqb _ k (λ e. w.if-number_in-number.false (found ∙ e)) in
          ap (λ (v : Vec ℕ Global). v.items) w.found-is ∙ c.loop-number.invariant
          ∙ sym (append-nil (filter begins (range_with_len 0 k))) ∙ ap (λ b. filter begins (range_with_len 0 k) ++ cond b (k ∷ []) []) (sym not) ∙ sym (filter_more begins k)
    ]
