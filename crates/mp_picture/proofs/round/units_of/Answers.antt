use Rattle.std.proofs.Common.{◌≡◌, ℕ, ◌<◌, ◌≤◌, ◌+◌, Bool, true, false, cond, List, length, get_or, drop, None, Some, unwrap_or, sym, ap, ◌∙◌, arith}
use Rattle.std.specs.List.{find}
use Rattle.std.proofs.lemmas.List.{at_drop_more, at_drop_all}
use Rattle.mp_picture.specs.RoundNumbers.{round_numbers, are_enough}
use Rattle.mp_picture.proofs.RoundLemmas.{round_at}
use Rattle.mp_picture.proofs.round.units_of.Goals as goal

module _ (p : ℕ → Bool) (xs : List ℕ) (i : ℕ) (later : find p (drop i xs) ≡ find p xs) where
  abbrev here : ℕ
  here = get_or xs i 0

  found : i < length xs → p here ≡ true → find p xs ≡ Some here
  found within passes = sym later ∙ at_drop_more (find p) xs i 0 within ∙ ap (λ (b : Bool). cond b (Some here) (find p (drop (i + 1) xs))) passes

  passed : i < length xs → p here ≡ false → find p (drop (i + 1) xs) ≡ find p xs
  passed within fails = ap (λ (b : Bool). cond b (Some here) (find p (drop (i + 1) xs))) (sym fails) ∙ sym (at_drop_more (find p) xs i 0 within) ∙ later

  missed : length xs ≤ i → find p xs ≡ None
  missed over = sym later ∙ at_drop_all (find p) xs i over

pub are_enough-requires : goal.are_enough-requires
are_enough-requires c =
    let all = c.loop-units.invariant.all in
    let within = rw all at c.loop-units-test.true in
    rw all (round_at c.loop-units.units-index 0 within)

pub returns-then-are_enough : goal.returns-then-are_enough
returns-then-are_enough c =
    let all = c.loop-units.invariant.all in
    let within = rw all at c.loop-units-test.true in
    let passes = rw all at (sym c.are_enough.ensures ∙ c.if-are_enough.true) in
    let is = found (are_enough c.args.from c.args.to c.args.most) round_numbers c.loop-units.units-index c.loop-units.invariant.later within passes in
    rw all (sym (ap (λ o. unwrap_or o 2000000000) is))

pub loop-units-preserved : goal.loop-units-preserved
loop-units-preserved c =
    let all = c.loop-units.invariant.all in
    let within = rw all at c.loop-units-test.true in
    let fails = rw all at (sym c.are_enough.ensures ∙ c.if-are_enough.false) in
    record {
      all = all;
      later = passed (are_enough c.args.from c.args.to c.args.most) round_numbers c.loop-units.units-index c.loop-units.invariant.later within fails;
    }

pub returns : goal.returns
returns c =
    let all = c.loop-units.invariant.all in
    let over : length round_numbers ≤ c.loop-units.units-index = rw (← all) (omega (arith, c.loop-units-test.false)) in
    let is = missed (are_enough c.args.from c.args.to c.args.most) round_numbers c.loop-units.units-index c.loop-units.invariant.later over in
    sym (ap (λ o. unwrap_or o 2000000000) is)
