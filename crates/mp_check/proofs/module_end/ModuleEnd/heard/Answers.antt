use Rattle.std.proofs.Common.{◌≡◌, ◌<◌, ◌≤◌, ℕ, true, nat_lt, List, get_or, length, sym, ap, subst, ◌∙◌, arith}
use Rattle.std.proofs.lemmas.Bool.Decides.{nat_tests}
use Rattle.mp_records.specs.declared.ports.Input.{Input}
use Rattle.mp_model.specs.Levels.{input_by}
use Rattle.mp_model.specs.Waves.{level}
use Rattle.mp_check.specs.Dead.{last_unit}
use Rattle.mp_check.proofs.StateLemmas.{heard_some, heard_none}
use Rattle.mp_check.proofs.module_end.ModuleEnd.heard.Goals as goal

below : (a b : ℕ) → true ≡ nat_lt a b → a < b
below a b test = let is : nat_lt a b ≡ true = sym test in grind (arith, nat_tests)

pub returns-in-Some : goal.returns-in-Some
returns-in-Some c =
    let self = c.args.self.now in
    let n = self.end.at.netlist.now in
    let r = self.part.now in
    let p = c.args.port in
    let i = c.in-Some.input.now in
    let within : p < length r.inputs = subst (λ (l : List Input). p < length l) c.as_slice.ensures (below p (length c.as_slice.result.now) c.in-Some.ensures.lookup.0) in
    let is : i ≡ get_or r.inputs p i = subst (λ (l : List Input). i ≡ get_or l p i) c.as_slice.ensures c.in-Some.ensures.lookup.1 in
    let heard = c.level_at.ensures (input_by n (level n) i) n.horizon c.heard.ensures self.end.at.within in
    heard ∙ ap (input_by n (level n) i) self.end.last ∙ sym (heard_some n c.horizon-horizon.ensures.form self.id.0 r self.stands p c.requires i within is (last_unit n))

pub returns-in-None : goal.returns-in-None
returns-in-None c =
    let self = c.args.self.now in
    let n = self.end.at.netlist.now in
    let r = self.part.now in
    let past : length r.inputs ≤ c.args.port = subst (λ (l : List Input). length l ≤ c.args.port) c.as_slice.ensures c.in-None.ensures.lookup.3 in
    sym (heard_none n c.horizon-horizon.ensures.form self.id.0 r self.stands c.args.port c.requires past (last_unit n))
