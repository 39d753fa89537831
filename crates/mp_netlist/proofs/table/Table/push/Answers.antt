use Rattle.std.proofs.Common.{◌≡◌, ℕ, List, true, ◌<◌, ◌^◌, length, cond, Some, is_none, refl, ap, subst, rules, sym}
use Rattle.std.specs.Str.{bytes_eq}
use Rattle.mp_netlist.specs.Indexes.{number_in}
use Rattle.mp_netlist.specs.Slots.{number_named}
use Rattle.mp_netlist.specs.Tables.{IsTable}
use Rattle.mp_records.proofs.lemmas.lists.CutLemmas.{in_either}
use Rattle.mp_netlist.proofs.TableLemmas.{IsTable-noted, IsTable-push}
use Rattle.mp_netlist.proofs.table.Table.push.Goals as goal

-- the name is noted, and its thing stands or is yet to stand
pub invariant_of-self-2 : goal.invariant_of-self-2
invariant_of-self-2 g c =
    let old = c.self.inside in
    let name_of = g.R.Named.name_of in
    let name = name_of c.args.added in
    let new = number_in c.insert.new.self in
    let number : c.len-number.result ≡ length old.slots = search rules in
    let same : c.name.result.now ≡ name = search rules in
    let few = subst (λ slots. length slots < 2 ^ 32) (sym c.self.view_is) c.requires.room in
    let free = subst (λ slots. is_none (number_named name_of slots name) ≡ true) (sym c.self.view_is) (ap is_none c.requires.free) in
    let is : (q : List ℕ) → new q ≡ cond (bytes_eq name q) (Some (length old.slots)) (number_in old.index q) = λ q.
    subst (λ text. new q ≡ cond (bytes_eq text q) (Some (length old.slots)) (number_in old.index q)) same
    (subst (λ n. new q ≡ cond (bytes_eq c.name.result.now q) (Some n) (number_in old.index q)) number (c.in_ok-insert.ensures.ok q)) in
    in_either c.push.result
    (λ pushed. subst (λ slots. IsTable name_of slots new) (sym pushed)
    (IsTable-push name_of name old.slots c.args.added (number_in old.index) refl free c.self.invariant new few is))
    (λ kept. subst (λ slots. IsTable name_of slots new) (sym kept)
    (IsTable-noted name_of name old.slots c.args.added (number_in old.index) refl free c.self.invariant new is))
    c.push.ensures.ok c.push.ensures.err
