use Rattle.std.proofs.Common.{◌≡◌, ℕ, ◌/◌, ◌<◌, ◌-◌, List, Bool, length, suc, sym, subst, ◌∙◌, arith}
use Rattle.mp_holding.specs.sets.Elimination.{IsGood, gone_after, left_count}
use Rattle.mp_holding.proofs.lemmas.sets.LeftLemmas.{look_good, look_count}
use Rattle.mp_holding.proofs.lemmas.sets.ReaderLemmas.{unnamed_before, goes_on}
use Rattle.mp_holding.proofs.sets.elimination.look_at_readers.Goals as goal

pub loop-behind-preserved : goal.loop-behind-preserved
loop-behind-preserved c =
    let needs = c.args.needs.now in
    let shape = c.args.shape in
    let gone = c.args.number in
    let are = c.requires.readers in
    let kept = c.loop-behind.invariant in
    let behind = c.loop-behind.behind in
    let some = c.loop-behind-test.true in
    let place = behind - 1 in
    let back : behind ≡ suc place = omega (arith, some) in
    let names = kept.names place back in
    let low : place / 4 < length needs = (let within = kept.within in omega (arith, within, some)) in
    let next = c.before-behind.result in
    let was : IsGood shape needs (unnamed_before needs gone (suc place)) c.loop-behind.left.marks.items c.loop-behind.left.gone.items =
    subst (λ (i : ℕ). IsGood shape needs (unnamed_before needs gone i) c.loop-behind.left.marks.items c.loop-behind.left.gone.items) back kept.good in
    let good = look_good shape needs (place / 4) c.loop-behind.left.marks.items c.loop-behind.left.gone.items low (unnamed_before needs gone (suc place)) (unnamed_before needs gone next)
    (λ k free. goes_on needs c.args.readers.now are gone c.requires.number place next k names c.before-behind.ensures free) was in
    let count = look_count shape needs (place / 4) c.loop-behind.left.marks.items c.loop-behind.left.gone.items low in
    let marks = c.in_ok-look.ensures.marks in
    let went = c.in_ok-look.ensures.gone in
    let falls = are.falls place in
    let is_next = c.before-behind.ensures in
    let within = kept.within in
    let fewer = kept.fewer in
    let same : left_count c.look.new.self.marks.items c.look.new.self.gone.items ≡ left_count c.loop-behind.left.marks.items c.loop-behind.left.gone.items =
    subst (λ (l : List ℕ). left_count c.look.new.self.marks.items l ≡ left_count c.loop-behind.left.marks.items c.loop-behind.left.gone.items) (sym went)
    (subst (λ (l : List Bool). left_count l (gone_after shape needs (place / 4) c.loop-behind.left.marks.items c.loop-behind.left.gone.items) ≡ left_count c.loop-behind.left.marks.items c.loop-behind.left.gone.items) (sym marks) count) in
    record {
      good = subst (λ (l : List ℕ). IsGood shape needs (unnamed_before needs gone next) c.look.new.self.marks.items l) (sym went)
          (subst (λ (l : List Bool). IsGood shape needs (unnamed_before needs gone next) l (gone_after shape needs (place / 4) c.loop-behind.left.marks.items c.loop-behind.left.gone.items)) (sym marks) good);
      names = λ earlier is. are.before_names place gone earlier names (sym is_next ∙ is);
      within = omega (arith, is_next, falls, within, some);
      fewer = omega (arith, same, fewer);
    }
