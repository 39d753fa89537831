use Rattle.std.proofs.Common.{◌≡◌, get_or, take, refl, subst, arith}
use Rattle.std.proofs.lemmas.List.{take_all}
use Rattle.mp_near.proofs.lemmas.reach.MarkLemmas.{grown_none, grown_more}
use Rattle.mp_near.proofs.lemmas.reach.ReachLemmas.{AreMarkedIn, marked_more, reader_at, unheard}
use Rattle.mp_near.proofs.reach.reached.Reached.visit.Goals as goal
use Rattle.mp_near.proofs.reach.reached.Reached.visit.Goals.{then-hears+else-left-eq0, else-hears}

pub loop-m-init : goal.loop-m-init
loop-m-init c = record {
  reach = c.requires.reach;
  wires = grown_none c.args.self.now.wires.items;
  few = omega arith;
  readers = λ m is reads. cc;
  same = λ all. refl;
}

pub loop-m-preserved : goal.loop-m-preserved
loop-m-preserved c =
    let old = c.args.old.now in
    let new = c.args.new.now in
    let wire = c.args.wire.0 in
    let row = c.in-Some.row.now in
    let modules = c.loop-m.self.modules.items in
    let wires = c.loop-m.self.wires.items in
    let i = c.loop-m.m-index in
    let is = c.loop-m.invariant in
    let test = c.loop-m-test.true in
    elim c.if-hears.branch [
      | then-hears+else-left-eq0 w ↦
          let few = is.few in
          let some = w.if-left-eq0.false in
          rw (w.self-is, w.left-is) (record {
            reach = w.add.ensures.reach;
            wires = grown_more c.args.self.now.wires.items wires w.add.new.self.wires.items is.wires w.add.ensures.wires;
            few = omega (arith, few);
            readers = marked_more new modules w.add.new.self.modules.items wire row i 0 test w.add.ensures.grown (λ reads. w.add.ensures.marked) is.readers;
            same = λ all. absurd (let no : ⊥ = omega (arith, few, some, all) in no);
          })
      | else-hears w ↦
          rw (w.self-is, w.left-is) (record {
            reach = is.reach;
            wires = is.wires;
            few = is.few;
            readers = marked_more new modules modules wire row i 0 test (grown_none modules)
                (λ reads. unheard old new modules wires (get_or row i 0) wire is.reach (is.wires.kept wire c.requires.marked) (c.hears.ensures.none w.if-hears.false) reads) is.readers;
            same = is.same;
          })
    ]

pub returns-clause-readers : goal.returns-clause-readers
returns-clause-readers c = λ m reads.
    let row = c.in-Some.row.now in
    let over = c.loop-m-test.false in
    let all : take c.loop-m.m-index row ≡ row = take_all c.loop-m.m-index row (omega (arith, over)) in
    (subst (AreMarkedIn c.args.new.now c.loop-m.self.modules.items c.args.wire.0) all c.loop-m.invariant.readers) m (c.in-Some.ensures m (reader_at c.args.new.now m c.args.wire.0 reads)) reads
