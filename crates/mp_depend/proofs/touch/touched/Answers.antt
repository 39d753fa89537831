use Rattle.std.proofs.Common.{◌≡◌, ℕ, ◌≤◌, ◌↔◌, List, Some, Contains, length, arith}
use Rattle.mp_records.specs.declared.ids.ModuleId.{ModuleId}
use Rattle.mp_records.specs.declared.module_record.ModuleRecord.{ModuleRecord}
use Rattle.mp_netlist.specs.Circuit.{Circuit, module_at}
use Rattle.mp_model.specs.Reach.{IsTouched}
use Rattle.mp_model.proofs.SlotLemmas.{slot_within, some_within}
use Rattle.mp_depend.proofs.TouchLemmas.{AreFound, found_more, found_same}
use Rattle.mp_depend.proofs.touch.touched.Goals as goal
use Rattle.mp_depend.proofs.touch.touched.Goals.{then-is_touched+in_ok-push, else-is_touched}

-- when all modules are looked at, just the touched ones are found
just : (old new : Circuit) (m : ℕ) (ids : List ModuleId) → length new.modules ≤ m → AreFound old new m ids → (k : ℕ) → Contains ids (record { 0 = k }) ↔ IsTouched old new k
just old new m ids end are k = (are.listed k, λ is. are.all k (let within = some_within new.modules k is.stands in omega (arith, within, end)) is)

others : (old new : Circuit) (m : ℕ) (ids : List ModuleId) → length new.modules ≤ m → AreFound old new m ids → (k : ℕ) (r : ModuleRecord) → module_at new k ≡ Some r → (Contains ids (record { 0 = k }) → ⊥) → module_at old k ≡ Some r
others old new m ids end are k r at none = are.others k (let within = slot_within new.modules k r at in omega (arith, within, end)) none r at

pub loop-m-preserved : goal.loop-m-preserved
loop-m-preserved c =
    let ids = c.loop-m.found.items in
    let says = c.is_touched.ensures in
    elim c.if-is_touched.branch [
      | then-is_touched+in_ok-push w ↦ rw w.found-is (rw w.in_ok-push.ensures.items (found_more c.args.old.now c.args.new.now c.loop-m.m ids (says.touched.0 w.if-is_touched.true) c.loop-m.invariant))
      | else-is_touched w ↦
          let not : IsTouched c.args.old.now c.args.new.now c.loop-m.m → ⊥ = λ is. (let one = says.touched.1 is in let other = w.if-is_touched.false in cc) in
          rw w.found-is (found_same c.args.old.now c.args.new.now c.loop-m.m ids not (says.same w.if-is_touched.false) c.loop-m.invariant)
    ]

pub returns-clause-touched : goal.returns-clause-touched
returns-clause-touched c = just c.args.old.now c.args.new.now c.loop-m.m c.loop-m.found.items (let value = c.module_slots-m-end.ensures.value in let over = c.loop-m-test.false in omega (arith, value, over)) c.loop-m.invariant

pub returns-clause-others : goal.returns-clause-others
returns-clause-others c = others c.args.old.now c.args.new.now c.loop-m.m c.loop-m.found.items (let value = c.module_slots-m-end.ensures.value in let over = c.loop-m-test.false in omega (arith, value, over)) c.loop-m.invariant
