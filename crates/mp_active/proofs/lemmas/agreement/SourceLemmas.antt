-- The levels of wires that sleeping modules drive, and of those that no module drives.
use Rattle.std.proofs.Common.{◌≡◌, ℕ, ◌+◌, ◌<◌, ◌≤◌, Bool, true, false, cond, Some, None, IsSome, IfSome, length, refl, ap, sym, subst, ◌∙◌, arith, inl, inr}
use Rattle.std.specs.Prelude.{◌==◌, Option}
use Rattle.std.proofs.lemmas.Bool.{eqb-true}
use Rattle.std.proofs.lemmas.List.{get_or_past}
use Rattle.mp_modules.specs.Kinds.{output_width}
use Rattle.mp_records.specs.declared.ids.WireId.{WireId}
use Rattle.mp_records.specs.declared.ids.ModuleId.{ModuleId}
use Rattle.mp_records.specs.declared.module_record.ModuleRecord.{ModuleRecord}
use Rattle.mp_records.specs.Outputs.{output_at, delay_of}
use Rattle.mp_netlist.specs.declared.driver.Driver.{Driver}
use Rattle.mp_netlist.specs.declared.driver.Driver.TheVariants.{Nothing, Stimulus, Port}
use Rattle.mp_netlist.specs.Circuit.{Circuit, IsCircuit, Drives, HasWidth, module_width, wire_at, module_at}
use Rattle.mp_netlist.specs.Drivers.{driver, is_port}
use Rattle.mp_netlist.proofs.DriverLemmas.{finds_ports, finds_only_ports, leaves_no_driver}
use Rattle.mp_model.specs.Levels.{initial_of, driven_level}
use Rattle.mp_model.specs.Waves.{level, state}
use Rattle.mp_model.proofs.BehaviourLemmas.{satisfies}
use Rattle.mp_model.proofs.HistoryLemmas.{late}
use Rattle.mp_kernel.specs.timers.TimerWheels.{never}
use Rattle.mp_depend.specs.work.Revisions.{IsKept, IsDrivenAlike}
use Rattle.mp_depend.specs.work.Stays.{SourceAgrees}
use Rattle.mp_depend.proofs.lemmas.work.LevelLemmas.{levels_stay}
use Rattle.mp_active.specs.agreement.Sleeping.{IsSleeping}
use Rattle.mp_active.specs.agreement.Sources.{slept_from, SleepersDriveAlike, WiresAgree}
use Rattle.mp_active.proofs.lemmas.agreement.SleepingLemmas.{sleepers_agree}

-- a wire at an output stands
pub output_stands : (n : Circuit) → IsCircuit n → (m p w : ℕ) → Drives n m p w → IsSome (wire_at n w)
output_stands n ok m p w drives =
    let r = drives.part in
    let all : IfSome (output_at r p).wire (λ v. HasWidth n v.0 (output_width r.kind (module_width n r) p)) = (ok.modules_ok m r drives.stands).drives p in
    (subst (λ (x : Option WireId). IfSome x (λ v. HasWidth n v.0 (output_width r.kind (module_width n r) p))) drives.output all).0

-- in the netlist before, the port of a module that has the same record drives the same wire
pub drove : (old new : Circuit) (m p w : ℕ) → module_at old m ≡ module_at new m → Drives new m p w → Drives old m p w
drove old new m p w same drives = record { part = drives.part; stands = same ∙ drives.stands; output = drives.output }

-- a wire at a port of a module that has the same record is driven alike
driven_alike : (old new : Circuit) → IsCircuit old → IsCircuit new → (m p w : ℕ) → Drives new m p w → module_at old m ≡ module_at new m → IsDrivenAlike old new w
driven_alike old new old_ok new_ok m p w drives same =
    let was = drove old new m p w same drives in
    let before = finds_ports old old_ok m p w was in
    let after = finds_ports new new_ok m p w drives in
    record {
      before = output_stands old old_ok m p w was;
      after = output_stands new new_ok m p w drives;
      one = before ∙ sym after;
      stimulus = old_ok.port_or_stimulus m p w was ∙ sym (new_ok.port_or_stimulus m p w drives);
      part = λ k q found.
          let e : k ≡ record { 0 = m } = cc in
          subst (λ (j : ModuleId). module_at old j.0 ≡ module_at new j.0) (sym e) same;
    }

pub slept_low : (t since delay : ℕ) → since ≤ t + 1 → slept_from since delay ≤ t + 1 + delay
slept_low t since delay begun = by (since == 0)
  where
    by : (b : Bool) → cond b 0 (since + delay) ≤ t + 1 + delay
    by true = omega arith
    by false = omega (arith, begun)

-- what is there its delay and a unit after was put out when the module slept, or right before
slept : (since delay u : ℕ) → slept_from since delay ≤ u + delay + 1 → since ≤ u + 1
slept since delay u from = by (since == 0) refl
  where
    by : (b : Bool) → (since == 0) ≡ b → since ≤ u + 1
    by true e = let none : since ≡ 0 = eqb-true since 0 e in omega (arith, none)
    by false e = let is : slept_from since delay ≡ since + delay = ap (λ b. cond b 0 (since + delay)) e in omega (arith, is, from)

pub sleepers_drive_alike : SleepersDriveAlike
sleepers_drive_alike old new old_ok new_ok revised active since until t asleep sources w p m r drives sleeps at u from within =
    levels_stay old new old_ok new_ok revised w (driven_alike old new old_ok new_ok m.0 p w (finds_only_ports new w p m drives) (kept.before ∙ sym at)) u source
  where
    sleeping : IsSleeping old new (since m.0) t m.0 r
    sleeping = asleep m.0 r at sleeps

    kept : IsKept old new m.0 r
    kept = sleeping.kept

    is : until w ≡ slept_from (since m.0) (delay_of r p)
    is = sources.asleep w p m r drives sleeps at

    source : SourceAgrees old new w u
    source k q v s drive stands e =
        let part : k ≡ m = cc in
        let port : q ≡ p = cc in
        let slot : module_at new m.0 ≡ Some s = subst (λ (j : ModuleId). module_at new j.0 ≡ Some s) part stands in
        let one : s ≡ r = cc in
        let delay : delay_of s q ≡ delay_of r p = ap (λ (x : ModuleRecord). delay_of x q) one ∙ ap (delay_of r) port in
        subst (λ (j : ModuleId). state old j.0 v ≡ state new j.0 v) (sym part)
        (sleepers_agree old new old_ok new_ok revised (since m.0) t m.0 r sleeping v (slept (since m.0) (delay_of r p) v (omega (arith, is, from, e, delay))) (omega (arith, within, e, delay)))

-- what was never added has level 0
never_added : (n : Circuit) → IsCircuit n → (w u : ℕ) → length n.wires ≤ w → level n w u ≡ 0
never_added n ok w u past =
    let none : wire_at n w ≡ None = get_or_past n.wires w None past in
    (satisfies n ok).levels w u ∙ ap (λ d. driven_level d n (state n) w u) (leaves_no_driver n ok w none) ∙ ap initial_of none

-- nothing is that late
too_late : (until end u t : ℕ) → until ≡ end → until ≤ u → u ≤ t + 1 → t + 1 < end → ⊥
too_late until end u t e from within below = omega (arith, e, from, within, below)

pub wires_agree : WiresAgree
wires_agree old new old_ok new_ok revised active since until t below asleep sources w u from within = by (driver new w) refl
  where
    free : is_port (driver new w) ≡ false → level old w u ≡ level new w u
    free none = elim (sources.others w none) as (λ _. level old w u ≡ level new w u) [
      | inl gone ↦ absurd (too_late (until w) never u t gone from within below)
      | inr same ↦ elim same.1 as (λ _. level old w u ≡ level new w u) [
        | inl alike ↦ levels_stay old new old_ok new_ok revised w alike u (λ m p v r drives at e. absurd (let port = ap is_port drives in let no : ⊥ = cc in no))
        | inr past ↦ let more = revised.wires in never_added old old_ok w u (omega (arith, more, past)) ∙ sym (never_added new new_ok w u past)
      ]
    ]

    driven : (m : ModuleId) (p : ℕ) → driver new w ≡ Port m p → (b : Bool) → active m.0 ≡ b → level old w u ≡ level new w u
    driven m p drives true awake = absurd (too_late (until w) never u t (sources.awake w p m drives awake) from within below)
    driven m p drives false sleeps =
        let found = finds_only_ports new w p m drives in
        let positive = late new found.part p (new_ok.modules_ok m.0 found.part found.stands) in
        sleepers_drive_alike old new old_ok new_ok revised active since until t asleep sources w p m found.part drives sleeps found.stands u (omega (arith, from)) (omega (arith, within, positive))

    by : (d : Driver) → driver new w ≡ d → level old w u ≡ level new w u
    by Nothing is = free (ap is_port is)
    by Stimulus is = free (ap is_port is)
    by (Port m p) is = driven m p is (active m.0) refl
