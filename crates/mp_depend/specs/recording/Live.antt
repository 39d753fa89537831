-- The modules that are live, that is evaluated again, and their open work spans.
use Rattle.std.specs.Prelude.{◌≡◌, ◌≢◌, ◌⊎◌, ℕ, ◌<◌, Bool, true, false, List, Option, Some, None, IsSome, length, slice_index_or}
use Rattle.std.specs.List.{Contains}
use Rattle.mp_records.specs.declared.ids.ModuleId.{ModuleId}
use Rattle.mp_netlist.specs.Circuit.{Circuit, IsCircuit, module_at}
use Rattle.mp_model.specs.Reach.{IsTouched}
use Rattle.mp_depend.specs.declared.work.work_span.WorkSpan.{WorkSpan}
use Rattle.mp_depend.specs.work.WorkSpans.{work_span_at}
use Rattle.mp_depend.specs.work.Work.{block_of, Differs, IsApartIn, IsWindow}

-- the module is at work at a time of the block that begins at c
abbrev pub IsWorking : Circuit → Circuit → ℕ → ℕ → ℕ → Type 0
IsWorking old new c m t = IsTouched old new m ⊎ Differs old new m c ⊎ IsApartIn old new m c t

-- of the modules that stand just those are live that are at work
pub record AreAtWork (old new : Circuit) (c t : ℕ) (live : ℕ → Bool) : Type 0 where
  pub works : (m : ℕ) → IsSome (module_at new m) → live m ≡ true → IsWorking old new c m t
  pub rests : (m : ℕ) → IsSome (module_at new m) → live m ≡ false → IsWorking old new c m t → ⊥

-- where the open work span of a module is among all, if it has one
abbrev pub place_at : List (Option ℕ) → ℕ → Option ℕ
place_at places m = slice_index_or places m None

-- the work span at a place is this module's, and goes on to the horizon
pub record IsOpenAt (new : Circuit) (work_spans : List WorkSpan) (m k : ℕ) : Type 0 where
  pub within : k < length work_spans
  pub own : (work_span_at work_spans k).«module».0 ≡ m
  pub on : (work_span_at work_spans k).last_end ≡ new.horizon

-- the work span of a live module that stands is open, one that isn't live has none, and no other work span goes on
pub record AreOpen (new : Circuit) (t : ℕ) (live : ℕ → Bool) (places : List (Option ℕ)) (work_spans : List WorkSpan) : Type 0 where
  pub count : length places ≡ length new.modules
  pub opened : (m : ℕ) → IsSome (module_at new m) → live m ≡ true → (k : ℕ) × (place_at places m ≡ Some k) × IsOpenAt new work_spans m k
  pub closed : (m : ℕ) → live m ≡ false → place_at places m ≡ None
  pub over : (k : ℕ) → k < length work_spans → t < (work_span_at work_spans k).last_end →
      (let m = (work_span_at work_spans k).«module».0 in (live m ≡ true) × (place_at places m ≡ Some k) × IsSome (module_at new m))

-- the live modules that stand are listed
abbrev pub IsListed : Circuit → (ℕ → Bool) → List ModuleId → Type 0
IsListed new live list = (m : ℕ) → IsSome (module_at new m) → live m ≡ true → Contains list (record { 0 = m })

-- these modules, which stand, are live now, and so is who was live, and nobody else
pub record HaveBecomeLive (new : Circuit) (joined : List ModuleId) (live now : ℕ → Bool) : Type 0 where
  pub stand : (m : ℕ) → Contains joined (record { 0 = m }) → IsSome (module_at new m)
  pub stay : (m : ℕ) → live m ≡ true → now m ≡ true
  pub join : (m : ℕ) → Contains joined (record { 0 = m }) → now m ≡ true
  pub others : (m : ℕ) → (Contains joined (record { 0 = m }) → ⊥) → now m ≡ live m

-- these modules join in a window of the block that begins at c: before it and at its end just those are live that are at work
pub record JoinInWindow (old new : Circuit) (c from to : ℕ) (joined : List ModuleId) (live now : ℕ → Bool) : Type 0 where
  pub form : IsCircuit new
  pub window : IsWindow new from to
  pub block : c ≡ block_of new.horizon from
  pub become : HaveBecomeLive new joined live now
  pub before : AreAtWork old new c from live
  pub after : AreAtWork old new c to now

-- a module that stands was live, and isn't from the end of a window on
pub record LeavesAt (new : Circuit) (live now : ℕ → Bool) (m time : ℕ) : Type 0 where
  pub stands : IsSome (module_at new m)
  pub was : live m ≡ true
  pub quiet : now m ≡ false
  pub others : (k : ℕ) → k ≢ m → now k ≡ live k
  pub below : time < new.horizon
  pub window : (start : ℕ) × IsWindow new start time
