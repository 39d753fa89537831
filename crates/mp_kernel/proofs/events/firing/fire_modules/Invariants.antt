use Rattle.std.proofs.Common.{◌≡◌, ◌≤◌, ◌-◌, ℕ, length, take}
use Rattle.mp_kernel.specs.events.Adding.{state_at, listed}
use Rattle.mp_kernel.specs.events.Firing.{UnitState, scheduled, AreNumbered, HaveFired, fired_by}
use Rattle.mp_kernel.specs.events.LevelFlips.{HaveFlipped}
use Rattle.mp_kernel.proofs.events.firing.fire_modules.Given as goal

-- the modules before have fired, and the others are as they were
abbrev pub invariant-loop-place : goal.invariant-loop-place
invariant-loop-place l = record {
  states : (state_of : ℕ → UnitState) → AreNumbered l.fn.states.items state_of → HaveFired state_of (take l.place l.due) l.fn.states.items l.states.items;
  levels : (state_of : ℕ → UnitState) → AreNumbered l.fn.states.items state_of → HaveFlipped state_of (take l.place l.due) l.fn.levels.items l.levels.items;
  wheel : (state_of : ℕ → UnitState) → AreNumbered l.fn.states.items state_of → l.wheel ≡ scheduled l.fn.wheel (fired_by state_of l.ports (take l.place l.due));
  others : (m : ℕ) → listed m (take l.place l.due) ≡ 0 → state_at l.states.items m ≡ state_at l.fn.states.items m;
  placed : length l.states.items ≡ length l.fn.states.items;
  leveled : length l.levels.items ≡ length l.fn.levels.items;
  units : length l.wheel ≡ length l.fn.wheel;
}

abbrev pub invariant-loop-from : goal.invariant-loop-from
invariant-loop-from l = record {
  states : (state_of : ℕ → UnitState) → AreNumbered l.fn.states.items state_of → HaveFired state_of (take l.from l.due) l.fn.states.items l.states.items;
  levels : (state_of : ℕ → UnitState) → AreNumbered l.fn.states.items state_of → HaveFlipped state_of (take l.from l.due) l.fn.levels.items l.levels.items;
  wheel : (state_of : ℕ → UnitState) → AreNumbered l.fn.states.items state_of → l.wheel ≡ scheduled l.fn.wheel (fired_by state_of l.ports (take l.from l.due));
  others : (m : ℕ) → listed m (take l.from l.due) ≡ 0 → state_at l.states.items m ≡ state_at l.fn.states.items m;
  placed : length l.states.items ≡ length l.fn.states.items;
  leveled : length l.levels.items ≡ length l.fn.levels.items;
  units : length l.wheel ≡ length l.fn.wheel;
  most : l.from ≤ length l.due;
}

abbrev pub decreases-loop-from : goal.decreases-loop-from
decreases-loop-from l = length l.due - l.from
