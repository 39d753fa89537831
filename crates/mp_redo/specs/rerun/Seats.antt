-- Places of modules with data in the simulation.
use Rattle.std.specs.Prelude.{◌≡◌, ℕ, ◌<◌, List, Option, Some, None, is_some, length, slice_index_or}
use Rattle.std.specs.List.{count_by}
use Rattle.mp_kernel.specs.datapath.DataFiring.{place_at}
use Rattle.mp_simulation.specs.declared.units.data_modules.DataModules.{DataModules}

abbrev pub seat_at : List (Option ℕ) → ℕ → Option ℕ
seat_at seats m = slice_index_or seats m None

-- each place is some module's seat, which it keeps while it sleeps
pub record AreSeats (modules : ℕ) (seats : List (Option ℕ)) (s : DataModules) : Type 0 where
  pub long : length seats ≡ modules
  pub count : length s.modules.items ≡ count_by is_some seats
  pub within : (m k : ℕ) → seat_at seats m ≡ Some k → k < length s.modules.items
  pub own : (m q k : ℕ) → seat_at seats m ≡ Some k → seat_at seats q ≡ Some k → m ≡ q
  pub placed : (q k : ℕ) → place_at s.places.items q ≡ Some k → seat_at seats q ≡ Some k
