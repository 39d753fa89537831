-- Lists in chunks.
use Rattle.std.specs.Prelude.{◌≡◌, ◌++◌, ◌<◌, ◌≤◌, List, All, length}
use Rattle.std.specs.List.{flat_map}
use Rattle.mp_version.specs.Limits.{max_edits}

-- each chunk has 64 elements, fewer stand behind them, and all together are no more than the edits of a session
pub record AreChunks {X A : Type 0} (f : X → List A) (chunks : List X) (last : List A) : Type 0 where
  pub full : All (λ x. length (f x) ≡ 64) chunks
  pub short : length last < 64
  pub few : length (flat_map f chunks ++ last) ≤ max_edits
