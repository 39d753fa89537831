-- Netlists without some of their modules.
use Rattle.std.specs.Prelude.{◌≡◌, ℕ, None, length}
use Rattle.mp_netlist.specs.Circuit.{Circuit, module_at}

-- all but the modules is as in a netlist, and there are as many places for these
pub record HasSameFrame (n found : Circuit) : Type 0 where
  pub format : found.format ≡ n.format
  pub horizon : found.horizon ≡ n.horizon
  pub wires : found.wires ≡ n.wires
  pub bundles : found.bundles ≡ n.bundles
  pub places : length found.modules ≡ length n.modules

-- the module of this number is gone, and all else is as it was
pub record IsWithout (n : Circuit) (m : ℕ) (found : Circuit) : Type 0 where
  pub frame : HasSameFrame n found
  pub gone : module_at found m ≡ None
  pub others : (k : ℕ) → (k ≡ m → ⊥) → module_at found k ≡ module_at n k
