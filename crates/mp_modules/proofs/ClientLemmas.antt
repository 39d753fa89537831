-- Whom a module serves, as numbers.
use Rattle.std.proofs.Common.{◌≡◌, ℕ, ◌+◌, cond, refl}
use Rattle.mp_modules.specs.declared.memory.Client.{Client}
use Rattle.mp_modules.specs.declared.memory.Client.TheVariants.{Nobody, First, Second}
use Rattle.mp_modules.specs.Clients.{is_free, is_same}
use Rattle.mp_modules.proofs.HistoryLemmas.{bit}

-- one where the client is served
abbrev pub first : Client → ℕ
first client = bit (is_same First client)

abbrev pub second : Client → ℕ
second client = bit (is_same Second client)

-- just one is served, or nobody is
pub number_served : (client : Client) → cond (is_free client) 0 1 ≡ first client + second client
number_served Nobody = refl
number_served First = refl
number_served Second = refl
