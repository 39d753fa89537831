-- Lemmas on the outputs of a module in their places.
use Rattle.std.proofs.Common.{◌≡◌, ℕ, ◌≤◌, List, length, take, arith}
use Rattle.std.proofs.lemmas.Grind.{common_steps}

-- as many of three places as there are ports
pub length-ports : (count ports : ℕ) (places : List (List (ℕ × ℕ))) → count ≡ ports → ports ≤ 3 → length places ≡ 3 → length (take count places) ≡ ports
length-ports count ports places is few three = grind (arith, common_steps)
