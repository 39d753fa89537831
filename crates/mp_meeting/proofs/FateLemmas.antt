-- Fates of lines, one after the other.
use Rattle.std.proofs.Common.{◌≡◌, ℕ, ◌+◌, ◌≤◌, List, [], ◌∷◌, ◌++◌, arith}
use Rattle.mp_meeting.specs.Fates.{Fate, Accepted, Refused, AreAmong, accepted_of, refused_of}

pub accepted_snoc : (fates : List Fate) (fate : Fate) → accepted_of (fates ++ fate ∷ []) ≡ accepted_of fates + accepted_of (fate ∷ [])
accepted_snoc [] fate = omega arith
accepted_snoc (Accepted k ∷ fates) fate = omega (arith, accepted_snoc fates fate)
accepted_snoc (Refused k ∷ fates) fate = accepted_snoc fates fate

pub refused_snoc : (fates : List Fate) (fate : Fate) → refused_of (fates ++ fate ∷ []) ≡ refused_of fates + refused_of (fate ∷ [])
refused_snoc [] fate = omega arith
refused_snoc (Accepted k ∷ fates) fate = refused_snoc fates fate
refused_snoc (Refused k ∷ fates) fate = omega (arith, refused_snoc fates fate)

pub among_more : (m n : ℕ) (fates : List Fate) → m ≤ n → AreAmong m fates → AreAmong n fates
among_more m n [] le h = tt
among_more m n (Accepted k ∷ fates) le h = ((let p = h.0 in omega arith), among_more m n fates le h.1)
among_more m n (Refused k ∷ fates) le h = among_more m n fates le h

pub among_snoc : (n : ℕ) (fates : List Fate) (fate : Fate) → AreAmong n fates → AreAmong n (fate ∷ []) → AreAmong n (fates ++ fate ∷ [])
among_snoc n [] fate h last = last
among_snoc n (Accepted k ∷ fates) fate h last = (h.0, among_snoc n fates fate h.1 last)
among_snoc n (Refused k ∷ fates) fate h last = among_snoc n fates fate h last
