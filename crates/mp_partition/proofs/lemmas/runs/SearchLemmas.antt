-- Lists of states by rising time: which are kept for times not after one, and which for later ones.
use Rattle.std.proofs.Common.{◌≡◌, ℕ, ◌+◌, ◌<◌, ◌≤◌, List, [], ◌∷◌, ◌++◌, true, false, length, slice_index_or, take, drop, nat_le, zero, suc, refl, ap, sym, ◌∙◌, subst, arith, append_assoc}
use Rattle.std.specs.Prelude.{All}
use Rattle.std.specs.List.{AllWithin}
use Rattle.std.proofs.lemmas.Bool.{lt-ltb}
use Rattle.std.proofs.lemmas.Bool.Decides.{nat_tests}
use Rattle.std.proofs.lemmas.List.{length-take, length-drop, get_or-take, get_or-drop, take-append-drop}
use Rattle.std.proofs.lemmas.List.Elements.{All-push, All-weaker}
use Rattle.mp_wave.proofs.WaveformLemmas.{nat_le-false}
use Rattle.mp_modules.specs.declared.memory.Memory.{Memory}
use Rattle.mp_modules.specs.Memories.{blank}
use Rattle.mp_partition.specs.declared.runs.checkpoint.Checkpoint.{Checkpoint}
use Rattle.mp_partition.specs.runs.Checkpoints.{kept_at, last_kept, kept_before}
use Rattle.mp_partition.specs.runs.StateLists.{IsRising, IsCut}
use Rattle.mp_partition.proofs.lemmas.runs.KeepLemmas.{kept_at-over}

from_true : (a b : ℕ) → nat_le a b ≡ true → a ≤ b
from_true a b is = grind (arith, nat_tests)

from_false : (a b : ℕ) → nat_le a b ≡ false → b < a
from_false a b is = grind (arith, nat_tests)

-- those before the place are for times that aren't after this one
pub early : (ks : List Checkpoint) (time count : ℕ) → AllWithin (λ (k : Checkpoint). nat_le k.time time ≡ true) ks 0 count → All (λ (k : Checkpoint). k.time ≤ time) (take count ks)
early ks time count within i d less =
    let long = length-take count ks in
    subst (λ (k : Checkpoint). k.time ≤ time) (sym (get_or-take count ks i d (omega (arith, long, less)))) (from_true _ time (within i d (omega arith) (omega (arith, long, less))))

-- and those from there on for later ones
pub late : (ks : List Checkpoint) (time count : ℕ) → AllWithin (λ (k : Checkpoint). nat_le k.time time ≡ false) ks count (length ks) → All (λ (k : Checkpoint). time < k.time) (drop count ks)
late ks time count within i d less =
    let long = length-drop count ks in
    subst (λ (k : Checkpoint). time < k.time) (sym (get_or-drop count ks i d)) (from_false _ time (within (count + i) d (omega arith) (omega (arith, long, less))))

-- what is kept for later times isn't seen
pub none_yet : (ks : List Checkpoint) (time : ℕ) (before : Memory) → All (λ (k : Checkpoint). time < k.time) ks → kept_at ks time before ≡ before
none_yet [] time before later = refl
none_yet (k ∷ ks) time before later = rw (nat_le-false k.time time (later 0 k (omega arith))) refl

-- from a time on what stands before the place is seen by its last state alone
pub seen_from : (ks : List Checkpoint) (time count c : ℕ) (before : Memory) → AllWithin (λ (k : Checkpoint). nat_le k.time time ≡ true) ks 0 count → time ≤ c →
    kept_at ks c before ≡ kept_at (drop count ks) c (last_kept (take count ks) before)
seen_from ks time count c before within le =
    ap (λ xs. kept_at xs c before) (sym (take-append-drop count ks)) ∙ kept_at-over (take count ks) (drop count ks) time c before (early ks time count within) le

-- so what is kept for the time is the last of them
pub kept_by_cut : (ks : List Checkpoint) (time count : ℕ) → IsCut ks time count → kept_at ks time blank ≡ last_kept (take count ks) blank
kept_by_cut ks time count cut = seen_from ks time count time blank cut.0 (omega arith) ∙ none_yet (drop count ks) time (last_kept (take count ks) blank) (late ks time count cut.1)

-- ---- by rising time

-- no state of the first list is for a later time than one of the second
abbrev pub AreOver : List Checkpoint → List Checkpoint → Type 0
AreOver ks more = All (λ (k : Checkpoint). All (λ (l : Checkpoint). l.time ≤ k.time) ks) more

-- a state that isn't for a later time than these, behind others
pub over-new : (ks more : List Checkpoint) (new : Checkpoint) → All (λ (k : Checkpoint). k.time ≤ new.time) ks → All (λ (k : Checkpoint). new.time < k.time) more → AreOver (ks ++ new ∷ []) more
over-new ks more new over later i d less =
    let after = later i d less in
    All-push (λ (l : Checkpoint). l.time ≤ (slice_index_or more i d).time) ks new
    (All-weaker (λ (l : Checkpoint). l.time ≤ new.time) (λ (l : Checkpoint). l.time ≤ (slice_index_or more i d).time) (λ l le. omega (arith, le, after)) ks over)
    (omega (arith, after))

-- the first of the second list goes behind the first list
pub over-next : (ks more rest : List Checkpoint) (x : Checkpoint) → more ≡ x ∷ rest → IsRising more → AreOver ks more → AreOver (ks ++ x ∷ []) rest
over-next ks more rest x is rises over i d less =
    let whole = subst (AreOver ks) is over in
    let up = subst IsRising is rises in
    All-push (λ (l : Checkpoint). l.time ≤ (slice_index_or rest i d).time) ks x (whole (suc i) d (omega (arith, less))) (up zero (suc i) d (omega arith) (omega (arith, less)))

pub over-first : (ks more rest : List Checkpoint) (x : Checkpoint) → more ≡ x ∷ rest → AreOver ks more → All (λ (l : Checkpoint). l.time ≤ x.time) ks
over-first ks more rest x is over = subst (AreOver ks) is over 0 x (omega arith)

-- with the first of the second list behind the first one, what is left to be added is the rest
pub added-next : (ks new more rest whole : List Checkpoint) (x : Checkpoint) (end : ℕ) → new ≡ ks ++ x ∷ [] → more ≡ x ∷ rest → x.time < end → ks ++ kept_before end more ≡ whole → new ++ kept_before end rest ≡ whole
added-next ks new more rest whole x end added is less all =
    let first : kept_before end (x ∷ rest) ≡ x ∷ kept_before end rest = rw (lt-ltb x.time end less) refl in
    ap (λ l. l ++ kept_before end rest) added ∙ append_assoc ks (x ∷ []) (kept_before end rest) ∙ ap (λ l. ks ++ l) (sym first) ∙ ap (λ l. ks ++ kept_before end l) (sym is) ∙ all
