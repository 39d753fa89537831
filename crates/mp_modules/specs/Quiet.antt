-- Where no input has an event nothing changes and nothing is found.
use Rattle.std.specs.Prelude.{◌≡◌, ℕ, Bool, true, false, not, List, cond, ◌==◌, slice_index, refl}
use Rattle.std.proofs.Common.{ap, eq-eqb}
use Rattle.mp_modules.specs.declared.memory.Memory.{Memory}
use Rattle.mp_modules.specs.declared.memory.Client.{Client}
use Rattle.mp_modules.specs.declared.memory.Client.TheVariants.{Nobody, First, Second}
use Rattle.mp_modules.specs.declared.rendezvous.Rendezvous.{Rendezvous}
use Rattle.mp_modules.specs.Memories.{seen}
use Rattle.mp_modules.specs.Merge.{is_collision}
use Rattle.mp_modules.specs.CElement.{joined, bubbled, is_withdrawn}
use Rattle.mp_modules.specs.Toggle.{toggle_step}
use Rattle.mp_modules.specs.Select.{select_step, is_unstable}
use Rattle.mp_modules.specs.Call.{call_step, is_overlap, is_done_without_call}
use Rattle.mp_modules.specs.Arbiter.{is_done_ignored, is_repeat_request, is_done_without_grant}

-- a level is no event of itself
pub unchanged : (n : ℕ) → not (n == n) ≡ false
unchanged n = ap not (eq-eqb n n refl)

-- where the test decides again, the choice is made again
pub again : (b : Bool) (a former : ℕ) → cond b a (cond b a former) ≡ cond b a former
again true a former = refl
again false a former = refl

pub joined_stays : (c : Rendezvous) (former : ℕ) (x : List ℕ) → joined c (joined c former x) x ≡ joined c former x
joined_stays c former x =
    let a = bubbled c.bubble_a (slice_index x 0) in
    let b = bubbled c.bubble_b (slice_index x 1) in
    again (a == b) a former

pub toggle_stays : (m : Memory) (x : List ℕ) → toggle_step (toggle_step m x) x ≡ toggle_step m x
toggle_stays m x = rw (unchanged (slice_index x 0)) refl

pub select_stays : (m : Memory) (x : List ℕ) → select_step (select_step m x) x ≡ select_step m x
select_stays m x = rw (unchanged (slice_index x 0)) refl

pub call_stays : (m : Memory) (x : List ℕ) → call_step (call_step m x) x ≡ call_step m x
call_stays m x = rw (unchanged (slice_index x 0), unchanged (slice_index x 1), unchanged (slice_index x 2)) refl

pub no_collision : (m : Memory) (x : List ℕ) → is_collision (seen x m) x ≡ false
no_collision m x = rw (unchanged (slice_index x 0)) refl

pub none_withdrawn : (c : Rendezvous) (m : Memory) (x : List ℕ) → is_withdrawn c (seen x m) x ≡ false
none_withdrawn c m x = rw (unchanged (slice_index x 0), unchanged (slice_index x 1)) refl

pub none_unstable : (m : Memory) (x : List ℕ) → is_unstable (seen x m) x ≡ false
none_unstable m x = rw (unchanged (slice_index x 1)) refl

pub no_overlap : (m : Memory) (x : List ℕ) → is_overlap (seen x m) x ≡ false
no_overlap m x = rw (unchanged (slice_index x 0), unchanged (slice_index x 1)) refl

pub no_done_without_call : (m : Memory) (x : List ℕ) → is_done_without_call (seen x m) x ≡ false
no_done_without_call m x = rw (unchanged (slice_index x 2)) refl

none_ignored : (client : Client) → is_done_ignored client false false ≡ false
none_ignored Nobody = refl
none_ignored First = refl
none_ignored Second = refl

pub no_done_without_grant : (m : Memory) (x : List ℕ) → is_done_without_grant (seen x m) x ≡ false
no_done_without_grant m x = rw (unchanged (slice_index x 2), unchanged (slice_index x 3)) (none_ignored m.served)

pub no_repeat_request : (m : Memory) (x : List ℕ) → is_repeat_request (seen x m) x ≡ false
no_repeat_request m x = rw (unchanged (slice_index x 0), unchanged (slice_index x 1)) refl
