-- A module that has its record, inputs and states in two other netlists works there just when it works here.
use Rattle.std.proofs.Common.{◌≡◌, ℕ, ◌+◌, ◌-◌, ◌%◌, ◌<◌, ◌≤◌, Some, IsSome, min, ap, sym, subst, ◌∙◌, arith, inl, inr}
use Rattle.mp_records.specs.declared.module_record.ModuleRecord.{ModuleRecord}
use Rattle.mp_netlist.specs.Circuit.{Circuit, module_at}
use Rattle.mp_netlist.specs.Delays.{least_delay}
use Rattle.mp_netlist.specs.Limits.{checkpoint_units}
use Rattle.mp_model.specs.Waves.{state}
use Rattle.mp_model.specs.Reach.{inputs, IsApart, IsTouched}
use Rattle.mp_depend.specs.work.Work.{block_of, window_of, window_end, IsWindow, Differs, IsApartIn, IsAtWork, WorksFrom, IsEntry}

-- below the horizon another netlist has the record, the inputs and the states of a module
pub record HasSame (n other : Circuit) (m : ℕ) : Type 0 where
  pub horizon : other.horizon ≡ n.horizon
  pub slot : module_at other m ≡ module_at n m
  pub reads : (t : ℕ) → t < n.horizon → inputs other m t ≡ inputs n m t
  pub states : (t : ℕ) (r : ModuleRecord) → module_at n m ≡ Some r → t < n.horizon → state other m t ≡ state n m t

pub turned : (n other : Circuit) (m : ℕ) → HasSame n other m → HasSame other n m
turned n other m has = record {
  horizon = sym has.horizon;
  slot = sym has.slot;
  reads = λ t low. sym (has.reads t (let same = has.horizon in omega (arith, low, same)));
  states = λ t r at low. sym (has.states t r (sym has.slot ∙ at) (let same = has.horizon in omega (arith, low, same)));
}

-- a block begins up to each of its times
block_before : (horizon t : ℕ) → block_of horizon t ≤ t
block_before horizon t = omega arith

-- the windows of netlists with one horizon and one least delay
pub window_same : (n other : Circuit) → other.horizon ≡ n.horizon → least_delay other ≡ least_delay n → (t : ℕ) → window_of other t ≡ window_of n t
window_same n other horizon least t =
    ap (λ h. t - t % checkpoint_units h % least_delay other) horizon ∙ ap (λ d. t - t % checkpoint_units n.horizon % d) least

pub end_same : (n other : Circuit) → other.horizon ≡ n.horizon → least_delay other ≡ least_delay n → (t : ℕ) → window_end other t ≡ window_end n t
end_same n other horizon least t =
    ap (λ h. min (t + least_delay other) (min (block_of h t + checkpoint_units h) h)) horizon
    ∙ ap (λ d. min (t + d) (min (block_of n.horizon t + checkpoint_units n.horizon) n.horizon)) least

pub is_window : (n other : Circuit) → other.horizon ≡ n.horizon → least_delay other ≡ least_delay n → (from to : ℕ) → IsWindow other from to → IsWindow n from to
is_window n other horizon least from to is = record {
  below = let below = is.below in omega (arith, below, horizon);
  begins = sym (window_same n other horizon least from) ∙ is.begins;
  ends = is.ends ∙ end_same n other horizon least from;
}

-- what was made of two netlists has the module of each
module _ (old new was now : Circuit) (m : ℕ) (before : HasSame old was m) (after : HasSame new now m) (horizon : new.horizon ≡ old.horizon) where
  touched_there : IsTouched was now m → IsTouched old new m
  touched_there is = record { stands = subst IsSome after.slot is.stands; differ = λ same. is.differ (before.slot ∙ same ∙ sym after.slot) }

  apart_there : (t : ℕ) → t < new.horizon → IsApart was now m t → IsApart old new m t
  apart_there t low is = record {
    before = subst IsSome before.slot is.before;
    after = subst IsSome after.slot is.after;
    differ = λ same. is.differ (before.reads t (omega (arith, low, horizon)) ∙ same ∙ sym (after.reads t low));
  }

  differs_there : (t : ℕ) → t ≤ new.horizon → Differs was now m t → Differs old new m t
  differs_there t low is =
      let kept_before = sym before.slot ∙ is.kept.before in
      let kept_after = sym after.slot ∙ is.kept.after in
      let e = is.before in
      record {
        part = is.part;
        kept = record { before = kept_before; after = kept_after };
        last = is.last;
        before = is.before;
        differ = λ same. is.differ
            (before.states is.last is.part kept_before (omega (arith, e, low, horizon)) ∙ same ∙ sym (after.states is.last is.part kept_after (omega (arith, e, low))));
      }

  apart_in_there : (a b : ℕ) → b ≤ new.horizon → IsApartIn was now m a b → IsApartIn old new m a b
  apart_in_there a b low (t, from, within, is) = (t, from, within, apart_there t (omega (arith, within, low)) is)

  block_same : (t : ℕ) → block_of now.horizon t ≡ block_of new.horizon t
  block_same t = ap (λ h. block_of h t) after.horizon

  pub at_work_there : (t : ℕ) → t < new.horizon → IsAtWork was now m t → IsAtWork old new m t
  at_work_there t low (inl touched) = inl (touched_there touched)
  at_work_there t low (inr (inl differs)) =
      let begins = block_before new.horizon t in
      inr (inl (differs_there (block_of new.horizon t) (omega (arith, begins, low)) (subst (Differs was now m) (block_same t) differs)))
  at_work_there t low (inr (inr apart)) =
      inr (inr (apart_in_there (block_of new.horizon t) t (omega (arith, low)) (subst (λ c. IsApartIn was now m c t) (block_same t) apart)))

-- so it works just when it works there
module _ (old new was now : Circuit) (m : ℕ) (before : HasSame old was m) (after : HasSame new now m) (horizon : new.horizon ≡ old.horizon) (least : least_delay now ≡ least_delay new) where
  horizon_there : now.horizon ≡ was.horizon
  horizon_there = after.horizon ∙ horizon ∙ sym before.horizon

  works_there : (start from to : ℕ) → start < new.horizon → to ≤ new.horizon → WorksFrom was now m start from to → WorksFrom old new m start from to
  works_there start from to low ends (inl (works, e)) = inl (at_work_there old new was now m before after horizon start low works, e)
  works_there start from to low ends (inr (rests, apart, e)) = inr (
    (λ works. rests (at_work_there was now old new m (turned old was m before) (turned new now m after) horizon_there start (let same = after.horizon in omega (arith, low, same)) works)),
    apart_in_there old new was now m before after horizon start to ends apart,
    e ∙ block_same old new was now m before after horizon start,
  )

  pub entry_there : (from to : ℕ) → IsEntry was now m from to → IsEntry old new m from to
  entry_there from to is =
      let window = is_window new now after.horizon least is.start to is.window in
      let ends = window.ends in
      record { start = is.start; window = window; works = works_there is.start from to window.below (omega (arith, ends)) is.works }
