-- Where a module is touched, apart and different wherever another is, it works wherever the other does.
use Rattle.std.proofs.Common.{◌≡◌, ℕ, ◌+◌, ◌-◌, ◌%◌, ◌<◌, ◌≤◌, min, ap, sym, subst, ◌∙◌, arith, inl, inr}
use Rattle.mp_netlist.specs.Circuit.{Circuit, IsCircuit}
use Rattle.mp_netlist.specs.Delays.{least_delay}
use Rattle.mp_netlist.specs.Limits.{checkpoint_units}
use Rattle.mp_model.specs.Reach.{IsApart, IsTouched}
use Rattle.mp_depend.specs.work.Work.{block_of, window_of, window_end, IsWindow, Differs, IsApartIn, IsAtWork, WorksFrom, IsEntry}
use Rattle.mp_depend.proofs.lemmas.work.WindowLemmas.{window_within}

-- a block begins up to each of its times
block_before : (horizon t : ℕ) → block_of horizon t ≤ t
block_before horizon t = omega arith

-- the windows of netlists with one horizon and one least delay
window_same : (n other : Circuit) → other.horizon ≡ n.horizon → least_delay other ≡ least_delay n → (t : ℕ) → window_of other t ≡ window_of n t
window_same n other horizon least t =
    ap (λ h. t - t % checkpoint_units h % least_delay other) horizon ∙ ap (λ d. t - t % checkpoint_units n.horizon % d) least

pub end_same : (n other : Circuit) → other.horizon ≡ n.horizon → least_delay other ≡ least_delay n → (t : ℕ) → window_end other t ≡ window_end n t
end_same n other horizon least t =
    ap (λ h. min (t + least_delay other) (min (block_of h t + checkpoint_units h) h)) horizon
    ∙ ap (λ d. min (t + d) (min (block_of n.horizon t + checkpoint_units n.horizon) n.horizon)) least

pub is_window : (n other : Circuit) → other.horizon ≡ n.horizon → least_delay other ≡ least_delay n → (from to : ℕ) → IsWindow other from to → IsWindow n from to
is_window n other horizon least from to is = record {
  below = let below = is.below in omega (arith, below, horizon);
  begins = sym (window_same n other horizon least from) ∙ is.begins;
  ends = is.ends ∙ end_same n other horizon least from;
}

-- up to h the module m of old and new is touched, apart and different wherever the module k of was and now is
pub record Follows (old new was now : Circuit) (m k h : ℕ) : Type 0 where
  pub touched : IsTouched was now k → IsTouched old new m
  pub apart : (t : ℕ) → t < h → IsApart was now k t → IsApart old new m t
  pub differs : (t : ℕ) → t ≤ h → Differs was now k t → Differs old new m t

module _ (old new was now : Circuit) (m k h : ℕ) (horizon : now.horizon ≡ new.horizon) (least : least_delay now ≡ least_delay new) (follows : Follows old new was now m k h) where
  block_same : (t : ℕ) → block_of now.horizon t ≡ block_of new.horizon t
  block_same t = ap (λ x. block_of x t) horizon

  apart_in : (a b : ℕ) → b ≤ h → IsApartIn was now k a b → IsApartIn old new m a b
  apart_in a b low (t, from, within, is) = (t, from, within, follows.apart t (omega (arith, within, low)) is)

  at_work : (t : ℕ) → t ≤ h → IsAtWork was now k t → IsAtWork old new m t
  at_work t low (inl touched) = inl (follows.touched touched)
  at_work t low (inr (inl differs)) =
      let begins = block_before new.horizon t in
      inr (inl (follows.differs (block_of new.horizon t) (omega (arith, begins, low)) (subst (Differs was now k) (block_same t) differs)))
  at_work t low (inr (inr apart)) = inr (inr (apart_in (block_of new.horizon t) t low (subst (λ c. IsApartIn was now k c t) (block_same t) apart)))

-- so it works there, where it is so in both directions
module _ (old new was now : Circuit) (m k h : ℕ) (new_ok : IsCircuit new) (horizon : now.horizon ≡ new.horizon) (least : least_delay now ≡ least_delay new)
    (follows : Follows old new was now m k h) (leads : Follows was now old new k m h) where
  works : (start from to : ℕ) → start ≤ h → to ≤ h → WorksFrom was now k start from to → WorksFrom old new m start from to
  works start from to low ends (inl (busy, e)) = inl (at_work old new was now m k h horizon least follows start low busy, e)
  works start from to low ends (inr (rests, apart, e)) = inr (
    (λ busy. rests (at_work was now old new k m h (sym horizon) (sym least) leads start low busy)),
    apart_in old new was now m k h horizon least follows start to ends apart,
    e ∙ block_same old new was now m k h horizon least follows start,
  )

  pub entry_there : (from to : ℕ) → to ≤ h → IsEntry was now k from to → IsEntry old new m from to
  entry_there from to low is =
      let window = is_window new now horizon least is.start to is.window in
      let later = (window_within new new_ok is.start to window).1 in
      record { start = is.start; window = window; works = works is.start from to (omega (arith, low, later)) low is.works }

-- a module that is never touched, apart or different up to h doesn't work
pub record Rests (old new : Circuit) (m h : ℕ) : Type 0 where
  pub touched : IsTouched old new m → ⊥
  pub apart : (t : ℕ) → t < h → IsApart old new m t → ⊥
  pub differs : (t : ℕ) → t ≤ h → Differs old new m t → ⊥

pub no_entry : (old new : Circuit) (m h : ℕ) → IsCircuit new → Rests old new m h → (from to : ℕ) → to ≤ h → IsEntry old new m from to → ⊥
no_entry old new m h new_ok rests from to low is = by is.works
  where
    later : is.start < to
    later = (window_within new new_ok is.start to is.window).1

    apart_in : (a b : ℕ) → b ≤ h → IsApartIn old new m a b → ⊥
    apart_in a b up (t, begins, within, apart) = rests.apart t (omega (arith, within, up)) apart

    busy : IsAtWork old new m is.start → ⊥
    busy (inl touched) = rests.touched touched
    busy (inr (inl differs)) = rests.differs (block_of new.horizon is.start) (let begins = block_before new.horizon is.start in omega (arith, begins, low, later)) differs
    busy (inr (inr apart)) = apart_in (block_of new.horizon is.start) is.start (omega (arith, low, later)) apart

    by : WorksFrom old new m is.start from to → ⊥
    by (inl works) = busy works.0
    by (inr works) = apart_in is.start to low works.1
