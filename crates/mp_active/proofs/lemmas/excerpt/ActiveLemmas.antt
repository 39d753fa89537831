-- The active modules with one more, and with one less.
use Rattle.std.proofs.Common.{◌≡◌, ℕ, Bool, true, false, not, cond, refl, ap, sym, ◌∙◌}
use Rattle.std.specs.Prelude.{◌&&◌, ◌||◌, ◌==◌}
use Rattle.std.proofs.lemmas.Bool.{and_parts, and_right, or_right}
use Rattle.mp_netlist.specs.declared.driver.Driver.{Driver}
use Rattle.mp_netlist.specs.declared.driver.Driver.TheVariants.{Nothing, Stimulus, Port}
use Rattle.mp_netlist.specs.Circuit.{Circuit, module_at}
use Rattle.mp_model.specs.Evaluations.{delay_in}
use Rattle.mp_simulation.specs.units.DataWheels.{driver_delay}
use Rattle.mp_active.specs.excerpt.Numberings.{place_in, place_of}
use Rattle.mp_active.specs.excerpt.Levels.{shown_delay}
use Rattle.mp_active.specs.excerpt.Leaving.{without, is_port_in, is_port_of}
use Rattle.mp_active.specs.excerpt.Activating.{with_module}
use Rattle.mp_active.proofs.lemmas.excerpt.TestLemmas.{or_false, and_true}

not_true : (b : Bool) → not b ≡ true → b ≡ false
not_true true is = sym is
not_true false is = refl

module _ (n : Circuit) (active : ℕ → Bool) (m : ℕ) where
  -- ---- one more
  pub awake_here : (k : ℕ) → (k == m) ≡ true → with_module active m k ≡ true
  awake_here k here = ap (λ b. active k || b) here ∙ or_right (active k) true refl

  pub same_with : (k : ℕ) → (k == m) ≡ false → with_module active m k ≡ active k
  same_with k other = ap (λ b. active k || b) other ∙ or_false (active k)

  pub place_with : (k : ℕ) → (k == m) ≡ false → place_of n (with_module active m) k ≡ place_of n active k
  place_with k other = ap (λ b. place_in n b k (module_at n k)) (same_with k other)

  -- how far the changes of a wire are known
  pub delay_own : (d : Driver) → is_port_of m d ≡ true → driver_delay n d ≡ shown_delay n (with_module active m) d
  delay_own Nothing is = refl
  delay_own Stimulus is = refl
  delay_own (Port j p) is = sym (ap (λ b. cond b (delay_in (module_at n j.0) p) 0) (awake_here j.0 is))

  pub delay_with : (d : Driver) → is_port_of m d ≡ false → shown_delay n active d ≡ shown_delay n (with_module active m) d
  delay_with Nothing is = refl
  delay_with Stimulus is = refl
  delay_with (Port j p) is = sym (ap (λ b. cond b (delay_in (module_at n j.0) p) 0) (same_with j.0 is))

-- ---- some less
pub record IsOther (active leaving : ℕ → Bool) (k : ℕ) : Type 0 where
  pub awake : active k ≡ true
  pub other : leaving k ≡ false

module _ (n : Circuit) (active leaving : ℕ → Bool) where
  pub other_is : (k : ℕ) → without active leaving k ≡ true → IsOther active leaving k
  other_is k is = let parts = and_parts (active k) (not (leaving k)) is in record { awake = parts.0; other = not_true (leaving k) parts.1 }

  pub same_without : (k : ℕ) → leaving k ≡ false → without active leaving k ≡ active k
  same_without k other = ap (λ b. active k && not b) other ∙ and_true (active k)

  pub gone : (k : ℕ) → leaving k ≡ true → without active leaving k ≡ false
  gone k here = ap (λ b. active k && not b) here ∙ and_right (active k) false refl

  pub place_without : (k : ℕ) → leaving k ≡ false → place_of n (without active leaving) k ≡ place_of n active k
  place_without k other = ap (λ b. place_in n b k (module_at n k)) (same_without k other)

  pub delay_without : (d : Driver) (k : ℕ) (b : Bool) → is_port_in leaving d ≡ b → cond b 0 (shown_delay n active d) ≡ shown_delay n (without active leaving) d
  delay_without Nothing k true is = refl
  delay_without Nothing k false is = refl
  delay_without Stimulus k true is = refl
  delay_without Stimulus k false is = refl
  delay_without (Port j p) k true is = sym (ap (λ b. cond b (delay_in (module_at n j.0) p) 0) (gone j.0 is))
  delay_without (Port j p) k false is = sym (ap (λ b. cond b (delay_in (module_at n j.0) p) 0) (same_without j.0 is))
