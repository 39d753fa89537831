-- Whose changes come: a module's that is active, a changed stimulus's, or a tail's.
use Rattle.std.proofs.Common.{◌≡◌, ℕ, ◌+◌, ◌<◌, ◌≤◌, Bool, true, false, not, cond, nat_lt, refl, ap, ◌∙◌, arith, inl, inr}
use Rattle.std.specs.Prelude.{◌&&◌, ◌==◌, nat_le}
use Rattle.std.proofs.lemmas.Bool.{lt-ltb, le-ltb, cases_Bool, cases_lt, eq-eqb, ne_eqb}
use Rattle.mp_wave.proofs.WaveformLemmas.{nat_le-true, nat_le-false}
use Rattle.mp_netlist.specs.declared.driver.Driver.{Driver}
use Rattle.mp_netlist.specs.declared.driver.Driver.TheVariants.{Nothing, Stimulus, Port}
use Rattle.mp_netlist.specs.Circuit.{Circuit, IsCircuit, module_at}
use Rattle.mp_netlist.specs.Drivers.{driver, is_port}
use Rattle.mp_model.specs.Evaluations.{delay_in}
use Rattle.mp_model.proofs.EvaluationLemmas.{delay_positive}
use Rattle.mp_modules.specs.automata.Codes.{bit}
use Rattle.mp_kernel.specs.timers.TimerWheels.{never}
use Rattle.mp_simulation.specs.bits.Changes.{change_at}
use Rattle.mp_simulation.specs.bits.WholeRuns.{is_stimulus}
use Rattle.mp_simulation.proofs.lemmas.bits.WholeLemmas.{undriven}
use Rattle.mp_active.specs.agreement.Sources.{AreSources}
use Rattle.mp_active.specs.excerpt.Excerpts.{is_followed}
use Rattle.mp_active.specs.excerpt.Levels.{shown_delay}
use Rattle.mp_active.specs.excerpt.Setting.{is_outside}
use Rattle.mp_redo.specs.rerun.Following.{is_tail, is_set_anew}
use Rattle.mp_redo.proofs.lemmas.rerun.ComingLemmas.{IsSplit}

-- ---- tests

first_of_three : (c a b d : Bool) → a ≡ true → b ≡ false → d ≡ false → bit (c && a) + (bit (c && b) + bit (c && d)) ≡ bit c
first_of_three true a b d x y z = let i = ap bit x in let j = ap bit y in let k = ap bit z in omega arith
first_of_three false a b d x y z = refl

second_of_three : (c a b d : Bool) → a ≡ false → b ≡ true → d ≡ false → bit (c && a) + (bit (c && b) + bit (c && d)) ≡ bit c
second_of_three true a b d x y z = let i = ap bit x in let j = ap bit y in let k = ap bit z in omega arith
second_of_three false a b d x y z = refl

third_of_three : (c a b d : Bool) → a ≡ false → b ≡ false → d ≡ true → bit (c && a) + (bit (c && b) + bit (c && d)) ≡ bit c
third_of_three true a b d x y z = let i = ap bit x in let j = ap bit y in let k = ap bit z in omega arith
third_of_three false a b d x y z = refl

none_of_three : (c a b d : Bool) → c ≡ false → bit (c && a) + (bit (c && b) + bit (c && d)) ≡ bit c
none_of_three true a b d e = let no : ⊥ = cc in absurd no
none_of_three false a b d e = refl

-- what is set of a wire: by tests that are known
known : (c was a b on l o c' was' a' b' on' l' o' : Bool) → c ≡ c' → was ≡ was' → a ≡ a' → b ≡ b' → on ≡ on' → l ≡ l' → o ≡ o' →
    bit (c' && a') + (bit (c' && b') + bit ((on' && l') && was')) ≡ bit (c' && (on' && o')) → bit (c && a) + (bit (c && b) + bit ((on && l) && was)) ≡ bit (c && (on && o))
known c was a b on l o c' was' a' b' on' l' o' ec ew ea eb eon el eo table = rw (ec, ew, ea, eb, eon, el, eo) table

-- ---- drivers

module _ (n : Circuit) (ok : IsCircuit n) (old : Circuit) (active : ℕ → Bool) (since until : ℕ → ℕ) (sources : AreSources old n active since until) where
  gone_or_old : (w : ℕ) (d : Driver) → driver n w ≡ d → is_port d ≡ false → 0 < until w → until w ≡ never
  gone_or_old w d e none some = elim (sources.others w (ap is_port e ∙ none)) as (λ _. until w ≡ never) [
    | inl gone ↦ gone
    | inr alike ↦ let zero_until = alike.0 in absurd (omega arith)
  ]

  -- where the levels of a wire are not those of the old run yet, a change of it is known ahead, set anew, or in the tails
  pub splits : (w u : ℕ) → 0 < until w → u < until w → IsSplit n active (is_set_anew n until) (is_tail n active until) u w
  splits w u some early = by (driver n w) refl
    where
      by : (d : Driver) → driver n w ≡ d → IsSplit n active (is_set_anew n until) (is_tail n active until) u w
      by Nothing e =
          none_of_three (change_at n w u) (nat_lt 0 (shown_delay n active (driver n w))) (is_set_anew n until w u) (is_tail n active until w u) (undriven n ok w u e)
      by Stimulus e =
          second_of_three (change_at n w u) (nat_lt 0 (shown_delay n active (driver n w))) (is_set_anew n until w u) (is_tail n active until w u)
          (ap (λ d. nat_lt 0 (shown_delay n active d)) e ∙ le-ltb 0 0 (omega arith))
          (ap (λ d. is_stimulus d && (until w == never)) e ∙ eq-eqb (until w) never (gone_or_old w Stimulus e refl some))
          (ap (λ d. is_followed active d && nat_lt u (until w)) e)
      by (Port m p) e = elim (cases_Bool (active m.0)) as (λ _. IsSplit n active (is_set_anew n until) (is_tail n active until) u w) [
        | inl awake ↦
            first_of_three (change_at n w u) (nat_lt 0 (shown_delay n active (driver n w))) (is_set_anew n until w u) (is_tail n active until w u)
            (ap (λ d. nat_lt 0 (shown_delay n active d)) e ∙ ap (λ b. nat_lt 0 (cond b (delay_in (module_at n m.0) p) 0)) awake ∙ lt-ltb 0 (delay_in (module_at n m.0) p) (delay_positive n ok m.0 p))
            (ap (λ d. is_stimulus d && (until w == never)) e)
            (ap (λ d. is_followed active d && nat_lt u (until w)) e ∙ ap (λ b. not b && nat_lt u (until w)) awake)
        | inr asleep ↦
            third_of_three (change_at n w u) (nat_lt 0 (shown_delay n active (driver n w))) (is_set_anew n until w u) (is_tail n active until w u)
            (ap (λ d. nat_lt 0 (shown_delay n active d)) e ∙ ap (λ b. nat_lt 0 (cond b (delay_in (module_at n m.0) p) 0)) asleep ∙ le-ltb 0 0 (omega arith))
            (ap (λ d. is_stimulus d && (until w == never)) e)
            (ap (λ d. is_followed active d && nat_lt u (until w)) e ∙ ap (λ b. not b && nat_lt u (until w)) asleep ∙ lt-ltb u (until w) early)
      ]

  -- what is set of a wire that is on and that no active module drives is set anew, in the tails, or follows the old wave
  abbrev pub IsSetBy : (ℕ → Bool) → Bool → ℕ → ℕ → Type 0
  IsSetBy on was w u =
      bit (change_at n w u && is_set_anew n until w u) + (bit (change_at n w u && is_tail n active until w u) + bit ((on w && nat_le (until w) u) && was))
      ≡ bit (change_at n w u && (on w && is_outside active (driver n w)))

  pub outside_split : (on : ℕ → Bool) (was : Bool) (w u : ℕ) → (0 < until w → on w ≡ true) → u < never → (until w ≤ u → was ≡ change_at n w u) → IsSetBy on was w u
  outside_split on was w u lit low follow = by (driver n w) refl
    where
      -- it follows
      after : until w ≤ u → is_set_anew n until w u ≡ false → is_tail n active until w u ≡ false → is_outside active (driver n w) ≡ true → IsSetBy on was w u
      after late anew tail outside =
          known (change_at n w u) was (is_set_anew n until w u) (is_tail n active until w u) (on w) (nat_le (until w) u) (is_outside active (driver n w))
          (change_at n w u) (change_at n w u) false false (on w) true true refl (follow late) anew tail refl (nat_le-true (until w) u late) outside (table (change_at n w u) (on w))
        where
          table : (c o : Bool) → bit (c && false) + (bit (c && false) + bit ((o && true) && c)) ≡ bit (c && (o && true))
          table true true = refl
          table true false = refl
          table false true = refl
          table false false = refl

      -- it doesn't yet
      before : u < until w → (anew tail : Bool) → is_set_anew n until w u ≡ anew → is_tail n active until w u ≡ tail → is_outside active (driver n w) ≡ true →
          ((c : Bool) → bit (c && anew) + (bit (c && tail) + 0) ≡ bit (c && true)) → IsSetBy on was w u
      before early anew tail first second outside table =
          known (change_at n w u) was (is_set_anew n until w u) (is_tail n active until w u) (on w) (nat_le (until w) u) (is_outside active (driver n w))
          (change_at n w u) was anew tail true false true refl refl first second (lit (omega arith)) (nat_le-false (until w) u early) outside (table (change_at n w u))

      by : (d : Driver) → driver n w ≡ d → IsSetBy on was w u
      by Nothing e = elim (cases_lt u (until w)) as (λ _. IsSetBy on was w u) [
        | inl early ↦
            known (change_at n w u) was (is_set_anew n until w u) (is_tail n active until w u) (on w) (nat_le (until w) u) (is_outside active (driver n w))
            false was (is_set_anew n until w u) (is_tail n active until w u) true false false (undriven n ok w u e) refl refl refl (lit (omega arith)) (nat_le-false (until w) u early)
            (ap (is_outside active) e) refl
        | inr late ↦
            known (change_at n w u) was (is_set_anew n until w u) (is_tail n active until w u) (on w) (nat_le (until w) u) (is_outside active (driver n w))
            false false (is_set_anew n until w u) (is_tail n active until w u) (on w) true false (undriven n ok w u e) (follow late ∙ undriven n ok w u e) refl refl refl (nat_le-true (until w) u late)
            (ap (is_outside active) e) (table (on w))
      ]
        where
          table : (o : Bool) → 0 + (0 + bit ((o && true) && false)) ≡ 0
          table true = refl
          table false = refl
      by Stimulus e = elim (cases_lt u (until w)) as (λ _. IsSetBy on was w u) [
        | inl early ↦
            before early true false
            (ap (λ d. is_stimulus d && (until w == never)) e ∙ eq-eqb (until w) never (gone_or_old w Stimulus e refl (omega arith)))
            (ap (λ d. is_followed active d && nat_lt u (until w)) e) (ap (is_outside active) e) first
        | inr late ↦
            after late (ap (λ d. is_stimulus d && (until w == never)) e ∙ ne_eqb (until w) never (λ same. absurd (omega arith)))
            (ap (λ d. is_followed active d && nat_lt u (until w)) e) (ap (is_outside active) e)
      ]
        where
          first : (c : Bool) → bit (c && true) + (bit (c && false) + 0) ≡ bit (c && true)
          first true = refl
          first false = refl
      by (Port m p) e = elim (cases_Bool (active m.0)) as (λ _. IsSetBy on was w u) [
        | inl awake ↦
            let gone = sources.awake w p m e awake in
            known (change_at n w u) was (is_set_anew n until w u) (is_tail n active until w u) (on w) (nat_le (until w) u) (is_outside active (driver n w))
            (change_at n w u) was false false true false false refl refl (ap (λ d. is_stimulus d && (until w == never)) e)
            (ap (λ d. is_followed active d && nat_lt u (until w)) e ∙ ap (λ b. not b && nat_lt u (until w)) awake) (lit (omega arith)) (nat_le-false (until w) u (omega arith))
            (ap (is_outside active) e ∙ ap not awake) (table (change_at n w u))
        | inr asleep ↦ elim (cases_lt u (until w)) as (λ _. IsSetBy on was w u) [
          | inl early ↦
              before early false true (ap (λ d. is_stimulus d && (until w == never)) e)
              (ap (λ d. is_followed active d && nat_lt u (until w)) e ∙ ap (λ b. not b && nat_lt u (until w)) asleep ∙ lt-ltb u (until w) early)
              (ap (is_outside active) e ∙ ap not asleep) second
          | inr late ↦
              after late (ap (λ d. is_stimulus d && (until w == never)) e)
              (ap (λ d. is_followed active d && nat_lt u (until w)) e ∙ ap (λ b. not b && nat_lt u (until w)) asleep ∙ le-ltb u (until w) late)
              (ap (is_outside active) e ∙ ap not asleep)
        ]
      ]
        where
          table : (c : Bool) → bit (c && false) + (bit (c && false) + 0) ≡ bit (c && false)
          table true = refl
          table false = refl

          second : (c : Bool) → bit (c && false) + (bit (c && true) + 0) ≡ bit (c && true)
          second true = refl
          second false = refl
