-- Each step keeps the rule of a line.
use Rattle.std.proofs.Common.{◌≡◌, ℕ, zero, suc, List, [], ◌∷◌, ◌++◌, Option, Some, None, refl, sym, ap, ◌∙◌, subst, inl, inr}
use Rattle.std.specs.Prelude.{slice_set}
use mathlib.Core.Option.{some, some-ne-none, some-injective}
use lib.ListN.{get_elem?}
use Rattle.crossbeam_channel.specs.Fifo.{Pushes, Pops}
use Rattle.mp_engine.specs.declared.messages.message.Subject.{Ghosts}
use Rattle.mp_engine.specs.declared.messages.message.Heading.{Heading}
use Rattle.mp_engine.specs.declared.messages.message.Message.{Message}
use Rattle.mp_engine.specs.declared.messages.line_rule.Known.{Known}
use Rattle.mp_engine.specs.declared.messages.line_rule.Known.TheVariants.{Whole, Sends, Takes}
use Rattle.mp_engine.specs.messages.LineRules.{last_heading, Keeps}

is_sender : (sent taken last : Option Heading) (pass : ℕ) → get_elem? (Sends sent ∷ Takes taken ∷ []) pass ≡ some (Sends last) → pass ≡ 0
is_sender sent taken last zero at = refl
is_sender sent taken last (suc zero) at = absurd (let e = some-injective _ _ at in let no : ⊥ = cc in no)
is_sender sent taken last (suc (suc pass)) at = absurd (some-ne-none (Sends last) (sym at))

is_taker : (sent taken last : Option Heading) (pass : ℕ) → get_elem? (Sends sent ∷ Takes taken ∷ []) pass ≡ some (Takes last) → pass ≡ 1
is_taker sent taken last zero at = absurd (let e = some-injective _ _ at in let no : ⊥ = cc in no)
is_taker sent taken last (suc zero) at = refl
is_taker sent taken last (suc (suc pass)) at = absurd (some-ne-none (Takes last) (sym at))

not_cut : (v : Known) (pass : ℕ) → get_elem? (Whole ∷ []) pass ≡ some v → v ≡ Whole
not_cut v zero at = sym (some-injective _ _ at)
not_cut v (suc pass) at = absurd (some-ne-none v (sym at))

module _ {J : Type 0} {subject : Ghosts J} where
  last_push : (taken : Option Heading) (messages : List (Message J subject)) (message : Message J subject) → last_heading taken (messages ++ message ∷ []) ≡ Some message.heading
  last_push taken [] message = refl
  last_push taken (first ∷ messages) message = last_push (Some first.heading) messages message

  pub begins : Keeps {subject = subject} [] (Whole ∷ [])
  begins = inl (refl, refl)

  cut_at : (views : List Known) (pass : ℕ) (messages : List (Message J subject)) → views ≡ Whole ∷ [] → messages ≡ [] → get_elem? (Whole ∷ []) pass ≡ some Whole → Keeps messages (slice_set views pass (Sends None) ++ Takes None ∷ [])
  cut_at views zero messages is none at = inr (None, ap (λ vs. slice_set vs zero (Sends None) ++ Takes None ∷ []) is ∙ ap (λ (xs : List (Message J subject)). Sends (last_heading None xs) ∷ Takes None ∷ []) (sym none))
  cut_at views (suc pass) messages is none at = absurd (some-ne-none Whole (sym at))

  pub sends : (n pass : ℕ) (v : Known) (last : Option Heading) (message : Message J subject) → v ≡ Sends last → Pushes (Keeps {subject = subject}) n pass v message (λ w. w ≡ Sends (Some message.heading))
  sends n pass v last message is messages views room keeps at = (Sends (Some message.heading), kept, refl)
    where
      here : get_elem? views pass ≡ some (Sends last)
      here = at ∙ ap some is

      kept : Keeps (messages ++ message ∷ []) (slice_set views pass (Sends (Some message.heading)))
      kept = elim keeps as (λ _. Keeps (messages ++ message ∷ []) (slice_set views pass (Sends (Some message.heading)))) [
        | inl whole ↦ absurd (let e = not_cut (Sends last) pass (subst (λ vs. get_elem? vs pass ≡ some (Sends last)) whole.0 here) in let no : ⊥ = cc in no)
        | inr cut ↦
            let first = is_sender (last_heading cut.0 messages) cut.0 last pass (subst (λ vs. get_elem? vs pass ≡ some (Sends last)) cut.1 here) in
            inr (
              cut.0,
              ap (λ (vs : List Known). slice_set vs pass (Sends (Some message.heading))) cut.1
                  ∙ ap (λ k. slice_set (Sends (last_heading cut.0 messages) ∷ Takes cut.0 ∷ []) k (Sends (Some message.heading))) first
                  ∙ ap (λ sent. Sends sent ∷ Takes cut.0 ∷ []) (sym (last_push cut.0 messages message)),
            )
      ]

  pub takes : (pass : ℕ) (v : Known) (last : Option Heading) → v ≡ Takes last → Pops (Keeps {subject = subject}) pass v (λ message w. w ≡ Takes (Some message.heading))
  takes pass v last is message messages views keeps at = (Takes (Some message.heading), kept, refl)
    where
      here : get_elem? views pass ≡ some (Takes last)
      here = at ∙ ap some is

      kept : Keeps messages (slice_set views pass (Takes (Some message.heading)))
      kept = elim keeps as (λ _. Keeps messages (slice_set views pass (Takes (Some message.heading)))) [
        | inl whole ↦ absurd (let e = whole.1 in let no : ⊥ = cc in no)
        | inr cut ↦
            let second = is_taker (last_heading (Some message.heading) messages) cut.0 last pass (subst (λ vs. get_elem? vs pass ≡ some (Takes last)) cut.1 here) in
            inr (
              Some message.heading,
              ap (λ (vs : List Known). slice_set vs pass (Takes (Some message.heading))) cut.1
                  ∙ ap (λ k. slice_set (Sends (last_heading (Some message.heading) messages) ∷ Takes cut.0 ∷ []) k (Takes (Some message.heading))) second,
            )
      ]
