use Rattle.std.proofs.Common.{◌≡◌, ◌==◌, ◌++◌, ℕ, Bool, false, cond, codes, decimal, sym, ap, ◌∙◌}
use Rattle.std.proofs.lemmas.Bool.{ne_eqb}
use Rattle.mp_questions.proofs.lemmas.causes.WhyLemmas.{puts_text}
use Rattle.mp_check.specs.Briefs.{times_text, units_text}
use Rattle.mp_check.specs.Problems.{time_of}
use Rattle.mp_check.specs.declared.group.Group.{Group}
use Rattle.mp_check.proofs.brief.TimesText.put_to.Goals as goal

several : (g : Group) (first : ℕ) → first ≡ time_of g.first → (g.count == 1) ≡ false
    → codes " " ++ (decimal g.count ++ (codes " times, first " ++ (decimal first ++ (codes ", last " ++ (decimal g.last ++ units_text g.first (codes ", worst ") g.worst))))) ≡ times_text g
several g first is more =
    ap (λ (t : ℕ). codes " " ++ (decimal g.count ++ (codes " times, first " ++ (decimal t ++ (codes ", last " ++ (decimal g.last ++ units_text g.first (codes ", worst ") g.worst)))))) is
    ∙ sym (ap (λ (b : Bool). cond b (codes " 1 time, at " ++ (decimal g.last ++ units_text g.first (codes ", by ") g.worst))
    (codes " " ++ (decimal g.count ++ (codes " times, first " ++ (decimal (time_of g.first) ++ (codes ", last " ++ (decimal g.last ++ units_text g.first (codes ", worst ") g.worst))))))) more)

pub returns : goal.returns
returns g c = puts_text (several c.args.self.now.group c.time.result c.time.ensures (ne_eqb _ _ c.if-group-eq1.false)) c.put_to-2.ensures
