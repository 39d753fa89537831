use Rattle.std.proofs.Common.{Option, Some, None, IfSome, ap, sym, subst, ◌∙◌}
use Rattle.mp_netlist.specs.Circuit.{Circuit, IsModule, module_at}
use Rattle.mp_partition.proofs.lemmas.regions.RegionLemmas.{module_here, module_elsewhere, module_form}
use Rattle.mp_partition.proofs.regions.region.Region.module.Goals as goal

pub returns-then-partition_of-self-clause-value : goal.returns-then-partition_of-self-clause-value
returns-then-partition_of-self-clause-value c =
    let inside = c.self.inside in
    let home = sym c.partition_of.ensures ∙ c.if-partition_of-self.true in
    c.module.ensures.value ∙ sym (module_here inside.netlist.now inside.homes.now inside.part inside.heard.now c.args.id.0 home) ∙ ap (λ (n : Circuit). module_at n c.args.id.0) c.self.view_is

pub returns-else-partition_of-self-clause-value : goal.returns-else-partition_of-self-clause-value
returns-else-partition_of-self-clause-value c =
    let inside = c.self.inside in
    sym (module_elsewhere inside.netlist.now inside.homes.now inside.part inside.heard.now c.args.id.0 (λ home. c.if-partition_of-self.false (c.partition_of.ensures ∙ home)))
    ∙ ap (λ (n : Circuit). module_at n c.args.id.0) c.self.view_is

if_some : {A : Type 0} (found : Option A) (P Q : A → Type 0) → ((x : A) → P x → Q x) → IfSome found P → IfSome found Q
if_some None P Q f holds = tt
if_some (Some x) P Q f holds = f x holds

pub returns-then-partition_of-self-clause-form : goal.returns-then-partition_of-self-clause-form
returns-then-partition_of-self-clause-form c =
    let inside = c.self.inside in
    if_some c.module.result _ _ (λ found is. subst (λ (n : Circuit). IsModule n found.now) c.self.view_is (module_form inside.netlist.now inside.homes.now inside.part inside.heard.now found.now is)) c.module.ensures.form
