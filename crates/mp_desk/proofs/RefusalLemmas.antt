-- When want of memory may refuse an edit.
use Rattle.std.proofs.Common.{◌≡◌, Bool, true, false, Result, Ok, Err, refl, sym, ap, subst, inl, inr}
use Rattle.std.specs.Prelude.{is_ok, if◌then◌else◌}
use Rattle.mp_records.specs.declared.edit.Edit.{Edit}
use Rattle.mp_records.specs.declared.edit.Edit.TheVariants.{Single, Batch}
use Rattle.mp_records.specs.declared.edit_error.EditError.{EditError}
use Rattle.mp_records.specs.declared.edit_error.EditError.TheVariants.{BadBatch, OutOfMemory}
use Rattle.mp_netlist.specs.Circuit.{Circuit}
use Rattle.mp_netlist.specs.Edits.{after_each, is_batch, may_want}
use Rattle.mp_version.specs.Stories.{Story, present, judged, counted_edit}
use Rattle.mp_desk.specs.Holders.{RefusedAfter}

-- an edit that is accepted may be refused for want of memory
pub may_want_accepted : (story : Story) (edit : Edit) (n : Circuit) → judged story edit ≡ Ok n → may_want edit (judged story edit) ≡ true
may_want_accepted story (Single edit) n accepted = ap (λ (r : Result Circuit EditError). is_ok r) accepted
may_want_accepted story (Batch edits) n accepted = by (is_batch edits) refl accepted
  where
    by : (b : Bool) → is_batch edits ≡ b → counted_edit story.edits (if b then after_each 1 (present story) edits else Err BadBatch) ≡ Ok n → is_batch edits ≡ true
    by true whole same = whole
    by false whole same = absurd (cc same)

-- an edit that is accepted after the edits seen may be refused for want of memory
pub refused_for_memory : (before seen story : Story) (edit : Edit) (n : Circuit) → seen ≡ story → judged story edit ≡ Ok n → RefusedAfter before seen edit OutOfMemory
refused_for_memory before seen story edit n same accepted =
    subst (λ (s : Story). RefusedAfter before s edit OutOfMemory) (sym same) (inl (inr (refl, may_want_accepted story edit n accepted)))
