-- What a call that succeeded or failed tells.
use Rattle.std.proofs.Common.{◌≡◌, ◌⊎◌, inl, inr, Bool, true, false, Result, Ok, Err, is_err, subst, sym}
use Rattle.std.specs.Prelude.{OnOk, OnErr}
use Rattle.mp_records.specs.declared.edit.Edit.{Edit}
use Rattle.mp_records.specs.declared.edit_error.EditError.TheVariants.{OutOfMemory}
use Rattle.mp_netlist.specs.Circuit.{Circuit}
use Rattle.mp_version.specs.Stories.{Story, judged}
use Rattle.mp_desk.specs.Keepers.{MayBeLost, NotAccepted}
use Rattle.mp_desk.specs.declared.submit_error.SubmitError.{SubmitError}
use Rattle.mp_desk.specs.declared.submit_error.SubmitError.TheVariants as errors
use Rattle.mp_desk.proofs.RefusalLemmas.{refused_for_memory}

pub on_ok : {T E P : Type 0} (r : Result T E) → is_err r ≡ false → OnOk r P → P
on_ok (Ok x) well p = p
on_ok (Err e) well p = absurd (cc well)

pub on_err : {T E P : Type 0} (r : Result T E) → is_err r ≡ true → OnErr r P → P
on_err (Ok x) err p = absurd (cc err)
on_err (Err e) err p = p

-- an edit that would have been accepted wasn't: memory was wanting, or it couldn't be kept
pub stopped : {K : Type 0} (is_lost : K → Bool) (before seen story : Story) (edit : Edit) (n : Circuit) (error : SubmitError) → seen ≡ story → judged story edit ≡ Ok n
    → (error ≡ errors.Refused OutOfMemory) ⊎ ((error ≡ errors.NotKept) × MayBeLost is_lost) → NotAccepted is_lost before seen edit error
stopped is_lost before seen story edit n error same accepted (inl want) =
    subst (NotAccepted is_lost before seen edit) (sym want) (refused_for_memory before seen story edit n same accepted)
stopped is_lost before seen story edit n error same accepted (inr lost) = subst (NotAccepted is_lost before seen edit) (sym lost.0) lost.1
