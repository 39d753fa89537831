-- The work of a story's last edit.
use Rattle.std.specs.Prelude.{◌≡◌, ◌⊎◌, List, []}
use Rattle.mp_records.specs.declared.edit.Edit.{Edit}
use Rattle.mp_depend.specs.declared.work.work_entry.WorkEntry.{WorkEntry}
use Rattle.mp_depend.specs.work.Work.{IsWork}
use Rattle.mp_version.specs.Stories.{Story, one_more, present}

-- before the first edit there is no work; else it is the work from the version before the last edit
abbrev pub IsLastWork : Story → List WorkEntry → Type 0
IsLastWork story work =
    ((story.edits ≡ []) × (work ≡ []))
    ⊎ ((before : Story) × (edit : Edit) × (story ≡ one_more before edit) × IsWork (present before) (present story) work)
