-- The step from one story to the next.
use Rattle.mp_records.specs.declared.edit.Edit.{Edit}
use Rattle.mp_version.specs.Stories.{Story, one_more}

-- an edit, and the story that it was judged after
pub record Step : Type 0 where
  pub before : Story
  pub edit : Edit

-- the story to which a step leads
abbrev pub story_after : Step → Story
story_after step = one_more step.before step.edit
