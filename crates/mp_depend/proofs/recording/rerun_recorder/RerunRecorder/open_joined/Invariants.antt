use Rattle.std.proofs.Common.{◌⊎◌, ℕ, ◌<◌, Bool, slice_index_or}
use Rattle.std.specs.List.{Contains}
use Rattle.mp_records.specs.declared.ids.ModuleId.{ModuleId}
use Rattle.mp_depend.specs.recording.Recorders.{IsSound}
use Rattle.mp_depend.specs.recording.Opened.{HasNoWorkSpan, HaveOpened, HaveJoined}
use Rattle.mp_depend.proofs.lemmas.recording.OpenedLemmas.{AreAllLive}
use Rattle.mp_depend.proofs.recording.rerun_recorder.RerunRecorder.open_joined.Given as goal

-- the modules so far have joined
abbrev pub invariant-loop-id : goal.invariant-loop-id
invariant-loop-id l = record {
  sound : IsSound l.new l.self;
  opened : (now : ℕ → Bool) → AreAllLive l.joined now → HaveOpened l.new l.block l.to now l.fn.self.places.items l.self.places.items l.fn.self.work_spans.items l.self.work_spans.items;
  joined : (now : ℕ → Bool) → AreAllLive l.joined now → HaveJoined l.new l.run l.block now l.fn.self.places.items l.self.places.items l.fn.self.overlays.items l.self.overlays.items;
  done : (now : ℕ → Bool) → AreAllLive l.joined now → (k : ℕ) (d : ModuleId) → k < l.id-index → HasNoWorkSpan l.new now l.self.places.items (slice_index_or l.joined k d).0 → ⊥;
  listed : (now : ℕ → Bool) (m : ℕ) → HasNoWorkSpan l.new now l.fn.self.places.items m → HasNoWorkSpan l.new now l.self.places.items m ⊎ Contains l.self.live.items (record { 0 = m });
  more : (m : ℕ) → Contains l.fn.self.live.items (record { 0 = m }) → Contains l.self.live.items (record { 0 = m });
}
