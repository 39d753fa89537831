-- Spans end to end, and what they depend on.
use Rattle.std.specs.Prelude.{◌≡◌, ℕ, ◌<◌, ◌≤◌, List, [], ◌++◌, length, slice_index_or}
use Rattle.mp_modules.specs.declared.memory.Memory.{Memory}
use Rattle.mp_modules.specs.declared.storage.any_module.AnyModule.{AnyModule}
use Rattle.mp_model.specs.declared.response.piece.Piece.{Piece}
use Rattle.mp_model.specs.response.Span.{IsSpan}

-- one piece and then another as one: the last state, and the findings and the changes of each port in order
pub record IsJoined (one other joined : Piece) : Type 0 where
  pub memory : joined.memory ≡ other.memory
  pub ports : length joined.outputs ≡ length one.outputs
  pub outputs : (p : ℕ) → p < length one.outputs → slice_index_or joined.outputs p [] ≡ slice_index_or one.outputs p [] ++ slice_index_or other.outputs p []
  pub findings : joined.findings ≡ one.findings ++ other.findings

-- a span and the one that goes on from its last state are together one span
abbrev pub JoinsSpans : Type 0
JoinsSpans = (part : AnyModule) (x : ℕ → List ℕ) (s : Memory) (a m b : ℕ) (one other joined : Piece) → a ≤ m → m ≤ b →
    IsSpan part x s a m one → IsSpan part x one.memory m b other → IsJoined one other joined → IsSpan part x s a b joined

-- a span asks for the input levels inside it alone
abbrev pub DependsInside : Type 0
DependsInside = (part : AnyModule) (x y : ℕ → List ℕ) (s : Memory) (a b : ℕ) (piece : Piece) →
    ((t : ℕ) → a ≤ t → t < b → x t ≡ y t) → IsSpan part x s a b piece → IsSpan part y s a b piece

-- there is one span alone from a state, with the same input levels
abbrev pub IsOneSpan : Type 0
IsOneSpan = (part : AnyModule) (x : ℕ → List ℕ) (s : Memory) (a b : ℕ) (one other : Piece) →
    IsSpan part x s a b one → IsSpan part x s a b other → one ≡ other
