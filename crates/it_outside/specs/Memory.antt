-- Sources and sinks in memory, as contracts see them, and their states after a call.
use Rattle.std.specs.Prelude.{ℕ, ◌≡◌, ◌-◌, ◌<◌, ◌⊎◌, List, [], ◌++◌, length, min, take, drop, Contains, Result, Ok, Err}
use Rattle.it_outside.specs.Causes.{next_count}
use Rattle.it_outside.specs.declared.ends.Failed.{Failed}

-- a source
pub record MemorySourceView : Type 0 where
  -- the bytes that are left
  pub left : List ℕ
  -- the most bytes that a call gives
  pub step : ℕ
  -- the numbers of the calls that fail, from 1
  pub failing : List ℕ
  -- the numbers of calls and of failed calls so far
  pub calls : ℕ
  pub faults : ℕ

-- the source before its first call
abbrev pub new_source : List ℕ → ℕ → List ℕ → MemorySourceView
new_source bytes step failing = record { left = bytes; step = step; failing = failing; calls = 0; faults = 0 }

-- the next call is one of those that fail
abbrev pub ReadFails : MemorySourceView → Type 0
ReadFails s = Contains s.failing (next_count s.calls)

-- the number of bytes that a read into a buffer of length room gives
abbrev pub read_count : MemorySourceView → ℕ → ℕ
read_count s room = min (min s.step room) (length s.left)

-- the source after a read with this result
abbrev pub after_read : MemorySourceView → Result ℕ Failed → MemorySourceView
after_read s (Ok count) = record s { left = drop count s.left; calls = next_count s.calls }
after_read s (Err failed) = record s { calls = next_count s.calls; faults = next_count s.faults }

-- a sink
pub record MemorySinkView : Type 0 where
  -- the bytes that it took
  pub bytes : List ℕ
  -- the number of further bytes that space is reserved for
  pub room : ℕ
  -- the most bytes that a call takes
  pub step : ℕ
  -- the numbers of the calls that fail, from 1
  pub failing : List ℕ
  -- the numbers of calls and of failed calls so far
  pub calls : ℕ
  pub faults : ℕ

-- the sink before its first call
abbrev pub new_sink : ℕ → List ℕ → MemorySinkView
new_sink step failing = record { bytes = []; room = 0; step = step; failing = failing; calls = 0; faults = 0 }

-- the next call is one of those that fail, or has bytes and no space for them
abbrev pub WriteFails : MemorySinkView → List ℕ → Type 0
WriteFails s piece = Contains s.failing (next_count s.calls) ⊎ ((0 < length piece) × (s.room ≡ 0))

-- the number of bytes of a piece that a write takes
abbrev pub write_count : MemorySinkView → List ℕ → ℕ
write_count s piece = min (min s.step (length piece)) s.room

-- the sink after a write of this piece with this result
abbrev pub after_write : MemorySinkView → List ℕ → Result ℕ Failed → MemorySinkView
after_write s piece (Ok count) = record s { bytes = s.bytes ++ take count piece; room = s.room - count; calls = next_count s.calls }
after_write s piece (Err failed) = record s { calls = next_count s.calls; faults = next_count s.faults }
