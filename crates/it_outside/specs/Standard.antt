-- Adapters over readers and writers, as contracts see them, and their results by the outcomes of the calls below them.
use Rattle.std.specs.Prelude.{ℕ, Bool, ◌≡◌, ◌||◌, List, take, nat_lt, ⊤, Option, Result, Ok, Err, if◌then◌else◌}
use Rattle.std.specs.Io.KnownBytes.{Appends}
use Rattle.it_outside.specs.declared.ends.Failed.{Failed}

-- the reader or writer of an adapter, and the number of its failed calls
pub record Adapter (T : Type 0) : Type 0 where
  pub inner : T
  pub faults : ℕ

-- a writer took the first n bytes of a piece at `Ok(n)`, and some prefix of it at `Err`
abbrev pub PassesOn : {E : Type 0} → Option (List ℕ) → Option (List ℕ) → Result ℕ E → List ℕ → Type 0
PassesOn old new (Ok n) piece = Appends old new (take n piece)
PassesOn old new (Err e) piece = (count : ℕ) × Appends old new (take count piece)

-- the result of a read: what the reader gave, or that it failed
abbrev pub read_answer : {E : Type 0} → Result ℕ E → Result ℕ Failed
read_answer (Ok count) = Ok count
read_answer (Err error) = Err (record {})

-- The result of a write and a flush: what the writer took; or `Failed`, if the write or the flush failed or nothing was taken of a
-- piece that isn't empty.
abbrev pub write_answer : {E : Type 0} → Result ℕ E → Bool → Result ⊤ E → Result ℕ Failed
write_answer (Ok count) is_empty (Ok done) = if nat_lt 0 count || is_empty then Ok count else Err (record {})
write_answer (Ok count) is_empty (Err error) = Err (record {})
write_answer (Err error) is_empty flushed = Err (record {})

-- one call of a reader, and its result
pub record ReadsOnce {R E : Type 0} (Reads : R → Result ℕ E → List ℕ → R → Type 0) (old : R) (result : Result ℕ Failed) (buf : List ℕ) (new : R) : Type 0 where
  pub outcome : Result ℕ E
  pub call : Reads old outcome buf new
  pub is : result ≡ read_answer outcome

-- a write and then a flush of a writer, and the result of both
pub record WritesAndFlushes {W E : Type 0} (Writes : W → List ℕ → Result ℕ E → W → Type 0) (Flushes : W → Result ⊤ E → W → Type 0) (is_empty : Bool) (old : W) (piece : List ℕ) (result : Result ℕ Failed) (new : W) : Type 0 where
  pub between : W
  pub written : Result ℕ E
  pub flushed : Result ⊤ E
  pub write : Writes old piece written between
  pub flush : Flushes between flushed new
  pub is : result ≡ write_answer written is_empty flushed
