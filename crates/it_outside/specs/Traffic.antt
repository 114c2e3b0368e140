-- The bytes that a call took from a source or gave to a sink, where these are known.
use Rattle.std.specs.Prelude.{ℕ, ◌≡◌, ◌<◌, ◌≤◌, List, [], ◌++◌, length, take, None, Some, Option, Result, Ok, Err, ⊤}
use Rattle.std.specs.Io.KnownBytes.{Consumes, IsAtEnd}

-- The sink took bytes, where its bytes are known. They may cease to be known, as those of a sink that keeps a limited number of bytes,
-- and never begin to be.
abbrev pub Gains : Option (List ℕ) → Option (List ℕ) → List ℕ → Type 0
Gains None None bytes = ⊤
Gains None (Some now) bytes = ⊥
Gains (Some before) None bytes = ⊤
Gains (Some before) (Some now) bytes = now ≡ before ++ bytes

-- a write took the first n bytes at `Ok(n)`, and nothing at `Err`
abbrev pub WriteGains : {E : Type 0} → Option (List ℕ) → Option (List ℕ) → Result ℕ E → List ℕ → Type 0
WriteGains old new (Ok n) piece = Gains old new (take n piece)
WriteGains old new (Err e) piece = Gains old new []

-- text begins with part
abbrev pub IsPrefix : List ℕ → List ℕ → Type 0
IsPrefix part text = (rest : List ℕ) × (text ≡ part ++ rest)

-- bytes are all that a source gave, up to its end
pub record Gave (old new : Option (List ℕ)) (bytes : List ℕ) : Type 0 where
  pub given : Consumes old new bytes
  pub ended : IsAtEnd new

-- a source gave more than limit bytes
pub record GaveMore (old new : Option (List ℕ)) (limit : ℕ) : Type 0 where
  pub bytes : List ℕ
  pub given : Consumes old new bytes
  pub more : limit < length bytes

-- a source gave at most limit bytes
pub record GaveAtMost (old new : Option (List ℕ)) (limit : ℕ) : Type 0 where
  pub bytes : List ℕ
  pub given : Consumes old new bytes
  pub few : length bytes ≤ limit

-- a sink took a prefix of text and nothing else
pub record TookPrefix (old new : Option (List ℕ)) (text : List ℕ) : Type 0 where
  pub part : List ℕ
  pub taken : Gains old new part
  pub prefix : IsPrefix part text
