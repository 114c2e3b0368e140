-- Sources and sinks that never fail, as contracts see them, and their states after a call. Contracts see a source as the bytes that
-- are left.
use Rattle.std.specs.Prelude.{ℕ, Bool, false, ◌||◌, List, [], ◌++◌, length, take, nat_lt, Option, Some, None, if◌then◌else◌}

-- a sink
pub record SureSinkView : Type 0 where
  -- the most bytes that it keeps
  pub limit : ℕ
  -- the first bytes that it took, up to the limit
  pub kept : List ℕ
  -- whether it took more
  pub more : Bool

-- the sink before its first call
abbrev pub new_sure_sink : ℕ → SureSinkView
new_sure_sink limit = record { limit = limit; kept = []; more = false }

-- the bytes that it took, where it kept all of them
abbrev pub bytes_told : SureSinkView → Option (List ℕ)
bytes_told s = if s.more then None else Some s.kept

-- the sink after a write of this piece
abbrev pub after_sure_write : SureSinkView → List ℕ → SureSinkView
after_sure_write s piece = record s {
  kept = take s.limit (s.kept ++ piece);
  more = nat_lt s.limit (length (s.kept ++ piece)) || s.more;
}
