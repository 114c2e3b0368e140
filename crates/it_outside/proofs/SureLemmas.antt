-- A write of more bytes than there was space for.
use Rattle.std.proofs.Common.{◌≡◌, ℕ, ◌+◌, ◌<◌, ◌||◌, true, List, ◌++◌, length, take, nat_lt, sym, ap, ◌∙◌, arith, length-append}
use Rattle.std.proofs.Math.Seq.{take-append-add}
use Rattle.std.proofs.lemmas.Bool.{lt-ltb}
use Rattle.it_outside.specs.Sure.{SureSinkView, after_sure_write}

-- the bytes kept, and as many of the piece as there was space for, are the first bytes of both
kept_prefix : (limit : ℕ) (kept piece : List ℕ) (n : ℕ) → length kept + n ≡ limit → kept ++ take n piece ≡ take limit (kept ++ piece)
kept_prefix limit kept piece n room = sym (take-append-add kept piece n) ∙ ap (λ k. take k (kept ++ piece)) room

-- the sink that kept these has more
pub after_more : (s : SureSinkView) (piece new : List ℕ) (n : ℕ) → length s.kept + n ≡ s.limit → n < length piece → new ≡ s.kept ++ take n piece
    → record { limit = s.limit; kept = new; more = true } ≡ after_sure_write s piece
after_more s piece new n room more is =
    let passed : nat_lt s.limit (length (s.kept ++ piece)) ≡ true = lt-ltb s.limit (length (s.kept ++ piece))
    (simp length-append (omega (arith, room, more))) in
    ap (λ k. record s { kept = k; more = true }) (is ∙ kept_prefix s.limit s.kept piece n room)
    ∙ ap (λ b. record s { kept = take s.limit (s.kept ++ piece); more = b || s.more }) (sym passed)
