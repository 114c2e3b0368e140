-- Steps of reads and writes over one list.
use Rattle.std.proofs.Common.{ap, ◌≡◌, ℕ, ◌+◌, ◌-◌, ◌<◌, ◌≤◌, List, [], ◌++◌, length, take, drop, take-add, Option, Some, None, sym, ◌∙◌, arith, take-append-drop, length-append, append-nil, append_assoc, subst}
use Rattle.std.specs.Io.KnownBytes.{Consumes}
use Rattle.std.proofs.KnownBytes.{Consumes-trans}
use Rattle.std.proofs.lemmas.List.{take_all, length-drop, length-take}
use Rattle.it_outside.specs.Traffic.{Gains, GaveAtMost, GaveMore, TookPrefix}

-- the slice from i on, as code writes it, is all but the first i
pub from_start : (xs : List ℕ) (i : ℕ) → take (length xs - i) (drop i xs) ≡ drop i xs
from_start xs i = take_all (length xs - i) (drop i xs) (simp length-drop (omega arith))

-- a sink that took nothing
pub Gains-nil : (a : Option (List ℕ)) → Gains a a []
Gains-nil None = tt
Gains-nil (Some x) = sym (append-nil x)

-- a sink that took two pieces took them joined
pub Gains-trans : (a b c : Option (List ℕ)) (bs cs : List ℕ) → Gains a b bs → Gains b c cs → Gains a c (bs ++ cs)
Gains-trans None None None bs cs p q = tt
Gains-trans None None (Some z) bs cs p q = absurd q
Gains-trans None (Some y) c bs cs p q = absurd p
Gains-trans (Some x) None None bs cs p q = tt
Gains-trans (Some x) None (Some z) bs cs p q = absurd q
Gains-trans (Some x) (Some y) None bs cs p q = tt
Gains-trans (Some x) (Some y) (Some z) bs cs p q = q ∙ ap (λ l. l ++ cs) p ∙ append_assoc x bs cs

-- a further write: after the first i bytes of a piece the next n
pub Gains-take : (a b c : Option (List ℕ)) (piece : List ℕ) (i n : ℕ) → Gains a b (take i piece)
    → Gains b c (take n (take (length piece - i) (drop i piece))) → Gains a c (take (i + n) piece)
Gains-take a b c piece i n before now =
    rw (take-add i n piece) (Gains-trans a b c (take i piece) (take n (drop i piece)) before (rw (from_start piece i) at now))

-- a write that fails leaves what was written before
pub took_prefix : (a b c : Option (List ℕ)) (piece : List ℕ) (i : ℕ) → Gains a b (take i piece) → Gains b c [] → TookPrefix a c piece
took_prefix a b c piece i before now = record {
  part = take i piece;
  taken = subst (Gains a c) (append-nil (take i piece)) (Gains-trans a b c (take i piece) [] before now);
  prefix = (drop i piece, sym (take-append-drop i piece));
}

-- a further read, which still fits the limit
pub gave_at_most : (a b c : Option (List ℕ)) (bytes buf : List ℕ) (n limit : ℕ) → Consumes a b bytes → Consumes b c (take n buf) → n ≤ length buf
    → length bytes + n ≤ limit → GaveAtMost a c limit
gave_at_most a b c bytes buf n limit before now within few = record {
  bytes = bytes ++ take n buf;
  given = Consumes-trans a b c bytes (take n buf) before now;
  few = simp (length-append, length-take) (omega arith);
}

-- a further read, which passes the limit
pub gave_more : (a b c : Option (List ℕ)) (bytes buf : List ℕ) (n limit : ℕ) → Consumes a b bytes → Consumes b c (take n buf) → n ≤ length buf
    → limit < length bytes + n → GaveMore a c limit
gave_more a b c bytes buf n limit before now within more = record {
  bytes = bytes ++ take n buf;
  given = Consumes-trans a b c bytes (take n buf) before now;
  more = simp (length-append, length-take) (omega arith);
}
