-- The sets of auxiliaries, place by place.
use Rattle.std.specs.List.{list_all}
use Rattle.std.proofs.Common.{◌≡◌, ℕ, zero, suc, ◌<◌, ◌≤◌, true, false, [], ◌∷◌, length, drop, Option, Some, None, refl, ap, arith}
use Rattle.std.specs.Prelude.{is_some, slice_index_or, slice_set}
use Rattle.it_question.specs.TrySets.{Sets, unnamed_sets, is_named, with_set}

pub named_at : (sets : Sets) (i : ℕ) (d : Option ℕ) → i < length sets → is_named sets i ≡ is_some (slice_index_or sets i d)
named_at [] i d lt = absurd (omega arith)
named_at (s ∷ sets) zero d lt = refl
named_at (s ∷ sets) (suc i) d lt = named_at sets i d (omega arith)

pub named_past : (sets : Sets) (i : ℕ) → length sets ≤ i → is_named sets i ≡ true
named_past [] i le = refl
named_past (s ∷ sets) zero le = absurd (omega arith)
named_past (s ∷ sets) (suc i) le = named_past sets i (omega arith)

pub set_at : (sets : Sets) (i set : ℕ) → i < length sets → with_set sets i set ≡ slice_set sets i (Some set)
set_at [] i set lt = absurd (omega arith)
set_at (s ∷ sets) zero set lt = refl
set_at (s ∷ sets) (suc i) set lt = ap (λ (t : Sets). s ∷ t) (set_at sets i set (omega arith))

pub set_past : (sets : Sets) (i set : ℕ) → length sets ≤ i → with_set sets i set ≡ sets
set_past [] i set le = refl
set_past (s ∷ sets) zero set le = absurd (omega arith)
set_past (s ∷ sets) (suc i) set le = ap (λ (t : Sets). s ∷ t) (set_past sets i set (omega arith))

pub whole_step : (sets : Sets) (i : ℕ) (d : Option ℕ) → i < length sets → is_some (slice_index_or sets i d) ≡ true
    → list_all is_some (drop i sets) ≡ list_all is_some (drop (suc i) sets)
whole_step [] i d lt e = absurd (omega arith)
whole_step (None ∷ sets) zero d lt e = absurd cc
whole_step (Some s ∷ sets) zero d lt e = refl
whole_step (s ∷ sets) (suc i) d lt e = whole_step sets i d (omega arith) e

pub whole_stop : (sets : Sets) (i : ℕ) (d : Option ℕ) → i < length sets → is_some (slice_index_or sets i d) ≡ false → list_all is_some (drop i sets) ≡ false
whole_stop [] i d lt e = absurd (omega arith)
whole_stop (None ∷ sets) zero d lt e = refl
whole_stop (Some s ∷ sets) zero d lt e = absurd cc
whole_stop (s ∷ sets) (suc i) d lt e = whole_stop sets i d (omega arith) e

pub all_unnamed : (n : ℕ) → ¬ (n ≡ 0) → ¬ (n ≡ 1) → ¬ (n ≡ 2) → ¬ (n ≡ 3) → unnamed_sets n ≡ None ∷ None ∷ None ∷ None ∷ []
all_unnamed zero a b c d = absurd (a refl)
all_unnamed (suc zero) a b c d = absurd (b refl)
all_unnamed (suc (suc zero)) a b c d = absurd (c refl)
all_unnamed (suc (suc (suc zero))) a b c d = absurd (d refl)
all_unnamed (suc (suc (suc (suc n)))) a b c d = refl

pub ruleset set_lemmas = (named_at, named_past, set_at, set_past, whole_step, whole_stop)
