-- The frame of a search without some rates.
use Rattle.std.proofs.Common.{◌≡◌, ℕ, zero, suc, ◌+◌, ◌^◌, ◌<◌, ◌≤◌, List, [], ◌∷◌, map, length, slice_index_or, Bool, true, false, nat_eq, if◌then◌else◌, sym, ap₂, subst, arith, All}
use Rattle.std.specs.List.{list_any}
use Rattle.std.proofs.lemmas.Nat.{pow_pos}
use Rattle.it_space.specs.declared.spaces.Space.{Space}
use Rattle.it_problems.specs.Problems.{ProblemView, IsProblem}
use Rattle.it_space.specs.Spaces.{size_of}
use Rattle.it_space.proofs.EveryLemmas.{all_of, every-same}
use Rattle.it_outer.specs.declared.types.Frame.{Frame}
use Rattle.it_outer.specs.declared.types.Limits.{Limits}
use Rattle.it_hull.specs.Constants.{constants}
use Rattle.it_hull.specs.KeptRates.{kept_coordinates, rates_left}
use Rattle.it_hull.proofs.KeptLemmas.{first_away, kept_rates, kept_within}
use Rattle.it_outer.specs.Outer.{Search, search_without}
use Rattle.it_outer.specs.Rounds.{ArePlaces, AscendFrom, IsFrame, search_of}
use Rattle.it_outer.specs.Theorems.{IsSearch}

lower_from : (from to : ℕ) (cs : List ℕ) → from ≤ to → AscendFrom to cs → AscendFrom from cs
lower_from from to [] l a = tt
lower_from from to (c ∷ cs) l a = (omega (arith, a.0, l), a.1)

left_ascend : (base : ℕ) (gone : List ℕ) (from count : ℕ) → AscendFrom (base + from) (map (λ r. base + r) (rates_left gone from count))
left_ascend base gone from zero = tt
left_ascend base gone from (suc count) = by_test (list_any (λ r. nat_eq r from) gone)
    (subst (λ k. AscendFrom k (map (λ r. base + r) (rates_left gone (from + 1) count)))
    (let e : base + (from + 1) ≡ base + from + 1 = omega arith in e) (left_ascend base gone (from + 1) count))
  where
    by_test : (b : Bool) → AscendFrom (base + from + 1) (map (λ r. base + r) (rates_left gone (from + 1) count))
        → AscendFrom (base + from) (map (λ r. base + r) (if b then rates_left gone (from + 1) count else from ∷ rates_left gone (from + 1) count))
    by_test true a = lower_from (base + from) (base + from + 1) (map (λ r. base + r) (rates_left gone (from + 1) count)) (omega arith) a
    by_test false a = (omega arith, a)

pub kept_places : (s : Space) (gone : List ℕ) → ArePlaces (size_of s) (kept_coordinates s gone)
kept_places s gone = record {
  within = all_of (λ (c : ℕ). (1 ≤ c) × (c ≤ size_of s)) (kept_coordinates s gone)
      (every-same (λ (c : ℕ). (2 ^ s.variables ≤ c) × (c ≤ size_of s)) (λ c. (1 ≤ c) × (c ≤ size_of s)) (kept_coordinates s gone)
      (λ c l. (omega (arith, l.0, pow_pos s.variables), l.1)) (kept_within s gone));
  ascend = lower_from 0 (2 ^ s.variables + 0) (kept_coordinates s gone) (omega arith) (left_ascend (2 ^ s.variables) gone 0 s.rates);
}

pub without_is_search : (q : ProblemView) (gone : List ℕ) (limits : Limits) → IsProblem q → All (λ r. r < q.space.rates) gone
    → 1 ≤ length gone → limits.rows ≤ 65535 → IsSearch (search_without q gone limits)
without_is_search q gone limits h below some few = record {
  problem = h;
  spare = below 0 0 (omega (arith, some));
  away = first_away q.space gone some;
  rates = kept_rates q.space gone;
  few_rows = few;
}

pub is_frame : (f : Frame) (gone : List ℕ) → IsProblem f.problem.now → All (λ r. r < f.problem.now.space.rates) gone → 1 ≤ length gone → f.limits.rows ≤ 65535
    → f.constants ≡ constants f.problem.now.space → f.spare ≡ slice_index_or gone 0 0
    → f.kept.items ≡ kept_coordinates f.problem.now.space gone → IsFrame f × (search_of f ≡ search_without f.problem.now gone f.limits)
is_frame f gone h below some few constant spare kept =
    let same : search_of f ≡ search_without f.problem.now gone f.limits =
    ap₂ (λ (r : ℕ) (cs : List ℕ). let s : Search = record { problem = f.problem.now; spare = r; kept = cs; limits = f.limits } in s) spare kept in (
      record {
        constants = constant;
        search = subst (λ (s : Search). IsSearch s) (sym same) (without_is_search f.problem.now gone f.limits h below some few);
        places = subst (λ (cs : List ℕ). ArePlaces (size_of f.problem.now.space) cs) (sym kept) (kept_places f.problem.now.space gone);
      },
      same,
    )
