-- The loop along the way from a set to its closure.
use Rattle.std.proofs.Common.{◌≡◌, ℕ, ◌^◌, ◌<◌, ℤ, List, ◌++◌, Some, None, bit_or, sym, ap, subst, ◌∙◌, All, append-nil}
use Rattle.std.specs.List.{flat_map}
use Rattle.std.proofs.lemmas.List.{append_assoc}
use Rattle.std.proofs.lemmas.Nat.{or_lt}
use Rattle.it_space.specs.Sets.{IsInside}
use Rattle.it_space.proofs.EveryLemmas.{every_of}
use Rattle.it_closure.specs.declared.dependences.Dependence.{Dependence}
use Rattle.it_closure.specs.Closures.{first_open, way}
use Rattle.it_closure.specs.Collapse.{AreDependences}
use Rattle.it_closure.proofs.Insides.{grows}
use Rattle.it_closure.proofs.Ways.{IsOpenOf, open_where, way-end, way-more, some_open}
use Rattle.it_lift.specs.Fits.{WeightSumsFit}
use Rattle.it_lift.specs.Lifts.{turn_moves}
use Rattle.it_space.specs.Sums.{number_at}
use Rattle.it_lift.specs.Sums.{AreWeightsAdded}
use Rattle.it_lift.proofs.SumSteps.{added-append, stops-after, stops-before}

-- what is added on the way from a set on
abbrev pub on_way : ℕ → List Dependence → ℤ → ℕ → List (ℕ × ℤ)
on_way n ds x a = flat_map (turn_moves n x) (way n ds a)

pub record IsWayUnderWay (n : ℕ) (ds : List Dependence) (x : ℤ) (s : ℕ) (old now : List ℤ) (a : ℕ) : Type 0 where
  pub below : a < 2 ^ n
  pub done : List (ℕ × ℤ)
  pub added : AreWeightsAdded old now done
  pub rest : done ++ on_way n ds x a ≡ on_way n ds x s

-- the facts of a step of the way
pub record IsTurn (n : ℕ) (ds : List Dependence) (len a : ℕ) (d : Dependence) : Type 0 where
  pub to_below : d.to < 2 ^ n
  pub known : IsInside d.from a
  pub inside : IsInside d.from d.to
  pub place : d.generator < len
  pub more : a < bit_or a d.to
  pub below : bit_or a d.to < 2 ^ n

pub turn_is : (n : ℕ) (ds : List Dependence) (len a : ℕ) (d : Dependence) → AreDependences n ds → All (λ d. d.generator < len) ds
    → a < 2 ^ n → first_open ds a ≡ Some d → IsTurn n ds len a d
turn_is n ds len a d r p l e =
    let o : IsOpenOf n ds a d = open_where n ds a d r.below e in
    record {
      to_below = o.below;
      known = o.known;
      inside = (some_open (λ d. IsInside d.from d.to) ds a d (every_of (λ d. IsInside d.from d.to) ds r.inside) e).0;
      place = (some_open (λ d. d.generator < len) ds a d (every_of (λ d. d.generator < len) ds p) e).0;
      more = grows a d.to o.new;
      below = or_lt n a d.to l o.below;
    }

turn_then_way : (n : ℕ) (ds : List Dependence) (x : ℤ) (a : ℕ) (d : Dependence) → AreDependences n ds → a < 2 ^ n → first_open ds a ≡ Some d
    → on_way n ds x a ≡ turn_moves n x (a, d) ++ on_way n ds x (bit_or a d.to)
turn_then_way n ds x a d r l e = ap (flat_map (turn_moves n x)) (way-more n ds a d r.below l e)

pub way_goes_on : (n : ℕ) (ds : List Dependence) (x : ℤ) (s : ℕ) (old now new : List ℤ) (a : ℕ) (d : Dependence) → AreDependences n ds
    → first_open ds a ≡ Some d → AreWeightsAdded now new (turn_moves n x (a, d))
    → IsWayUnderWay n ds x s old now a → IsWayUnderWay n ds x s old new (bit_or a d.to)
way_goes_on n ds x s old now new a d r e h u = record {
  below = or_lt n a d.to u.below (open_where n ds a d r.below e).below;
  done = u.done ++ turn_moves n x (a, d);
  added = added-append old now new u.done (turn_moves n x (a, d)) u.added h;
  rest = append_assoc u.done (turn_moves n x (a, d)) (on_way n ds x (bit_or a d.to))
      ∙ ap (λ y. u.done ++ y) (sym (turn_then_way n ds x a d r u.below e)) ∙ u.rest;
}

pub way_stops : (n : ℕ) (ds : List Dependence) (x : ℤ) (s : ℕ) (old now : List ℤ) (a : ℕ) (d : Dependence) → AreDependences n ds
    → first_open ds a ≡ Some d → IsWayUnderWay n ds x s old now a
    → ¬ (WeightSumsFit (number_at now) (turn_moves n x (a, d))) → ¬ (WeightSumsFit (number_at old) (on_way n ds x s))
way_stops n ds x s old now a d r e u h =
    subst (λ (m : List (ℕ × ℤ)). ¬ (WeightSumsFit (number_at old) m)) (ap (λ y. u.done ++ y) (sym (turn_then_way n ds x a d r u.below e)) ∙ u.rest)
    (stops-after old now u.done (turn_moves n x (a, d) ++ on_way n ds x (bit_or a d.to)) u.added
    (stops-before (number_at now) (turn_moves n x (a, d)) (on_way n ds x (bit_or a d.to)) h))

pub way_ends : (n : ℕ) (ds : List Dependence) (x : ℤ) (s : ℕ) (old now : List ℤ) (a : ℕ) → first_open ds a ≡ None
    → IsWayUnderWay n ds x s old now a → AreWeightsAdded old now (on_way n ds x s)
way_ends n ds x s old now a e u = subst (AreWeightsAdded old now) (sym (append-nil u.done)
    ∙ ap (λ y. u.done ++ y) (sym (ap (flat_map (turn_moves n x)) (way-end n ds a u.below e))) ∙ u.rest) u.added
