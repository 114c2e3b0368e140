-- The loop that closes a set.
use Rattle.std.proofs.Common.{◌≡◌, ℕ, ◌-◌, ◌^◌, ◌<◌, ◌≤◌, List, Some, None, get_or, bit_and, bit_or, arith, All}
use Rattle.std.proofs.lemmas.Nat.{or_lt, pow_pos, and_le_r}
use Rattle.it_space.specs.Sets.{IsInside}
use Rattle.it_closure.specs.declared.dependences.Dependence.{Dependence}
use Rattle.it_closure.specs.Closures.{closure, IsClosureOf, first_open}
use Rattle.it_closure.specs.DependencesViews.{DependencesView, AreOfSpace}
use Rattle.it_closure.specs.Collapse.{AreDependences}
use Rattle.it_closure.proofs.Insides.{inside-refl, inside-trans, inside-antisym, or_inside, inside_left, inside_all, grows}
use Rattle.it_closure.proofs.Meets.{closure_is, closure_told}
use Rattle.it_closure.proofs.Ways.{IsOpenOf, open_where, closed_where}
use Rattle.it_polymatroid.proofs.Images.{inside_meet, meet_left}

-- a set between s and its closure
pub record IsOnTheWay (n : ℕ) (ds : List Dependence) (s a : ℕ) : Type 0 where
  pub below : a < 2 ^ n
  pub holds : IsInside s a
  pub inside : IsInside a (closure n ds s)

pub way_start : (n : ℕ) (ds : List Dependence) (s : ℕ) → All (λ d. d.to < 2 ^ n) ds → s < 2 ^ n → IsOnTheWay n ds s s
way_start n ds s b l = record { below = l; holds = inside-refl s; inside = (closure_is n ds s b l).holds }

pub way_more : (n : ℕ) (ds : List Dependence) (s a : ℕ) (d : Dependence) → All (λ d. d.to < 2 ^ n) ds → s < 2 ^ n → first_open ds a ≡ Some d
    → IsOnTheWay n ds s a → IsOnTheWay n ds s (bit_or a d.to)
way_more n ds s a d b l e w =
    let o : IsOpenOf n ds a d = open_where n ds a d b e in
    let is : IsClosureOf n ds s (closure n ds s) = closure_is n ds s b l in
    record {
      below = or_lt n a d.to w.below o.below;
      holds = inside-trans s a (bit_or a d.to) w.holds (inside_left a d.to);
      inside = or_inside a d.to (closure n ds s) w.inside (o.kept (closure n ds s) is.closed (inside-trans d.from a (closure n ds s) o.known w.inside));
    }

pub way_grows : (n : ℕ) (ds : List Dependence) (a : ℕ) (d : Dependence) → All (λ d. d.to < 2 ^ n) ds → first_open ds a ≡ Some d → a < bit_or a d.to
way_grows n ds a d b e = grows a d.to (open_where n ds a d b e).new

pub way_done : (n : ℕ) (ds : List Dependence) (s a : ℕ) → All (λ d. d.to < 2 ^ n) ds → s < 2 ^ n → first_open ds a ≡ None
    → IsOnTheWay n ds s a → a ≡ closure n ds s
way_done n ds s a b l e w = inside-antisym a (closure n ds s) w.inside ((closure_is n ds s b l).least a w.below w.holds (closed_where ds a e))

-- among more variables a set of the n variables has the same closure
pub closure_among : (n m : ℕ) (ds : List Dependence) (s : ℕ) → 2 ^ n ≤ 2 ^ m → All (λ d. d.to < 2 ^ n) ds → s < 2 ^ n → closure m ds s ≡ closure n ds s
closure_among n m ds s k b l =
    let is : IsClosureOf n ds s (closure n ds s) = closure_is n ds s b l in
    closure_told m ds s (closure m ds s) (closure n ds s) (closure_is m ds s (λ i d h. omega (arith, b i d h)) (omega arith)) (record {
      below = omega (arith, is.below);
      holds = is.holds;
      closed = is.closed;
      least = λ a h i c.
          let all : ℕ = 2 ^ n - 1 in
          inside-trans (closure n ds s) (bit_and a all) a
          (is.least (bit_and a all) (omega (arith, and_le_r a all, pow_pos n)) (inside_meet s a all i (inside_all n s l)) (λ i d h j.
          inside_meet (get_or ds i d).to a all (c i d h (inside-trans (get_or ds i d).from (bit_and a all) a j (meet_left a all)))
          (inside_all n (get_or ds i d).to (b i d h))))
          (meet_left a all);
    })

-- the dependences of a problem
pub of_space : (d : DependencesView) → AreOfSpace d → AreDependences d.space.variables d.list
of_space d a = record {
  inside = λ i x h. (a.each i x h).inside;
  below = λ i x h. (a.each i x h).below;
}
