-- Rows that hold and are the hull of rays are exact bounds.
use Rattle.std.proofs.Common.{ℕ, ℤ, List, arith}
use Rattle.std.proofs.lemmas.Int.{ints}
use Rattle.std.proofs.lemmas.List.Elements.{All-weaker}
use Rattle.it_space.specs.Rows.{point_of}
use Rattle.it_canon.specs.TrueLines.{AreTrueTogether}
use Rattle.it_hull.specs.Hulls.{IsAttained}
use Rattle.it_hull.specs.Theorems.{MeetsProblem}
use Rattle.it_hull.proofs.ConeLemmas.{hull_is_projection}
use Rattle.it_rates.specs.Asked.{kept_rates, under_all_lines}
use Rattle.it_rates.specs.Bounds.{IsTrueRay}
use Rattle.it_rates.specs.Theorems.{HullIsExact}
use Rattle.it_rates.proofs.AskedLemmas.{meets_true, true_meets}

-- what is attained where P holds is attained where Q does, if Q follows from P
attained_same : (kept : List ℕ) (P Q : (ℕ → ℤ) → Type 0) (x : ℕ → ℤ) → ((y : ℕ → ℤ) → P y → Q y) → IsAttained kept P x → IsAttained kept Q x
attained_same kept P Q x f a = record { factor = a.factor; some = a.some; point = a.point; same = a.same; holds = f a.point a.holds }

pub hull_is_exact : HullIsExact
hull_is_exact q p gone rows rays posed hull hold attained =
    let kept = kept_rates q gone in
    let projection = hull_is_projection p kept rows rays hull hold
    (All-weaker (IsTrueRay q) (λ (values : List ℤ). IsAttained kept (MeetsProblem p) (point_of values))
    (λ values r. ray_attained values r) rays attained) in record {
      over = hull.over;
      exact = λ x. (
        λ h. attained_same kept (MeetsProblem p) (AreTrueTogether (under_all_lines q)) x (meets_true q p posed) ((projection x).0 h),
        λ a. (projection x).1 (attained_same kept (AreTrueTogether (under_all_lines q)) (MeetsProblem p) x (true_meets q p posed) a),
      );
      attained = attained;
      spanned = hull.exact;
    }
  where
    ray_attained : (values : List ℤ) → IsTrueRay q values → IsAttained (kept_rates q gone) (MeetsProblem p) (point_of values)
    ray_attained values r = record {
      factor = 1;
      some = omega arith;
      point = point_of values;
      same = λ c m. omega (arith, ints);
      holds
          = true_meets q p posed (point_of values) r.lines_true;
    }
