-- What quick runs find of factors is right.
use Rattle.std.proofs.Common.{◌≡◌, ◌≢◌, ℕ, zero, suc, ℤ, pos, negsuc, neg_ℤ, ◌*ℤ◌, ◌≤ℤ◌, ◌<◌, List, length, refl, sym, subst, ◌∙◌, arith}
use Rattle.std.proofs.lemmas.Int.{ints}
use Rattle.it_number.proofs.Integers.{mul_comm, zring}
use Rattle.it_rational.specs.Rational.{Rational, quotient, signed_quotient}
use Rattle.it_rational.proofs.Names.{quotient_names}
use Rattle.it_space.specs.Answers.{CertificateView}
use Rattle.it_problems.specs.Problems.{ProblemView, IsProblem}
use Rattle.it_space.specs.Rows.{Terms, IsOver, point_of, negated_terms, value}
use Rattle.it_space.specs.Spaces.{size_of}
use Rattle.it_space.proofs.TermLemmas.{value-negated_terms}
use Rattle.it_polymatroid.specs.Elementals.{elementals}
use Rattle.it_elemental.specs.Generators.{generators}
use Rattle.it_check.specs.Verdicts.{no_verdict}
use Rattle.it_check.specs.declared.verdicts.Verdict.TheVariants.{Valid}
use Rattle.it_check.proofs.Truth.{valid_no_is}
use Rattle.it_check.specs.Meaning.{CertifiesRow, RefutesRow}
use Rattle.it_best.specs.Ends.{factor_row}
use Rattle.it_best.specs.Factors.{HasNoFactor, IsFactor, IsPoint, ground_of}
use Rattle.it_best.proofs.JudgeSteps.{row_certifies}
use Rattle.it_best.proofs.RowLemmas.{negated_up}
use Rattle.it_factor.specs.declared.quick.Reason.{Reason}
use Rattle.it_factor.specs.declared.quick.Reason.TheVariants.{Tight, Below}
use Rattle.it_factor.specs.QuickSteps.{IsQuickBest, IsReason, answer_by}

-- a fraction in lowest terms is that of its parts
pub ratio_is : (above below : ℤ) → above ≢ pos 0 → pos (signed_quotient below above).den *ℤ below ≡ (signed_quotient below above).num *ℤ above
ratio_is (pos zero) below h = absurd (h refl)
ratio_is (pos (suc d)) below h = across (quotient below (suc d)).num (pos (quotient below (suc d)).den) (pos (suc d)) below
    (quotient_names below (suc d) (omega arith))
  where
    across : (n d a b : ℤ) → n *ℤ a ≡ b *ℤ d → d *ℤ b ≡ n *ℤ a
    across n d a b e = mul_comm d b ∙ sym e
ratio_is (negsuc d) below h = across (quotient (neg_ℤ below) (suc d)).num (pos (quotient (neg_ℤ below) (suc d)).den) (pos (suc d)) below
    (quotient_names (neg_ℤ below) (suc d) (omega arith))
  where
    across : (n d a b : ℤ) → n *ℤ a ≡ neg_ℤ b *ℤ d → d *ℤ b ≡ n *ℤ neg_ℤ a
    across n d a b e = omega (arith, zring, e)

-- a point that refutes a row meets the problem
pub point_is : (q : ProblemView) (row : Terms) (values : List ℤ) → RefutesRow q row values → IsPoint (ground_of q) values
point_is q row values r = record { complete = r.complete; holds = (r.polymatroid, r.met) }

-- a number above 0, as a whole one
one_least : (n : ℕ) → 0 < n → pos 1 ≤ℤ pos n
one_least n h = omega (arith, ints, h)

-- a number with a certificate is a factor, and its reason makes it the answer
pub answer_is_right : (q : ProblemView) (left right : Terms) (x : Rational) (reason : Reason) (w : CertificateView) → IsReason q left right x reason
    → CertifiesRow q (factor_row (size_of q.space) left right x) w → IsQuickBest q left right (answer_by x reason w)
answer_is_right q left right x (Tight values) w i c = (record { factor = factor_is; point = i.point; some = i.some; equal = i.equal }, tt)
  where
    factor_is : IsFactor (ground_of q) (value left) (value right) x.num (pos x.den) w
    factor_is = record { from_one = one_least x.den x.positive; lowest = x.lowest; certified = row_certifies q left right x w c }
answer_is_right q left right x (Below below) w i c
    = ((record { from_one = one_least x.den x.positive; lowest = x.lowest; certified = row_certifies q left right x w c }, i), tt)

-- no factor holds at a point that the check finds valid for the negated right side, where the left side is 0
pub never_is_right : (q : ProblemView) (left right : Terms) (values : List ℤ) → IsProblem q → IsOver (size_of q.space) right → length values ≡ size_of q.space
    → Valid ≡ no_verdict (length (elementals q.space.variables)) (generators q) (negated_terms right) (point_of values) → value left (point_of values) ≡ pos 0
    → HasNoFactor (ground_of q) (value left) (value right) values
never_is_right q left right values k up complete valid zero_there =
    let refutes : RefutesRow q (negated_terms right) values
    = ((valid_no_is q (negated_terms right) values k (negated_up (size_of q.space) right up) complete).0 (sym valid)).0 in record {
      point = point_is q (negated_terms right) values refutes;
      zero = zero_there;
      above = above_zero (value right (point_of values)) (subst (λ (x : ℤ). x ≤ℤ neg_ℤ (pos 1)) (value-negated_terms right (point_of values)) refutes.violated);
    }
  where
    above_zero : (x : ℤ) → neg_ℤ x ≤ℤ neg_ℤ (pos 1) → pos 1 ≤ℤ x
    above_zero x h = omega (arith, ints, h)
