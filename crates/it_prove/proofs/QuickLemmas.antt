-- What the check finds valid is settled.
use Rattle.std.proofs.Common.{◌≡◌, ℤ, List, length, All, sym}
use Rattle.it_number.specs.Limit.{IsWithin}
use Rattle.it_problems.specs.Problems.{ProblemView, IsProblem}
use Rattle.it_space.specs.Answers.{CertificateView}
use Rattle.it_space.specs.Rows.{Terms, IsOver, IsCanonical, point_of}
use Rattle.it_space.specs.Spaces.{size_of}
use Rattle.it_polymatroid.specs.Elementals.{elementals}
use Rattle.it_elemental.specs.Generators.{generators}
use Rattle.it_check.specs.Verdicts.{yes_verdict, no_verdict}
use Rattle.it_check.specs.declared.verdicts.Verdict.TheVariants.{Valid}
use Rattle.it_check.proofs.Truth.{valid_yes_is, valid_no_is}
use Rattle.it_prove.specs.ProofViews.{Yes, No, IsSettled}

module _ (q : ProblemView) (target : Terms) (k : IsProblem q) (u : IsOver (size_of q.space) target) where
  pub settled_yes : (w : CertificateView) → IsCanonical w.weights → IsWithin w.scale
      → Valid ≡ yes_verdict (generators q) (size_of q.space) target w → IsSettled q target (Yes w)
  settled_yes w canonical within e = ((valid_yes_is q target w k u).0 (sym e), canonical, within)

  pub settled_no : (values : List ℤ) → length values ≡ size_of q.space → All IsWithin values
      → Valid ≡ no_verdict (length (elementals q.space.variables)) (generators q) target (point_of values) → IsSettled q target (No values)
  settled_no values l within e = ((valid_no_is q target values k u l).0 (sym e), within)
