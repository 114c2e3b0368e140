-- The verdict on an answer, against the rows of its question's targets, and on the points of rays.
use Rattle.std.specs.Prelude.{ℕ, ℤ, List, [], ◌∷◌, length, Bool, true, false, if◌then◌else◌, get_or}
use Rattle.it_space.specs.Answers.{CertificateView}
use Rattle.it_problems.specs.Problems.{ProblemView}
use Rattle.it_space.specs.Rows.{Terms, point_of}
use Rattle.it_space.specs.Spaces.{size_of}
use Rattle.it_polymatroid.specs.Elementals.{elementals}
use Rattle.it_elemental.specs.Generators.{generators}
use Rattle.it_check.specs.Verdicts.{met_verdict, yes_verdict, no_verdict}
use Rattle.it_check.specs.declared.verdicts.Verdict.{Verdict}
use Rattle.it_spans.specs.Spans.{StepView}
use Rattle.it_check.specs.declared.verdicts.Verdict.TheVariants.{Valid}

-- nothing is wrong
abbrev pub is_valid : Verdict → Bool
is_valid Valid = true
is_valid _ = false

-- the verdict on a certificate of a target's row
abbrev pub proof_verdict : ProblemView → Terms → CertificateView → Verdict
proof_verdict p t w = yes_verdict (generators p) (size_of p.space) t w

-- the verdict on the first certificate whose verdict isn't `Valid`, one certificate for each target in order
unfoldable pub proofs_verdict : ProblemView → List Terms → List CertificateView → Verdict
proofs_verdict p [] ws = Valid
proofs_verdict p (t ∷ ts) [] = Valid
proofs_verdict p (t ∷ ts) (w ∷ ws) = if is_valid (proof_verdict p t w) then proofs_verdict p ts ws else proof_verdict p t w

-- the target that a no is about: the second of an equality where it says `back`, otherwise the first
abbrev pub place_named : Bool → ℕ
place_named back = if back then 1 else 0

-- the verdict on a point against that target
unfoldable pub point_verdict : ProblemView → List Terms → Bool → List ℤ → Verdict
point_verdict p ts back values = no_verdict (length (elementals p.space.variables)) (generators p) (get_or ts (place_named back) []) (point_of values)

-- the verdict on a ray's point, which has to meet the problem
abbrev pub ray_verdict : ProblemView → List ℤ → Verdict
ray_verdict p values = met_verdict (length (elementals p.space.variables)) (generators p) (point_of values)

-- the verdict on the first ray whose verdict isn't `Valid`
unfoldable pub rays_verdict : ProblemView → List StepView → Verdict
rays_verdict p [] = Valid
rays_verdict p (s ∷ steps) = if is_valid (ray_verdict p s.ray) then rays_verdict p steps else ray_verdict p s.ray
