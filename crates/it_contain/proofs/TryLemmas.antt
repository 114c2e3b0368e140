-- One candidate more is tried.
use Rattle.std.proofs.Common.{◌≡◌, ℕ, ◌+◌, ◌<◌, List, [], ◌∷◌, get_or, map, ap, sym, subst, ◌∙◌, Option, Some, None}
use Rattle.it_region.specs.declared.types.Candidate.{Candidate}
use Rattle.it_contain.specs.Proposals.{Plan, plan_after}
use Rattle.it_contain.specs.Search.{Goal, Proofs, IsProof, IsUnproved, IsFirstProved}
use Rattle.it_contain.specs.SearchSteps.{IsPast, Judges, KeepsPending, plans_after_try}
use Rattle.it_contain.proofs.SearchLemmas.{passed_found, passed_more}

pub try_finds : (goal : Goal) (tries : ℕ) (whole rest rest_after : List Candidate) (c : Candidate) (t : ℕ) (w : Proofs) (o : Option Proofs)
    (plans plans_after plans_first : List Plan)
    → Judges goal c o → plans_after ≡ plans_after_try c o plans → o ≡ Some w
    → IsPast goal whole rest t → rest ≡ c ∷ rest_after → t < tries → plans ≡ plans_first
    → IsFirstProved goal tries whole c × IsProof goal c w × (plans_after ≡ map (plan_after c) plans_first)
try_finds goal tries whole rest rest_after c t w o plans plans_after plans_first judges after is passed parts lt same =
    let proof : IsProof goal c w = subst (λ z. Judges goal c z) is judges in (
      passed_found goal tries whole rest rest_after c t w passed parts proof lt,
      proof,
      after ∙ ap (λ z. plans_after_try c z plans) is
          ∙ ap (map (plan_after c)) same,
    )

pub try_fails : (goal : Goal) (c : Candidate) (o : Option Proofs) (lists lists_after : List (List Candidate)) (plans plans_after : List Plan)
    → Judges goal c o → KeepsPending o lists lists_after → plans_after ≡ plans_after_try c o plans → o ≡ None
    → IsUnproved goal c × (lists_after ≡ lists) × (plans_after ≡ plans)
try_fails goal c o lists lists_after plans plans_after judges keeps after is =
    (subst (λ z. Judges goal c z) is judges, subst (λ z. KeepsPending z lists lists_after) is keeps, after ∙ ap (λ z. plans_after_try c z plans) is)

pub try_passes : (goal : Goal) (c : Candidate) (lists lists_after : List (List Candidate)) (whole rest : List Candidate) (i t : ℕ)
    → IsUnproved goal c → lists_after ≡ lists → IsPast goal whole rest t → rest ≡ c ∷ get_or lists i [] → IsPast goal whole (get_or lists_after i []) (t + 1)
try_passes goal c lists lists_after whole rest i t not same passed parts =
    passed_more goal whole rest (get_or lists_after i []) c t passed (parts ∙ ap (λ zs. c ∷ get_or zs i []) (sym same)) not
