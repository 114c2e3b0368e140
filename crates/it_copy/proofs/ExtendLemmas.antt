-- What comes of a question with copies.
use Rattle.std.proofs.Common.{◌≡◌, ◌<◌, ◌≤◌, false, List, ◌++◌, length, None, sym, ap, subst, ◌∙◌, arith}
use Rattle.it_syntax.specs.NamesViews.{NamesView}
use Rattle.it_syntax.specs.Givens.{GivenView}
use Rattle.it_syntax.specs.Meaning.{RelationView}
use Rattle.it_question.specs.Questions.{BodyView, VerbView, Prove}
use Rattle.it_question.specs.Limits.{IsQuestion}
use Rattle.it_question.specs.declared.sizes.FileLimits.{FileLimits}
use Rattle.it_copy.specs.declared.types.CopyFault.{CopyFault}
use Rattle.it_copy.specs.declared.types.CopyFault.TheVariants.{Memory, Verb, Copy, Many, Large}
use Rattle.it_copy.specs.CopyLines.{CopyView}
use Rattle.it_copy.specs.Extensions.{CanBeMade, IsExtension, IsMisfit, IsProof, equations_of, extended, first_unplaced, with_copies}
use Rattle.it_copy.specs.ExtensionSteps.{IsLargeBy, IsPastLimits, IsUnplaced}
use Rattle.it_copy.proofs.LimitLemmas.{extended_is_question}

abbrev body_by : NamesView → List GivenView → List RelationView → VerbView → BodyView
body_by v g rows verb = record { names = v; lines = record { givens = g; rows = rows }; verb = verb }

-- by its parts it is the question with copies
pub built_is : (q : BodyView) (cs : List CopyView) (v : NamesView) (g : List GivenView) (rows : List RelationView) (verb : VerbView)
    → v ≡ with_copies q.names cs → g ≡ q.lines.givens ++ equations_of q.names cs → rows ≡ q.lines.rows → verb ≡ q.verb
    → body_by v g rows verb ≡ extended q cs
built_is q cs v g rows verb ev eg er e =
    ap (λ (u : NamesView). body_by u g rows verb) ev ∙ ap (λ (h : List GivenView). body_by (with_copies q.names cs) h rows verb) eg
    ∙ ap (λ (r : List RelationView). body_by (with_copies q.names cs) (q.lines.givens ++ equations_of q.names cs) r verb) er
    ∙ ap (body_by (with_copies q.names cs) (q.lines.givens ++ equations_of q.names cs) q.lines.rows) e

proof_of : (q : BodyView) (r : RelationView) → q.verb ≡ Prove r → IsProof q.verb
proof_of q r e = subst IsProof (sym e) tt

made_of : (limits : FileLimits) (q : BodyView) (cs : List CopyView) (r : RelationView) → q.verb ≡ Prove r → first_unplaced limits 1 q.names cs ≡ None
    → CanBeMade limits q cs
made_of limits q cs r e placed = record { proof = proof_of q r e; placed = placed }

-- the question with copies keeps the limits where it has few constraints
pub few_is_question : (limits : FileLimits) (q : BodyView) (cs : List CopyView) (r : RelationView) (e : BodyView) → IsQuestion q → q.verb ≡ Prove r
    → first_unplaced limits 1 q.names cs ≡ None → e ≡ extended q cs → length e.lines.givens ≤ 64 → IsQuestion e
few_is_question limits q cs r e within verb placed is few = subst IsQuestion (sym is)
    (extended_is_question limits q cs within (made_of limits q cs r verb placed) (subst (λ (b : BodyView). length b.lines.givens ≤ 64) is few))

-- and then it is the extension
pub extension_of : (limits : FileLimits) (q : BodyView) (cs : List CopyView) (r : RelationView) (e : BodyView) → q.verb ≡ Prove r
    → first_unplaced limits 1 q.names cs ≡ None → e ≡ extended q cs → length e.lines.givens ≤ 64 → IsLargeBy limits e false
    → IsExtension limits q cs e
unfolding IsLargeBy
extension_of limits q cs r e verb placed is few small = record { made = made_of limits q cs r verb placed; few = few; small = small; is = is }

pub past_is_misfit : (limits : FileLimits) (q : BodyView) (cs : List CopyView) (r : RelationView) (e : BodyView) (f : CopyFault) → q.verb ≡ Prove r
    → first_unplaced limits 1 q.names cs ≡ None → e ≡ extended q cs → IsPastLimits limits e f → IsMisfit limits q cs f
unfolding IsLargeBy
past_is_misfit limits q cs r e Memory verb placed is past = tt
past_is_misfit limits q cs r e Verb verb placed is past = absurd past
past_is_misfit limits q cs r e (Copy k) verb placed is past = absurd past
past_is_misfit limits q cs r e Many verb placed is past = (made_of limits q cs r verb placed, subst (λ (b : BodyView). 64 < length b.lines.givens) is past)
past_is_misfit limits q cs r e Large verb placed is past = let moved = subst (λ (b : BodyView). IsPastLimits limits b Large) is past
    in (made_of limits q cs r verb placed, moved.0, moved.1)

pub unplaced_is_misfit : (limits : FileLimits) (q : BodyView) (cs : List CopyView) (r : RelationView) (f : CopyFault) → q.verb ≡ Prove r
    → IsUnplaced limits q.names cs f → IsMisfit limits q cs f
unplaced_is_misfit limits q cs r Memory verb h = tt
unplaced_is_misfit limits q cs r Verb verb h = absurd h
unplaced_is_misfit limits q cs r (Copy k) verb h = (proof_of q r verb, h)
unplaced_is_misfit limits q cs r Many verb h = absurd h
unplaced_is_misfit limits q cs r Large verb h = absurd h
