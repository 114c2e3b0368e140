-- A question with copies of variables added, and the reasons why it can't have them.
use Rattle.std.specs.Prelude.{◌≡◌, ℕ, ◌+◌, ◌<◌, ◌≤◌, ◌^◌, ◌||◌, nat_le, List, [], ◌∷◌, ◌++◌, length, Option, Some, None, is_some, if◌then◌else◌, option_and_then, bit_or}
use Rattle.std.specs.List.{fold}
use Rattle.std.specs.Option.{option_map_or}
use Rattle.it_space.specs.Sets.{has_member}
use Rattle.it_syntax.specs.NamesViews.{NamesView, index_of}
use Rattle.it_syntax.specs.Givens.{GivenView}
use Rattle.it_question.specs.NewNames.{Variable, is_taken, with_name}
use Rattle.it_question.specs.Questions.{VerbView, Prove, Eliminate, Contain, BodyView}
use Rattle.it_question.specs.declared.sizes.FileLimits.{FileLimits}
use Rattle.it_question.specs.QuestionLimits.{most_lines, names_within}
use Rattle.it_question.specs.TableSizes.{HasTableWithin}
use Rattle.it_copy.specs.declared.types.CopyFault.{CopyFault}
use Rattle.it_copy.specs.declared.types.CopyFault.TheVariants as faults
use Rattle.it_copy.specs.CopyLines.{CopyView}
use Rattle.it_copy.specs.Equations.{copy_equations}

-- the set s with the variables of these names; none if a name isn't that of a variable
abbrev pub set_with : List (List ℕ) → ℕ → List (List ℕ) → Option ℕ
set_with variables s [] = Some s
set_with variables s (w ∷ ws) = option_and_then (λ i. set_with variables (bit_or s (2 ^ i)) ws) (index_of variables w)

-- the variable a and the set s; none if a is in s
abbrev pub unless_member : ℕ → ℕ → Option (ℕ × ℕ)
unless_member a s = if has_member s a then None else Some (a, s)

-- the variable and the set that a copy names; none if a name isn't that of a variable, or if the variable is in the set
unfoldable pub named_parts : NamesView → CopyView → Option (ℕ × ℕ)
named_parts v c = option_and_then (λ a. option_and_then (unless_member a) (set_with v.variables 0 c.over)) (index_of v.variables c.old)

-- The variable that a copy is of and the set that it is over, by their numbers; none where the copy can't be made: its name is taken, a
-- name isn't that of a variable, the variable is in the set, or there are as many variables as a file with these limits allows.
unfoldable pub placed : FileLimits → NamesView → CopyView → Option (ℕ × ℕ)
placed limits v c = if is_taken v c.fresh || nat_le (names_within limits) (length v.variables) then None else named_parts v c

-- the names with that of a copy as the next variable
abbrev pub with_copy : NamesView → CopyView → NamesView
with_copy v c = with_name Variable v c.fresh

-- the names with those of the copies as the next variables, in order
abbrev pub with_copies : NamesView → List CopyView → NamesView
with_copies v cs = fold with_copy v cs

-- the equations of a copy that is the next variable after v, with its variable and its set in `place`
abbrev pub equations_at : NamesView → ℕ × ℕ → List GivenView
equations_at v place = copy_equations (length v.variables) place.0 place.1

-- the equations of copies, in order, which are the next variables after v
abbrev pub equations_of : NamesView → List CopyView → List GivenView
equations_of v [] = []
equations_of v (c ∷ cs) = option_map_or (λ (x : ℕ × ℕ). equations_at v x) (named_parts v c) [] ++ equations_of (with_copy v c) cs

-- the number of the first copy that can't be made, where the first one of the list is number k
abbrev pub first_unplaced : FileLimits → ℕ → NamesView → List CopyView → Option ℕ
first_unplaced limits k v [] = None
first_unplaced limits k v (c ∷ cs) = if is_some (placed limits v c) then first_unplaced limits (k + 1) (with_copy v c) cs else Some k

-- the question with the copies after its variables, and their equations after its givens
abbrev pub extended : BodyView → List CopyView → BodyView
extended q cs = record {
  names = with_copies q.names cs;
  lines = record { givens = q.lines.givens ++ equations_of q.names cs; rows = q.lines.rows };
  verb = q.verb;
}

-- the verb is `prove`
abbrev pub IsProof : VerbView → Type 0
IsProof (Prove r) = Unit {0}
IsProof (Eliminate rates) = ⊥
IsProof (Contain first second tries) = ⊥

-- the question asks for a proof, and each copy can be made
pub record CanBeMade (limits : FileLimits) (q : BodyView) (cs : List CopyView) : Type 0 where
  pub proof : IsProof q.verb
  pub placed : first_unplaced limits 1 q.names cs ≡ None

-- e is the question q with these copies, and is within the limits of a file
pub record IsExtension (limits : FileLimits) (q : BodyView) (cs : List CopyView) (e : BodyView) : Type 0 where
  pub made : CanBeMade limits q cs
  pub few : length e.lines.givens ≤ most_lines
  pub small : HasTableWithin limits e
  pub is : e ≡ extended q cs

-- the reason why a question of a file with these limits can't have copies: the first of these, in their order; or memory ran out
abbrev pub IsMisfit : FileLimits → BodyView → List CopyView → CopyFault → Type 0
IsMisfit limits q cs faults.Memory = Unit {0}
IsMisfit limits q cs faults.Verb = IsProof q.verb → ⊥
IsMisfit limits q cs (faults.Copy k) = IsProof q.verb × (first_unplaced limits 1 q.names cs ≡ Some k)
IsMisfit limits q cs faults.Many = CanBeMade limits q cs × (most_lines < length (extended q cs).lines.givens)
IsMisfit limits q cs faults.Large = CanBeMade limits q cs × (length (extended q cs).lines.givens ≤ most_lines)
    × (HasTableWithin limits (extended q cs) → ⊥)
