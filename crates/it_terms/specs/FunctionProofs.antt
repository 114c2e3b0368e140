-- Texts that tell a proof where functions hold: what these make 0 isn't written (W. W. Armstrong, "Dependency structures of data base
-- relationships", 1974), and other constraints may stand there by the names of their lines.
use Rattle.std.specs.Prelude.{◌≡◌, ◌<◌, ◌^◌, ℕ, ℤ, pos, int_lt, unsigned_abs, ◌+ℤ◌, ◌≤ℤ◌, true, false, List, [], ◌∷◌, ◌++◌, length, All, Bool, if◌then◌else◌, ◌==◌, codes, decimal, slice_index_or}
use Rattle.std.specs.List.{Contains}
use Rattle.it_space.specs.Sets.{IsInside}
use Rattle.it_problems.specs.declared.problems.Origin.{Origin}
use Rattle.it_problems.specs.declared.problems.Origin.TheVariants.{Rate}
use Rattle.it_polymatroid.specs.Certificates.{Form, Generators, IsAllowed, combination}
use Rattle.it_closure.specs.declared.dependences.Dependence.{Dependence}
use Rattle.it_closure.specs.Collapse.{spread_out}
use Rattle.it_syntax.specs.declared.types.Sign.TheVariants.{Equal}
use Rattle.it_syntax.specs.Meaning.{RelationView, common_denominator}
use Rattle.it_syntax.specs.NamesViews.{NamesView}
use Rattle.it_print.specs.Lines.{origin_text}
use Rattle.it_question.specs.Questions.{BodyView}
use Rattle.it_question.specs.ProblemLines.{problem_names}
use Rattle.it_canon.specs.TrueLines.{AreTrueTogether}
use Rattle.it_canon.specs.QuestionDemands.{question_demands, question_origins}
use Rattle.it_terms.specs.Tells.{IsRelationText}
use Rattle.it_terms.specs.Proofs.{IsProofOf, constraints_of, side_form}

-- one of the constraints `lines`, an equation, is 0 only where both sets of `d` have one value; `d.from` is inside `d.to`
pub record IsSaid (n : ℕ) (g : Generators) (lines : List ℕ) (d : Dependence) : Type 0 where
  pub line : ℕ
  pub among : Contains lines line
  pub there : line < g.count
  pub equation : g.is_equation line ≡ true
  pub says : (p : ℕ → ℤ) → p 0 ≡ pos 0 → g.form line p ≡ pos 0 → p d.to ≡ p d.from
  pub inside : IsInside d.from d.to
  pub below : d.to < 2 ^ n

-- two forms have one value at each map that is 0 at the empty set and has one value at sets of one closure
abbrev pub AreSameUnder : ℕ → List Dependence → Form → Form → Type 0
AreSameUnder n ds f g = (p : ℕ → ℤ) → p 0 ≡ pos 0 → f (spread_out n ds p) ≡ g (spread_out n ds p)

-- The equation of n variables, without denominators, has on its left a multiple of the target, on its right terms with a plus
-- over sets and multiples of constraints. With the weights `named` of constraints on its right, negative only for equations, it
-- is true of each map with one value at sets of one closure under the functions that the constraints `lines` say, which are all
-- there.
pub record IsProofUnder (n : ℕ) (lines : List ℕ) (r : RelationView) (named : List (ℕ × ℤ)) (target : Form) (g : Generators) : Type 0 where
  pub equality : r.sign ≡ Equal
  pub whole : common_denominator r ≡ 1
  pub proves : IsProofOf n r target g
  pub allowed : All (IsAllowed g) named
  pub there : All (λ l. l < g.count) lines
  pub functions : List Dependence
  pub said : All (IsSaid n g lines) functions
  pub adds_up : AreSameUnder n functions (side_form n r r.left) (λ p. side_form n r r.right p +ℤ combination named (λ i. g.form i p))

-- the name of the line of a constraint
abbrev pub line_name : List Origin → ℕ → List ℕ
line_name origins line = origin_text (slice_index_or origins line (Rate 0))

-- the text of the sign of a weight: by whether it is the first of its side, and by whether it is negative
abbrev pub weight_sign : Bool → Bool → List ℕ
weight_sign true true = codes "- "
weight_sign true false = []
weight_sign false true = codes " - "
weight_sign false false = codes " + "

-- names of lines, the first of them after a text and each other one after `, `
abbrev pub listed_names : List ℕ → List Origin → Bool → List ℕ → List ℕ
listed_names before origins is_first [] = []
listed_names before origins is_first (l ∷ ls) = (if is_first then before else codes ", ") ++ line_name origins l ++ listed_names before origins false ls

-- the names of lines as a comment behind a text, nothing where there are none
abbrev pub by_comment : List Origin → List ℕ → List ℕ
by_comment origins lines = listed_names (codes "  # by ") origins true lines

-- `n` and a blank, nothing where `n` is 1
abbrev pub times_text : ℕ → List ℕ
times_text n = if n == 1 then [] else decimal n ++ codes " "

-- a weight of a constraint by the name of its line: ` + 2 (row 1)`, as the first of its side or not
unfoldable pub named_weight : List Origin → Bool → ℕ × ℤ → List ℕ
named_weight origins is_first w =
    weight_sign is_first (int_lt w.1 (pos 0)) ++ times_text (unsigned_abs w.1) ++ codes "(" ++ line_name origins w.0 ++ codes ")"

-- the texts `named_weight` of weights, one after the other
abbrev pub named_weights : List Origin → Bool → List (ℕ × ℤ) → List ℕ
named_weights origins is_first [] = []
named_weights origins is_first (w ∷ ws) = named_weight origins is_first w ++ named_weights origins false ws

-- two sides with `=` between them, the right one as `0` where nothing stands there
abbrev pub sides_text : List ℕ → List ℕ → List ℕ
sides_text left right = left ++ codes " = " ++ (if length right == 0 then codes "0" else right)

-- like `sides_text`, with the weights `named` of constraints behind the right side, by the names of their lines
abbrev pub named_sides_text : List Origin → List (ℕ × ℤ) → List ℕ → List ℕ → List ℕ
named_sides_text origins named left right = sides_text left (right ++ named_weights origins (length right == 0) named)

-- under these names the text is the relation `r` with the weights `named` of constraints behind its right side, by the names of
-- their lines
pub record IsNamedText (v : NamesView) (origins : List Origin) (named : List (ℕ × ℤ)) (text : List ℕ) (r : RelationView) : Type 0 where
  pub left : List ℕ
  pub right : List ℕ
  pub is : IsRelationText v (sides_text left right) r
  pub text_is : text ≡ named_sides_text origins named left right

-- under these names the text, with constraints of these weights by name, tells a proof of the target from constraints where the functions
-- hold that these lines say
pub record TellsProofUnder (v : NamesView) (origins : List Origin) (lines : List ℕ) (named : List (ℕ × ℤ)) (target : Form) (g : Generators) (text : List ℕ) : Type 0 where
  pub relation : RelationView
  pub is : IsNamedText v origins named text relation
  pub proves : IsProofUnder (length v.variables) lines relation named target g

-- the text tells a proof of this form from the lines of a question, under the names of its problem
abbrev pub TellsFormUnder : BodyView → List ℕ → List (ℕ × ℤ) → Form → List ℕ → Type 0
TellsFormUnder q lines named target text = TellsProofUnder (problem_names q) (question_origins q) lines named target (constraints_of (question_demands q)) text

-- `text` and `whole` tell a proof of the target where the functions hold that `lines` say, `whole` without naming constraints;
-- `by` is the comment that names these lines
pub record ArePrinted (q : BodyView) (target : Form) (lines : List ℕ) (named : List (ℕ × ℤ)) (text whole by : List ℕ) : Type 0 where
  pub text_tells : TellsFormUnder q lines named target text
  pub whole_tells : TellsFormUnder q lines [] target whole
  pub by_is : by ≡ by_comment (question_origins q) lines

-- What a text tells a proof of where functions hold is at least 0 wherever a polymatroid and rates make the question's lines
-- true.
abbrev pub ToldUnderProves : Type 0
ToldUnderProves = (q : BodyView) (lines : List ℕ) (named : List (ℕ × ℤ)) (target : Form) (text : List ℕ) → TellsFormUnder q lines named target text
    → (p : ℕ → ℤ) → AreTrueTogether q p → pos 0 ≤ℤ target p
