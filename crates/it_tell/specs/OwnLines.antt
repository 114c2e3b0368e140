-- The lines of a containment's second region, by their obligations where sets stand for the region's auxiliary variables.
use Rattle.std.specs.Prelude.{ℕ, List, [], ◌∷◌, ◌++◌, length, take, drop, codes, ◌==◌, Bool, true, false, if◌then◌else◌}
use Rattle.it_space.specs.Answers.{CertificateView}
use Rattle.it_problems.specs.declared.problems.Origin.{Origin}
use Rattle.it_polymatroid.specs.Certificates.{Form}
use Rattle.it_demand.specs.Demands.{Demand}
use Rattle.it_demand.specs.Targets.{inequalities_of}
use Rattle.it_question.specs.LineDemands.{line_demands}
use Rattle.it_question.specs.LineOrigins.{line_origins}
use Rattle.it_question.specs.Questions.{BodyView, VerbView, Contain}
use Rattle.it_print.specs.Lines.{auxiliary_names, origin_text, part_for, variable_names}
use Rattle.it_region.specs.Obligations.{pulled_form}
use Rattle.it_region.specs.Pulling.{pulled_coordinate, substituted_sets}

-- a line, or a part of one, by its number among the region's own; the forms of its obligations, two for an equation; and their
-- proofs
pub record OwnLine : Type 0 where
  pub origin : Origin
  pub forms : List Form
  pub proofs : List CertificateView

-- a line with the first of these proofs, as many as it has forms
abbrev pub own_line : Origin → List Form → List CertificateView → OwnLine
own_line origin forms ws = record { origin = origin; forms = forms; proofs = take (length forms) ws }

-- the forms of a demand's obligations where each coordinate c of the second region stands for coordinate f c of the first
abbrev pub demanded_forms : (ℕ → ℕ) → Demand → List Form
demanded_forms f d = inequalities_of d.kind (pulled_form f d.form)

-- the lines in order, with the proofs of all obligations, one after the other
abbrev pub own_lines_by : (ℕ → ℕ) → List Origin → List Demand → List CertificateView → List OwnLine
own_lines_by f (o ∷ os) (d ∷ ds) ws = own_line o (demanded_forms f d) ws ∷ own_lines_by f os ds (drop (length (demanded_forms f d)) ws)
own_lines_by f os ds ws = []

-- the lines of a verb's second region, where the question's variables stay and each auxiliary variable stands for a part
abbrev pub verb_lines : BodyView → VerbView → List ℕ → List CertificateView → List OwnLine
verb_lines q (Contain a b tries) parts ws =
    own_lines_by (pulled_coordinate (length a.names.variables) (length b.names.variables) (substituted_sets (length q.names.variables) parts))
    (line_origins (length b.names.variables) b.lines) (line_demands (length b.names.variables) b.lines) ws
verb_lines q verb parts ws = []

abbrev pub own_lines : BodyView → List ℕ → List CertificateView → List OwnLine
own_lines q parts ws = verb_lines q q.verb parts ws

-- ---- their comments

-- the sets of the auxiliary variables, the first of them after ` with` and each other one after a comma
abbrev pub sets_with : Bool → List (List ℕ) → List (List ℕ) → List ℕ → List ℕ
sets_with is_first variables (name ∷ names) (set ∷ sets) =
    (if is_first then codes " with" else codes ",") ++ part_for variables name set ++ sets_with false variables names sets
sets_with is_first variables names sets = []

-- ` with V1:=0, V2:=U2`, nothing where the second region has no auxiliary variable
abbrev pub with_text : BodyView → List ℕ → List ℕ
with_text q parts = sets_with true (variable_names q) (auxiliary_names q.names q.verb) parts

-- a relation after a colon, nothing where there is none
abbrev pub relation_part : List ℕ → List ℕ
relation_part relation = if length relation == 0 then [] else codes ": " ++ relation

-- `# row 5 with V1:=0, V2:=U2: R1 + R2 <= I(X1,U2;Y1)`, and whether it needs nothing but Shannon's inequalities
unfoldable pub own_line_comment : BodyView → List ℕ → Origin → List ℕ → Bool → List ℕ
own_line_comment q parts origin relation is_by_shannon =
    codes "# " ++ origin_text origin ++ with_text q parts ++ relation_part relation ++ (if is_by_shannon then codes ", by Shannon's inequalities" else [])
