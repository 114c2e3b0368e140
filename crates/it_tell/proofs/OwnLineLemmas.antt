-- The lines of a containment's second region.
use Rattle.std.proofs.Common.{◌≡◌, ◌↔◌, ℕ, zero, suc, ◌+◌, ◌-◌, ◌<◌, ◌≤◌, ◌^◌, ◌==◌, ℤ, pos, ◌≤ℤ◌, inl, inr, ◌⊎◌, Bool, false, None, Some, List, [], ◌∷◌, ◌++◌, append-nil, append_assoc, map, take, drop, length, get_or, if◌then◌else◌, codes, refl, sym, ap, ap₂, subst, subst₂, ◌∙◌, arith, drop-cons, length-append, length-drop, ne_eqb}
use Rattle.std.specs.Prelude.{All}
use Rattle.std.specs.List.{AllZip, zip}
use Rattle.std.proofs.lemmas.List.Elements.{All-cons, All-head, All-nil, All-tail}
use Rattle.std.proofs.lemmas.Bool.{true≢false}
use Rattle.it_outside.specs.Groups.{Groups}
use Rattle.it_space.specs.declared.spaces.Space.{Space}
use Rattle.it_space.specs.declared.answers.Certificate.{Certificate}
use Rattle.it_problems.specs.declared.problems.Constraint.{Constraint}
use Rattle.it_problems.specs.declared.problems.Kind.{Kind}
use Rattle.it_problems.specs.declared.problems.Kind.TheVariants.{Inequality, Equation}
use Rattle.it_problems.specs.declared.problems.Origin.{Origin}
use Rattle.it_problems.specs.Problems.{IsMet, IsProblem, ProblemView}
use Rattle.it_space.specs.Answers.{CertificateView, certificate_view}
use Rattle.it_space.specs.Answers.AnswerView.{Contained}
use Rattle.it_space.specs.Rows.{IsOver, Terms, value}
use Rattle.it_space.specs.Spaces.{IsSpace, size_of}
use Rattle.it_polymatroid.specs.Certificates.{Form}
use Rattle.it_elemental.specs.Generators.{generators}
use Rattle.it_syntax.specs.NamesViews.{NamesView}
use Rattle.it_demand.specs.Demands.{Demand}
use Rattle.it_demand.specs.Origins.{AreStated, States}
use Rattle.it_demand.specs.QuestionSpaces.{space_of}
use Rattle.it_demand.specs.Targets.{inequalities_of}
use Rattle.it_demand.proofs.ZipLemmas.{zip-length, zip-right}
use Rattle.it_question.specs.Limits.{IsQuestion}
use Rattle.it_question.specs.LineDemands.{line_demands}
use Rattle.it_question.specs.LineOrigins.{line_origins}
use Rattle.it_question.specs.ProblemLines.{problem_names}
use Rattle.it_question.specs.Questions.{BodyView, VerbView, Prove, Eliminate, Contain}
use Rattle.it_canon.proofs.QuestionLemmas.{space_is}
use Rattle.it_check.specs.Verdicts.{yes_verdict}
use Rattle.it_check.specs.declared.verdicts.Verdict.{Verdict}
use Rattle.it_check.specs.declared.verdicts.Verdict.TheVariants.{Valid}
use Rattle.it_check.proofs.Truth.{valid_yes_is, yes_is_true}
use Rattle.it_print.specs.Lines.{part_for}
use Rattle.it_region.specs.AnswerForms.{answer_forms_by}
use Rattle.it_region.specs.Obligations.{ArePulledRows, IsPulledRow, demand_obligations, pulled_form}
use Rattle.it_region.specs.Pulling.{pulled_coordinate, substituted_sets}
use Rattle.it_terms.specs.Tells.{TellsForms}
use Rattle.it_tell.specs.OwnLines.{OwnLine, demanded_forms, own_line, own_line_comment, own_lines_by, sets_with, verb_lines}
use Rattle.it_tell.specs.Settings.{is_plain}
use Rattle.it_tell.specs.Steps.{AppendsDetails, AppendsEach, AppendsEachOwnLine, AppendsObligation, AppendsOwnLine, AppendsOwnProofs, AppendsProof, AreObligations, AreOwnConstraints, AreOwnConstraintsBy, AreRowsFor, HasObligations, IsFreeProblem, SaysOrNothing, obliged}
use Rattle.it_tell.specs.Tellings.{AreContainedLines, AreDetails, AreOwnLineTexts, Each, IsByShannon, TellsObligation, indented_line, obligation_lines}
use Rattle.it_tell.specs.declared.settings.Options.{Options}
use Rattle.it_tell.specs.declared.settings.Style.{Style}
use Rattle.it_tell.specs.declared.settings.Style.TheVariants.{Plain, Named, Whole}

-- ---- what Shannon's inequalities alone say

-- a space of the question's problem without constraints is a problem
pub free_problem : (q : BodyView) (p : ProblemView) → IsQuestion q → p.space ≡ space_of (problem_names q) → p.constraints ≡ [] → IsProblem p
free_problem q p question space none = record {
  space = subst IsSpace (sym space) (space_is q question);
  rows = subst (λ (cs : List Constraint). All (λ c. IsOver (size_of p.space) c.row) cs) (sym none) (All-nil (λ c. IsOver (size_of p.space) c.row));
  few = subst (λ (cs : List Constraint). length cs ≤ 2 ^ 20) (sym none) (omega arith);
}

-- what a valid certificate from elemental inequalities alone proves
pub valid_is_by_shannon : (p : ProblemView) (row : Terms) (w : CertificateView) (v : Verdict) → IsProblem p → p.constraints ≡ [] → IsOver (size_of p.space) row
    → v ≡ yes_verdict (generators p) (size_of p.space) row w → v ≡ Valid → IsByShannon p.space.variables (value row)
valid_is_by_shannon p row w v posed none over is valid q k =
    yes_is_true p row w posed over ((valid_yes_is p row w posed over).0 (sym is ∙ valid)).0 q k
    (subst (λ (cs : List Constraint). All (IsMet q) cs) (sym none) (All-nil (IsMet q)))

-- such an obligation has no lines
pub obligation_free : (q : BodyView) (options : Options) (s : Space) (row : Terms) (w : CertificateView) (old : List ℕ)
    → s ≡ space_of (problem_names q) → IsByShannon s.variables (value row) → AppendsObligation q options (value row, w) old old
unfolding AppendsObligation
obligation_free q options s row w old e is = (None, (subst (λ (t : Space). IsByShannon t.variables (value row)) e is, sym (append-nil old)))

pub obligation_proved : (q : BodyView) (options : Options) (row : Terms) (w : CertificateView) (old new : List ℕ)
    → AppendsProof q options (value row, w) old new → AppendsObligation q options (value row, w) old new
unfolding AppendsObligation
obligation_proved q options row w old new h = (Some h.texts, (h.are, h.new_is))

-- ---- the comment

-- one more set that stands for an auxiliary variable
pub sets_more : (variables names : List (List ℕ)) (sets : List ℕ) (from i : ℕ) (out mid new all : List ℕ) → from + i < length names → i < length sets
    → mid ≡ out ++ (if i == 0 then codes " with" else codes ",") → new ≡ mid ++ part_for variables (get_or names (from + i) []) (get_or sets i 0) → out ++ sets_with (i == 0) variables (drop (from + i) names) (drop i sets) ≡ all
    → new ++ sets_with (i + 1 == 0) variables (drop (from + (i + 1)) names) (drop (i + 1) sets) ≡ all
sets_more variables names sets from i out mid new all named set m n e =
    ap (λ (t : List ℕ). new ++ t) rest_is ∙ ap (λ (t : List ℕ). t ++ rest) (n ∙ ap (λ (t : List ℕ). t ++ here) m)
    ∙ append_assoc (out ++ before) here rest ∙ append_assoc out before (here ++ rest)
    ∙ ap (λ (t : List ℕ). out ++ t) (sym (append_assoc before here rest) ∙ sym next) ∙ e
  where
    before : List ℕ
    before = if i == 0 then codes " with" else codes ","

    here : List ℕ
    here = part_for variables (get_or names (from + i) []) (get_or sets i 0)

    rest : List ℕ
    rest = sets_with false variables (drop (suc (from + i)) names) (drop (suc i) sets)

    next : sets_with (i == 0) variables (drop (from + i) names) (drop i sets) ≡ before ++ here ++ rest
    next = ap₂ (λ (ns : List (List ℕ)) (ss : List ℕ). sets_with (i == 0) variables ns ss) (drop-cons names (from + i) [] named) (drop-cons sets i 0 set)

    rest_is : sets_with (i + 1 == 0) variables (drop (from + (i + 1)) names) (drop (i + 1) sets) ≡ rest
    rest_is =
        let place : from + (i + 1) ≡ suc (from + i) = omega arith in
        let later : i + 1 ≡ suc i = omega arith in
        ap (λ (b : Bool). sets_with b variables (drop (from + (i + 1)) names) (drop (i + 1) sets)) (ne_eqb (i + 1) 0 (λ z. omega (arith, z)))
        ∙ ap₂ (λ (k j : ℕ). sets_with false variables (drop k names) (drop j sets)) place later

-- ---- a line

-- forms are at least 0 where their rows are
forms_by_rows : (s : Space) (p : ℕ → ℤ) → p 0 ≡ pos 0 → (fs : List Form) (rows : List Terms) → ArePulledRows s fs rows
    → All (λ (f : Form). pos 0 ≤ℤ f p) (map value rows) ↔ All (λ (f : Form). pos 0 ≤ℤ f p) fs
forms_by_rows s p z [] [] a = (λ h. h, λ h. h)
forms_by_rows s p z [] (row ∷ rows) a = absurd a
forms_by_rows s p z (f ∷ fs) [] a = absurd a
forms_by_rows s p z (f ∷ fs) (row ∷ rows) a =
    let P : Form → Type 0 = λ (g : Form). pos 0 ≤ℤ g p in
    let same : value row p ≡ f p = a.0.same p z in
    let more = forms_by_rows s p z fs rows a.1 in (
      λ h. All-cons P f fs (subst (λ (x : ℤ). pos 0 ≤ℤ x) same (All-head P (value row) (map value rows) h))
          (more.0 (All-tail P (value row) (map value rows) h)),
      λ h. All-cons P (value row) (map value rows) (subst (λ (x : ℤ). pos 0 ≤ℤ x) (sym same) (All-head P f fs h)) (more.1 (All-tail P f fs h)),
    )

-- what a text says of rows, it says of their forms
says_of_forms : (v : NamesView) (forms : List Form) (rows : List Terms) (text : List ℕ) → AreRowsFor forms rows
    → SaysOrNothing v (map value rows) text → TellsForms v forms text ⊎ (text ≡ [])
unfolding AreRowsFor SaysOrNothing
says_of_forms v forms rows text are (inl t) = inl (record {
  relation = t.relation;
  is = t.is;
  same = λ p z. let e = forms_by_rows are.0 p z forms rows are.1 in (λ h. e.0 ((t.same p z).0 h), λ h. (t.same p z).1 (e.1 h));
})
says_of_forms v forms rows text are (inr e) = inr e

zip_front : {X Y : Type 0} (xs : List X) (ys : List Y) → zip xs (take (length xs) ys) ≡ zip xs ys
zip_front [] [] = refl
zip_front [] (y ∷ ys) = refl
zip_front (x ∷ xs) [] = refl
zip_front (x ∷ xs) (y ∷ ys) = ap (λ (ps : List _). (x, y) ∷ ps) (zip_front xs ys)

-- the comment of a line is appended, and below it its proofs
pub own_line_appended : (q : BodyView) (options : Options) (parts : List ℕ) (origin : Origin) (rows : List Terms)
    (ws : List CertificateView) (relation below comment old mid new : List ℕ)
    → SaysOrNothing (problem_names q) (map value rows) relation → AppendsOwnProofs q options rows ws [] below
    → comment ≡ own_line_comment q parts origin relation (length below == 0) → mid ≡ old ++ indented_line comment
    → new ≡ mid ++ below → AppendsOwnLine q options parts origin rows ws old new
unfolding AppendsEach AppendsOwnLine AppendsOwnProofs
own_line_appended q options parts origin rows ws relation below comment old mid new says proved c m n = λ forms are. (
  indented_line (own_line_comment q parts origin relation (length below == 0)) ++ below,
  (
    record {
      relation = relation;
      proofs = below;
      says = says_of_forms (problem_names q) forms rows relation are says;
      are = proofs_are
          forms are;
      out_is = refl;
    },
    n ∙ ap (λ (t : List ℕ). t ++ below) (m ∙ ap (λ (t : List ℕ). old ++ indented_line t) c)
        ∙ append_assoc old (indented_line (own_line_comment q parts origin relation (length below == 0))) below,
  ),
)
  where
    proofs_are : (forms : List Form) → AreRowsFor forms rows → Each obligation_lines (TellsObligation q options) (zip forms (take (length forms) ws)) below
    proofs_are forms are =
        let told = proved forms are in
        subst (λ (out : List ℕ). Each obligation_lines (TellsObligation q options) (zip forms (take (length forms) ws)) out) (sym told.1.1)
        (subst (λ (ps : List (Form × CertificateView)). Each obligation_lines (TellsObligation q options) ps told.0) (sym (zip_front forms ws)) told.1.0)

-- ---- items one after the other

module _ {X A : Type 0} (shown : A → List ℕ) (tells : X → A → Type 0) where
  -- what is shown doesn't depend on the items' numbers
  renumbered : (j k : ℕ) (items : List X) (out : List ℕ)
      → Groups (λ (s : Unit {0}) (x : X) (a : A). tells x a) (λ (s : Unit {0}) (x : X) (a : A). s)
      (λ (k : ℕ) (x : X) (a : A). shown a) j tt items tt out
      → Groups (λ (s : Unit {0}) (x : X) (a : A). tells x a) (λ (s : Unit {0}) (x : X) (a : A). s) (λ (k : ℕ) (x : X) (a : A). shown a) k tt items tt out
  renumbered j k [] out g = g
  renumbered j k (x ∷ xs) out g = (g.0, g.1, g.2, renumbered (j + 1) (k + 1) xs g.1 g.3, g.4)

  none_told : (old : List ℕ) → AppendsEach shown tells [] old old
  unfolding AppendsEach
  none_told old = ([], ((refl, refl), sym (append-nil old)))

  first_told : (x : X) (a : A) (xs : List X) (old now new : List ℕ) → tells x a → now ≡ old ++ shown a → AppendsEach shown tells xs now new
      → AppendsEach shown tells (x ∷ xs) old new
  unfolding AppendsEach
  first_told x a xs old now new t e h = (
    shown a ++ h.0,
    (
      (a, h.0, t, renumbered 1 (1 + 1) xs h.0 h.1.0, refl),
      h.1.1
          ∙ ap (λ (b : List ℕ). b ++ h.0) e ∙ append_assoc old (shown a) h.0,
    ),
  )

-- ---- all lines

zip_halves : {X Y : Type 0} (R : X → Y → Type 0) (xs us : List X) (ys : List Y) → AllZip R (xs ++ us) ys
    → AllZip R xs (take (length xs) ys) × AllZip R us (drop (length xs) ys)
zip_halves R [] us ys a = (tt, a)
zip_halves R (x ∷ xs) us [] a = absurd a
zip_halves R (x ∷ xs) us (y ∷ ys) a = let more = zip_halves R xs us ys a.1 in ((a.0, more.0), more.1)

front_of_front : {X Y : Type 0} (f : X → Y) (n : ℕ) (xs : List X) → take n (map f (take n xs)) ≡ take n (map f xs)
front_of_front f zero xs = refl
front_of_front f (suc n) [] = refl
front_of_front f (suc n) (x ∷ xs) = ap (λ (ys : List _). f x ∷ ys) (front_of_front f n xs)

map_rest : {X Y : Type 0} (f : X → Y) (n : ℕ) (xs : List X) → map f (drop n xs) ≡ drop n (map f xs)
map_rest f zero xs = refl
map_rest f (suc n) [] = refl
map_rest f (suc n) (x ∷ xs) = map_rest f n xs

obliged_counted : (f : ℕ → ℕ) (d : Demand) (k : Kind) → k ≡ d.kind → length (demanded_forms f d) ≡ obliged k
obliged_counted f d k e = by_kind d.kind ∙ ap obliged (sym e)
  where
    by_kind : (k : Kind) → length (inequalities_of k (pulled_form f d.form)) ≡ obliged k
    by_kind Inequality = refl
    by_kind Equation = refl

abbrev line_with : List Form → Origin → List CertificateView → OwnLine
line_with forms origin proofs = record { origin = origin; forms = forms; proofs = proofs }

pub no_line : (q : BodyView) (options : Options) (parts : List ℕ) (rows : List Terms) (ws : List CertificateView) (old : List ℕ)
    → AppendsEachOwnLine q options parts [] rows ws old old
unfolding AppendsEachOwnLine
no_line q options parts rows ws old = λ s t f os ds are pulled. by_lines s f os ds are
  where
    by_lines : (s : Space) (f : ℕ → ℕ) (os : List Origin) (ds : List Demand) → AreStated s os ds []
        → AppendsEach (λ lines. lines) (AreOwnLineTexts q options parts) (own_lines_by f os ds ws) old old
    by_lines s f [] [] are = none_told (λ lines. lines) (AreOwnLineTexts q options parts) old
    by_lines s f [] (d ∷ ds) are = absurd are.stated
    by_lines s f (o ∷ os) ds are = absurd are.placed

-- the first line, and then the others
pub line_more : (q : BodyView) (options : Options) (parts : List ℕ) (c : Constraint) (cs : List Constraint) (rows : List Terms)
    (proofs : List Certificate) (old now new : List ℕ)
    → AppendsOwnLine q options parts c.origin (take (obliged c.kind) rows) (map certificate_view (take (obliged c.kind) proofs)) old now
    → AppendsEachOwnLine q options parts cs (drop (obliged c.kind) rows) (map certificate_view (drop (obliged c.kind) proofs)) now new
    → AppendsEachOwnLine q options parts (c ∷ cs) rows (map certificate_view proofs) old new
unfolding AppendsEachOwnLine AppendsOwnLine AreRowsFor
line_more q options parts c cs rows proofs old now new first later = λ s t f os ds are pulled. by_lines s t f os ds are pulled
  where
    ws : List CertificateView
    ws = map certificate_view proofs

    by_lines : (s t : Space) (f : ℕ → ℕ) (os : List Origin) (ds : List Demand) → AreStated s os ds (c ∷ cs)
        → ArePulledRows t (demand_obligations f ds) rows
        → AppendsEach (λ lines. lines) (AreOwnLineTexts q options parts) (own_lines_by f os ds ws) old new
    by_lines s t f [] ds are pulled = absurd are.placed
    by_lines s t f (o ∷ os) [] are pulled = absurd are.stated
    by_lines s t f (o ∷ os) (d ∷ ds) are pulled =
        let fs : List Form = demanded_forms f d in
        let counted : length fs ≡ obliged c.kind = obliged_counted f d c.kind are.stated.0.kind in
        let halves = zip_halves (IsPulledRow t) fs (demand_obligations f ds) rows pulled in
        let told = first fs (t, subst (λ (j : ℕ). ArePulledRows t fs (take j rows)) counted halves.0) in
        let proofs_are : take (length fs) (map certificate_view (take (obliged c.kind) proofs)) ≡ take (length fs) ws =
        subst (λ (j : ℕ). take (length fs) (map certificate_view (take j proofs)) ≡ take (length fs) ws) counted
        (front_of_front certificate_view (length fs) proofs) in
        let line_is : own_line c.origin fs (map certificate_view (take (obliged c.kind) proofs))
        ≡ own_line o fs ws = ap₂ (line_with fs) are.placed.0 proofs_are in
        let rest_is : map certificate_view (drop (obliged c.kind) proofs)
        ≡ drop (length fs) ws = subst (λ (j : ℕ). map certificate_view (drop j proofs) ≡ drop (length fs) ws) counted
        (map_rest certificate_view (length fs) proofs) in
        first_told (λ lines. lines) (AreOwnLineTexts q options parts) (own_line o fs ws) told.0
        (own_lines_by f os ds (drop (length fs) ws)) old now new (subst (λ (l : OwnLine). AreOwnLineTexts q options parts l told.0)
        line_is told.1.0) told.1.1
        (subst (λ (ps : List CertificateView). AppendsEach (λ lines. lines) (AreOwnLineTexts q options parts) (own_lines_by f os ds ps) now new) rest_is
        (later s t f os ds (record { placed = are.placed.1; stated = are.stated.1 })
        (subst (λ (j : ℕ). ArePulledRows t (demand_obligations f ds) (drop j rows)) counted halves.1)))

-- a list from a place on
rest_from : {X : Type 0} (xs : List X) (i : ℕ) (x : X) → i < length xs → x ≡ get_or xs i x → drop i xs ≡ x ∷ drop (i + 1) xs
rest_from {X} xs i x h read = let next : suc i ≡ i + 1 = omega arith in drop-cons xs i x h ∙ ap₂ (λ (y : X) (j : ℕ). y ∷ drop j xs) (sym read) next

-- the line at a place, and then those behind it
pub lines_go_on : (q : BodyView) (options : Options) (parts : List ℕ) (own : List Constraint) (i : ℕ) (c : Constraint) (rows : List Terms)
    (proofs : List Certificate) (old now new : List ℕ) → i < length own → c ≡ get_or own i c
    → AppendsOwnLine q options parts c.origin (take (obliged c.kind) rows) (map certificate_view (take (obliged c.kind) proofs)) old now
    → AppendsEachOwnLine q options parts (drop (i + 1) own) (drop (obliged c.kind) rows) (map certificate_view (drop (obliged c.kind) proofs)) now new
    → AppendsEachOwnLine q options parts (drop i own) rows (map certificate_view proofs) old new
lines_go_on q options parts own i c rows proofs old now new h read first later =
    subst (λ (cs : List Constraint). AppendsEachOwnLine q options parts cs rows (map certificate_view proofs) old new)
    (sym (rest_from own i c h read)) (line_more q options parts c (drop (i + 1) own) rows proofs old now new first later)

-- `lines_go_on` where a call has split the rows and the proofs
pub lines_after : (q : BodyView) (options : Options) (parts : List ℕ) (own : List Constraint) (i : ℕ) (c : Constraint)
    (rows front back : List Terms) (proofs proofs_front proofs_back : List Certificate) (count : ℕ) (old now new : List ℕ)
    → i < length own → c ≡ get_or own i c → count ≡ obliged c.kind → front ≡ take count rows → back ≡ drop count rows
    → proofs_front ≡ take count proofs → proofs_back ≡ drop count proofs
    → AppendsOwnLine q options parts c.origin front (map certificate_view proofs_front) old now
    → AppendsEachOwnLine q options parts (drop (i + 1) own) back (map certificate_view proofs_back) now new
    → AppendsEachOwnLine q options parts (drop i own) rows (map certificate_view proofs) old new
lines_after q options parts own i c rows front back proofs proofs_front proofs_back count old now new h read e f b pf pb first later =
    lines_go_on q options parts own i c rows proofs old now new h read
    (subst₂ (λ (rs : List Terms) (ps : List Certificate). AppendsOwnLine q options parts c.origin rs (map certificate_view ps) old now)
    (f ∙ ap (λ (k : ℕ). take k rows) e) (pf ∙ ap (λ (k : ℕ). take k proofs) e) first)
    (subst₂ (λ (rs : List Terms) (ps : List Certificate). AppendsEachOwnLine q options parts (drop (i + 1) own) rs
    (map certificate_view ps) now new) (b ∙ ap (λ (k : ℕ). drop k rows) e) (pb ∙ ap (λ (k : ℕ). drop k proofs) e) later)

-- the obligations of the constraints from a place on
pub obligations_go_on : (own : List Constraint) (i : ℕ) (c : Constraint) (count : ℕ) → i < length own → c ≡ get_or own i c
    → HasObligations (drop i own) count → (obliged c.kind ≤ count) × HasObligations (drop (i + 1) own) (count - obliged c.kind)
obligations_go_on own i c count h read all = subst (λ (cs : List Constraint). HasObligations cs count) (rest_from own i c h read) all

-- the obligations of the constraints
obligations_there : (s t : Space) (f : ℕ → ℕ) (ds : List Demand) (cs : List Constraint) (rows : List Terms) → AllZip (States s) ds cs
    → ArePulledRows t (demand_obligations f ds) rows → HasObligations cs (length rows)
obligations_there s t f [] [] [] a b = refl
obligations_there s t f [] [] (row ∷ rows) a b = absurd b
obligations_there s t f [] (c ∷ cs) rows a b = absurd a
obligations_there s t f (d ∷ ds) [] rows a b = absurd a
obligations_there s t f (d ∷ ds) (c ∷ cs) rows a b =
    let fs : List Form = demanded_forms f d in
    let counted : length fs ≡ obliged c.kind = obliged_counted f d c.kind a.0.kind in
    let all : length rows ≡ length (fs ++ demand_obligations f ds) = zip-length (IsPulledRow t) (fs ++ demand_obligations f ds) rows b in
    let rest : length (drop (length fs) rows) ≡ length rows - obliged c.kind = length-drop (length fs) rows ∙ ap (λ (k : ℕ). length rows - k) counted in (
      omega (arith, all, counted, length-append fs (demand_obligations f ds)),
      subst (HasObligations cs) rest (obligations_there s t f ds cs (drop (length fs) rows) a.1
          (zip_halves (IsPulledRow t) fs (demand_obligations f ds) rows b).1),
    )

-- ---- a containment

module _ (q : BodyView) (parts : List ℕ) (ws : List CertificateView) (cs : List Constraint) (rows : List Terms) where
  pub all_obligations_there : AreOwnConstraints q cs → AreObligations q (Contained parts ws) rows → HasObligations cs (length rows)
  all_obligations_there own are = by_verb q.verb own are
    where
      by_verb : (verb : VerbView) → AreOwnConstraintsBy verb cs
          → ArePulledRows (space_of (problem_names q)) (answer_forms_by q verb (Contained parts ws)) rows → HasObligations cs (length rows)
      by_verb (Prove r) own are = absurd own
      by_verb (Eliminate rates) own are = absurd own
      by_verb (Contain a b tries) own are =
          obligations_there (space_of b.names) (space_of (problem_names q))
          (pulled_coordinate (length a.names.variables) (length b.names.variables) (substituted_sets (length q.names.variables) parts))
          (line_demands (length b.names.variables) b.lines) cs rows own.stated are

  -- lines that aren't plain
  pub lines_details : (options : Options) (old new : List ℕ) → is_plain options.style ≡ false → AreOwnConstraints q cs
      → AreObligations q (Contained parts ws) rows → AppendsEachOwnLine q options parts cs rows ws old new
      → AppendsDetails q options (Contained parts ws) old new
  unfolding AppendsDetails AppendsEach AppendsEachOwnLine AreContainedLines AreDetails
  lines_details options old new lines own are h = by_style options.style refl
    where
      by_verb : (verb : VerbView) → AreOwnConstraintsBy verb cs
          → ArePulledRows (space_of (problem_names q)) (answer_forms_by q verb (Contained parts ws)) rows
          → AppendsEach (λ lines. lines) (AreOwnLineTexts q options parts) (verb_lines q verb parts ws) old new
      by_verb (Prove r) own are = absurd own
      by_verb (Eliminate rates) own are = absurd own
      by_verb (Contain a b tries) own are =
          h (space_of b.names) (space_of (problem_names q)) (pulled_coordinate (length a.names.variables) (length b.names.variables)
          (substituted_sets (length q.names.variables) parts))
          (line_origins (length b.names.variables) b.lines) (line_demands (length b.names.variables) b.lines) own are

      by_style : (style : Style) → options.style ≡ style → (details : List ℕ) × (AreContainedLines q options style parts ws details × (new ≡ old ++ details))
      by_style Plain e = absurd (true≢false (ap is_plain (sym e) ∙ lines))
      by_style Named e = by_verb q.verb own are
      by_style Whole e = by_verb q.verb own are

-- the obligations' rows are over the coordinates of the problem without constraints
pub rows_over : (q : BodyView) (free : ProblemView) (parts : List ℕ) (ws : List CertificateView) (rows : List Terms) → IsFreeProblem q free
    → AreObligations q (Contained parts ws) rows → All (IsOver (size_of free.space)) rows
rows_over q free parts ws rows is are =
    subst (λ (s : Space). All (IsOver (size_of s)) rows) (sym is.space)
    (zip-right (IsPulledRow (space_of (problem_names q))) (IsOver (size_of (space_of (problem_names q))))
    (λ f row pulled. pulled.coordinates) (answer_forms_by q q.verb (Contained parts ws)) rows are)
