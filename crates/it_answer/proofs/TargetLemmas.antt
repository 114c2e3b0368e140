-- The rows of an answer are the terms of its forms.
use Rattle.std.proofs.Common.{◌≡◌, ℕ, List, [], map, refl, sym, ap, ap₂, ◌∙◌, Result, Ok, Err, IfOk, Vec}
use Rattle.std.specs.Global.{Global}
use Rattle.it_space.specs.declared.answers.Answer.{Answer}
use Rattle.it_space.specs.declared.answers.Certificate.{Certificate}
use Rattle.it_space.specs.declared.answers.Answer.TheVariants as answers
use Rattle.it_space.specs.declared.spaces.Space.{Space}
use Rattle.it_space.specs.Answers.{AnswerView, answer_view}
use Rattle.it_space.specs.Rows.{Terms}
use Rattle.it_space.specs.Spaces.{size_of}
use Rattle.it_syntax.specs.Meaning.{RelationView}
use Rattle.it_question.specs.OwnLines.{RegionView}
use Rattle.it_question.specs.Questions.{BodyView, Prove, Contain}
use Rattle.it_demand.specs.SystemForms.{AreRowsOf}
use Rattle.it_demand.specs.QuestionSpaces.{space_of}
use Rattle.it_question.specs.ProblemLines.{problem_names, names_under}
use Rattle.it_demand.specs.RowsOfForms.{terms_of_form}
use Rattle.it_canon.specs.QuestionDemands.{terms_in}
use Rattle.it_canon.specs.TrueLines.{variable_count}
use Rattle.it_demand.specs.Targets.{targets}
use Rattle.it_demand.proofs.FormRows.{rows_are_terms_of_forms}
use Rattle.it_region.specs.declared.types.Candidate.{Candidate}
use Rattle.it_region.specs.declared.types.Pair.{Pair}
use Rattle.it_region.specs.Obligations.{ArePulledRows, obligations}
use Rattle.it_region.specs.Pairs.{IsPairOf, pair_obligations}
use Rattle.it_region.proofs.TextLemmas.{candidate_parts, pulled_rows_are, text_rows}
use Rattle.it_region.specs.AnswerForms.{answer_forms, answer_forms_by}

-- ---- of a relation

pub relation_rows : {E : Type 0} (q : BodyView) (r : RelationView) (s : Space) (rows : Result (Vec Terms Global) E) → q.verb ≡ Prove r → s ≡ space_of q.names
    → IfOk rows (λ v. AreRowsOf s (targets s.variables r) v.items) → IfOk rows (λ v. v.items ≡ map (terms_in q) (targets (variable_count q) r))
relation_rows q r s (Err e) is space_is a = tt
relation_rows q r s (Ok v) is space_is a = rows_are_terms_of_forms s (targets s.variables r) v.items a
    ∙ ap (λ (t : Space). map (terms_of_form (size_of t)) (targets t.variables r)) same_space
  where
    same_space : s ≡ space_of (problem_names q)
    same_space = space_is ∙ sym (ap (λ m. space_of (names_under q.names m)) is)

-- they are those of an answer about it
pub relation_forms : {E : Type 0} (q : BodyView) (r : RelationView) (answer : AnswerView) (rows : Result (Vec Terms Global) E) → q.verb ≡ Prove r
    → IfOk rows (λ v. v.items ≡ map (terms_in q) (targets (variable_count q) r)) → IfOk rows (λ v. v.items ≡ map (terms_in q) (answer_forms q answer))
relation_forms q r answer (Err e) is a = tt
relation_forms q r answer (Ok v) is a = a ∙ ap (map (terms_in q)) (sym (ap (λ m. answer_forms_by q m answer) is))

-- ---- of a containment

module _ (q : BodyView) (a b : RegionView) (tries : List (List ℕ)) (is : q.verb ≡ Contain a b tries) where
  pub obligation_rows : (p : Pair) (o : IsPairOf q a b p) (c : Candidate) (parts : List ℕ) (rows : List Terms) → candidate_parts c ≡ parts
      → ArePulledRows p.first.space (pair_obligations p c) rows
      → rows ≡ map (terms_in q) (obligations q a b parts)
  obligation_rows p o c parts rows same h = pulled_rows_are p.first.space (obligations q a b (candidate_parts c)) rows (text_rows q a b p o c rows h)
      ∙ ap₂ (λ (t : Space) (zs : List ℕ). map (terms_of_form (size_of t)) (obligations q a b zs))
      (o.first_space ∙ sym (ap (λ m. space_of (names_under q.names m)) is)) same

  pub contained_rows : {E : Type 0} (answer : Answer) (parts : Vec ℕ Global) (proofs : Vec Certificate Global)
      (rows : Result (Vec Terms Global) E) → answer ≡ answers.Contained parts proofs
      → IfOk rows (λ v. v.items ≡ map (terms_in q) (obligations q a b parts.items))
      → IfOk rows (λ v. v.items ≡ map (terms_in q) (answer_forms q (answer_view answer)))
  contained_rows answer parts proofs (Err e) answer_is h = tt
  contained_rows answer parts proofs (Ok v) answer_is h = h ∙ sym (ap₂ (λ m x. map (terms_in q) (answer_forms_by q m x)) is (ap answer_view answer_is))

  pub no_obligations : (answer : Answer) → ((parts : Vec ℕ Global) (proofs : Vec Certificate Global)
      → answer ≡ answers.Contained parts proofs → ⊥) → answer_forms q (answer_view answer) ≡ []
  no_obligations answer not = ap (λ m. answer_forms_by q m (answer_view answer)) is ∙ by_answer answer not
    where
      by_answer : (x : Answer) → ((parts : Vec ℕ Global) (proofs : Vec Certificate Global) → x ≡ answers.Contained parts proofs → ⊥)
          → answer_forms_by q (Contain a b tries) (answer_view x) ≡ []
      by_answer (answers.Yes proofs) n = refl
      by_answer (answers.No is_back point) n = refl
      by_answer (answers.Undecided cause) n = refl
      by_answer (answers.Region rows) n = refl
      by_answer (answers.Contained parts proofs) n = absurd (n parts proofs refl)
      by_answer (answers.Open tried) n = refl
