-- The lines below the first one of an answer: the groups of it_outside, in a list of bytes.
use Rattle.std.proofs.Common.{◌≡◌, ℕ, ◌+◌, ◌<◌, ◌≤◌, ℤ, Bool, List, [], ◌++◌, append-nil, append_assoc, length, get_or, refl, sym, ap, subst, subst₂, ◌∙◌, Some}
use Rattle.std.specs.List.{flat_map}
use Rattle.it_outside.proofs.GroupLemmas.{UnderWay, under_way_done, under_way_first, under_way_more}
use Rattle.it_space.specs.Answers.{CertificateView}
use Rattle.it_space.specs.Answers.AnswerView.{No, Undecided, Region, Open}
use Rattle.it_space.specs.Rows.{Terms}
use Rattle.it_space.specs.declared.answers.Cause.{Cause}
use Rattle.it_space.specs.declared.answers.Mark.{Mark}
use Rattle.it_polymatroid.specs.Certificates.{Form}
use Rattle.it_syntax.specs.NamesViews.{NamesView}
use Rattle.it_question.specs.Questions.{BodyView}
use Rattle.it_question.specs.ProblemLines.{problem_names}
use Rattle.it_terms.specs.FunctionProofs.{ArePrinted, TellsFormUnder}
use Rattle.it_tell.specs.Tellings.{AreDetails, ArePrintedSteps, ArePrintedTexts, AreProofTexts, IsMarkedRowText, IsPointText, MayName, indented_line, proof_lines, step_line, told_rows}
use Rattle.it_canon.specs.TrueLines.{variable_count}
use Rattle.it_tell.specs.Steps.{AppendsDetails, AppendsEach, AppendsPoint, AppendsProof, IsStyled}
use Rattle.it_tell.specs.declared.settings.Options.{Options}
use Rattle.it_tell.specs.declared.settings.Style.{Style}
use Rattle.it_tell.specs.declared.settings.Style.TheVariants.{Plain, Named, Whole}

module _ {X A : Type 0} (shown : A → List ℕ) (tells : X → A → Type 0) where
  -- what tells the first i items is appended
  abbrev pub Appended : List ℕ → List ℕ → List X → ℕ → Type 0
  Appended old new items i = UnderWay (λ (s : Unit {0}) (x : X) (a : A). tells x a) (λ (s : Unit {0}) (x : X) (a : A). s)
      (λ (k : ℕ) (x : X) (a : A). shown a) (Some old) (Some new) tt items i tt

  pub none_appended : (old : List ℕ) (items : List X) → Appended old old items 0
  none_appended old items = under_way_first (λ (s : Unit {0}) (x : X) (a : A). tells x a) (λ (s : Unit {0}) (x : X) (a : A). s)
      (λ (k : ℕ) (x : X) (a : A). shown a) (Some old) tt items

  pub appended_more : (old now new : List ℕ) (items : List X) (i : ℕ) (x : X) (a : A) → Appended old now items i → i < length items
      → get_or items i x ≡ x → tells x a → new ≡ now ++ shown a → Appended old new items (i + 1)
  appended_more old now new items i x a u within read told is =
      under_way_more (λ (s : Unit {0}) (x : X) (a : A). tells x a) (λ (s : Unit {0}) (x : X) (a : A). s)
      (λ (k : ℕ) (x : X) (a : A). shown a) (Some old) (Some now) (Some new) tt items i tt x a
      (shown a) u within read told refl is

  pub all_appended : (old new : List ℕ) (items : List X) (i : ℕ) → Appended old new items i → length items ≤ i → AppendsEach shown tells items old new
  unfolding AppendsEach
  all_appended old new items i u all = (
    u.out,
    (
      under_way_done (λ (s : Unit {0}) (x : X) (a : A). tells x a) (λ (s : Unit {0}) (x : X) (a : A). s)
          (λ (k : ℕ) (x : X) (a : A). shown a) (Some old) (Some new) tt items i tt u all,
      u.wrote,
    ),
  )

-- ---- a proof

-- the line of a proof is appended, and then those of its steps
pub proof_appended : (q : BodyView) (options : Options) (proof : Form × CertificateView) (old now new text : List ℕ) (steps : List (List ℕ))
    → AreProofTexts q options proof (record { proof = text; steps = steps })
    → now ≡ old ++ indented_line text → new ≡ now ++ flat_map step_line steps → AppendsProof q options proof old new
unfolding proof_lines
proof_appended q options proof old now new text steps are first then = record {
  texts = record { proof = text; steps = steps };
  are = are;
  new_is = then ∙ ap (λ t. t ++ flat_map step_line steps) first ∙ append_assoc old (indented_line text) (flat_map step_line steps);
}

-- ---- a point

pub point_appended : (v : NamesView) (values : List ℤ) (old new text : List ℕ) → IsPointText v values text → new ≡ old ++ indented_line text
    → AppendsPoint v values old new
unfolding AppendsPoint
point_appended v values old new text is then = (text, (is, then))

-- ---- each answer

pub region_details : (q : BodyView) (options : Options) (rows : List (Mark × Terms)) (old new : List ℕ)
    → AppendsEach indented_line (IsMarkedRowText q options.style) (told_rows options.style (variable_count q) rows) old new
    → AppendsDetails q options (Region rows) old new
unfolding AppendsDetails AppendsEach AreDetails
region_details q options rows old new h = h

pub point_details : (q : BodyView) (options : Options) (back : Bool) (values : List ℤ) (old new : List ℕ)
    → AppendsPoint (problem_names q) values old new → AppendsDetails q options (No back values) old new
unfolding AppendsDetails AppendsPoint AreDetails
point_details q options back values old new h = (indented_line h.0, ((h.0, (h.1.0, refl)), h.1.1))

pub undecided_details : (q : BodyView) (options : Options) (cause : Cause) (old : List ℕ) → AppendsDetails q options (Undecided cause) old old
unfolding AppendsDetails AreDetails
undecided_details q options cause old = ([], (refl, sym (append-nil old)))

pub open_details : (q : BodyView) (options : Options) (tried : ℕ) (old : List ℕ) → AppendsDetails q options (Open tried) old old
unfolding AppendsDetails AreDetails
open_details q options tried old = ([], (refl, sym (append-nil old)))

-- a printed proof in a style, with its steps and with its lines behind it, is texts of a proof
pub styled_is_printed : (q : BodyView) (options : Options) (style : Style) (target : Form) (lines : List ℕ) (named own_named : List (ℕ × ℤ))
    (text whole by own proof : List ℕ) (steps : List (List ℕ)) → options.style ≡ style
    → ArePrinted q target lines named text whole by → IsStyled style named text whole own_named own
    → ArePrintedSteps q options lines own_named own steps → proof ≡ own ++ by
    → ArePrintedTexts q options target (record { proof = proof; steps = steps })
styled_is_printed q options Plain target lines named own_named text whole by own proof steps e printed is told proof_is = absurd is
styled_is_printed q options Named target lines named own_named text whole by own proof steps e printed is told proof_is = record {
  lines = lines;
  named = own_named;
  own = own;
  tells = subst₂ (λ (ws : List (ℕ × ℤ)) (t : List ℕ). TellsFormUnder q lines ws target t) (sym is.0) (sym is.1) printed.text_tells;
  names = subst (λ (s : Style). MayName s own_named) (sym e) tt;
  proof_is = proof_is ∙ ap (λ (b : List ℕ). own ++ b) printed.by_is;
  steps_are = told;
}
styled_is_printed q options Whole target lines named own_named text whole by own proof steps e printed is told proof_is = record {
  lines = lines;
  named = own_named;
  own = own;
  tells = subst₂ (λ (ws : List (ℕ × ℤ)) (t : List ℕ). TellsFormUnder q lines ws target t) (sym is.0) (sym is.1) printed.whole_tells;
  names = subst (λ (s : Style). MayName s own_named) (sym e) is.0;
  proof_is = proof_is ∙ ap (λ (b : List ℕ). own ++ b) printed.by_is;
  steps_are = told;
}
