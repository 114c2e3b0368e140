-- Rows that have one sign everywhere.
use Rattle.std.proofs.Common.{◌≡◌, ◌↔◌, ℕ, ◌+◌, ◌<◌, ℤ, pos, ◌≤ℤ◌, Bool, List, [], ◌∷◌, length, map, take, get_or, Result, Ok, Err, IfOk, refl, sym, subst, subst₂}
use Rattle.std.specs.Prelude.{All}
use Rattle.std.specs.Bool.{OnTrue}
use Rattle.std.specs.List.{AllZip}
use Rattle.std.proofs.lemmas.Bool.{OnTrue_at, OnTrue_from}
use Rattle.std.proofs.lemmas.Grind.{take_at_read}
use Rattle.std.proofs.lemmas.List.Elements.{All-cons, All-head, All-nil, All-tail}
use Rattle.it_space.specs.declared.spaces.Space.{Space}
use Rattle.it_space.specs.Rows.{AreLowestTermsOf, Terms, value}
use Rattle.it_polymatroid.specs.Certificates.{Form}
use Rattle.it_syntax.specs.Meaning.{RelationView, common_denominator, side_at}
use Rattle.it_syntax.specs.NamesViews.{NamesView}
use Rattle.it_demand.specs.Canonical.{form_of}
use Rattle.it_demand.specs.SystemForms.{AreRowsOf}
use Rattle.it_demand.specs.Targets.{targets}
use Rattle.it_demand.proofs.MetLemmas.{targets_met}
use Rattle.it_demand.proofs.ZipLemmas.{zip-append}
use Rattle.it_terms.specs.Signs.{AreLeastTogether}
use Rattle.it_terms.specs.Tells.{IsRelationText, SaysForms, TellsForms}

-- rows that are the same in lowest terms
pub least_together : (row other low other_low : Terms) → AreLowestTermsOf row low → AreLowestTermsOf other other_low → low ≡ other_low
    → AreLeastTogether row other
least_together row other low other_low a b e p = (
  λ h. (b.signs p).positive.1 (subst (λ (t : Terms). pos 0 ≤ℤ value t p) e ((a.signs p).positive.0 h)),
  λ h. (a.signs p).positive.1 (subst (λ (t : Terms). pos 0 ≤ℤ value t p) (sym e) ((b.signs p).positive.0 h)),
)

-- one more pair of rows
pub together_more : (rows others : List Terms) (i : ℕ) (row other : Terms) → i < length rows → i < length others → row ≡ get_or rows i row
    → other ≡ get_or others i other → AreLeastTogether row other
    → AllZip AreLeastTogether (take i rows) (take i others) → AllZip AreLeastTogether (take (i + 1) rows) (take (i + 1) others)
together_more rows others i row other inside within is other_is here before =
    subst₂ (λ (xs ys : List Terms). AllZip AreLeastTogether xs ys) (sym (take_at_read rows i row inside).1) (sym (take_at_read others i other within).1)
    (zip-append AreLeastTogether (take i rows) (get_or rows i row ∷ []) (take i others) (get_or others i other ∷ []) before
    (subst₂ (λ (x y : Terms). AreLeastTogether x y) is other_is here, tt))

-- forms are at least 0 where the rows are that have the signs of theirs
least_by_rows : (s : Space) (p : ℕ → ℤ) → p 0 ≡ pos 0 → (fs : List Form) (own rows : List Terms) → AreRowsOf s fs own → AllZip AreLeastTogether own rows
    → All (λ (f : Form). pos 0 ≤ℤ f p) fs ↔ All (λ (f : Form). pos 0 ≤ℤ f p) (map value rows)
least_by_rows s p z [] [] [] a b = (λ h. All-nil (λ (f : Form). pos 0 ≤ℤ f p), λ h. All-nil (λ (f : Form). pos 0 ≤ℤ f p))
least_by_rows s p z [] [] (row ∷ rows) a b = absurd b
least_by_rows s p z [] (x ∷ own) rows a b = absurd a
least_by_rows s p z (f ∷ fs) [] rows a b = absurd a
least_by_rows s p z (f ∷ fs) (x ∷ own) [] a b = absurd b
least_by_rows s p z (f ∷ fs) (x ∷ own) (row ∷ rows) a b =
    let P : Form → Type 0 = λ (g : Form). pos 0 ≤ℤ g p in
    let same : value x p ≡ f p = a.0.same p z in
    let more = least_by_rows s p z fs own rows a.1 b.1 in (
      λ h. All-cons P (value row) (map value rows) ((b.0 p).0 (subst (λ (v : ℤ). pos 0 ≤ℤ v) (sym same) (All-head P f fs h))) (more.0 (All-tail P f fs h)),
      λ h. All-cons P f fs (subst (λ (v : ℤ). pos 0 ≤ℤ v) same ((b.0 p).1 (All-head P (value row) (map value rows) h)))
          (more.1 (All-tail P (value row) (map value rows) h)),
    )

-- a relation whose targets have the signs of rows says these to be at least 0
pub forms_said : (s : Space) (r : RelationView) (own rows : List Terms) → AreRowsOf s (targets s.variables r) own
    → AllZip AreLeastTogether own rows → SaysForms s.variables r (map value rows)
forms_said s r own rows a b p z =
    let n : ℕ = s.variables in
    let m : ℕ = common_denominator r in
    let t = targets_met r.sign (side_at n p m r.left) (side_at n p m r.right) (form_of n r) p refl in
    let e = least_by_rows s p z (targets n r) own rows a b in (λ h. e.0 (t.1 h), λ h. t.0 (e.1 h))

-- what a text that is a relation tells of forms
pub forms_told : {E : Type 0} (v : NamesView) (forms : List Form) (text : List ℕ) (s : Space) (r : RelationView) (result : Result Bool E)
    → s ≡ record { variables = length v.variables; rates = length v.rates } → IsRelationText v text r
    → IfOk result (λ b. OnTrue b (SaysForms s.variables r forms)) → IfOk result (λ b. OnTrue b (TellsForms v forms text))
forms_told v forms text s r (Ok b) e is h =
    OnTrue_from b (TellsForms v forms text) (λ t. record {
      relation = r;
      is = is;
      same = subst
          (λ (z : Space). SaysForms z.variables r forms) e (OnTrue_at t h);
    })
forms_told v forms text s r (Err x) e is h = tt
