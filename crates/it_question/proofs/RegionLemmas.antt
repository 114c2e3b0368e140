-- Where reading stops after two regions, and what it gives.
use Rattle.std.specs.Prelude.{codes}
use Rattle.std.proofs.Common.{◌≡◌, ℕ, List, [], Ok, Err, refl, sym, ap, subst, ◌∙◌}
use Rattle.it_forms.specs.Letters.{Letter}
use Rattle.it_forms.specs.Forms.{Form, Give, Take, Then}
use Rattle.it_forms.specs.FormReading.{read}
use Rattle.it_forms.specs.Reads.{Reads, ◌>>=◌}
use Rattle.it_forms.specs.Words.{word, flagged_word, line_end}
use Rattle.it_syntax.specs.declared.rest.Stop.{Stop}
use Rattle.it_syntax.specs.declared.rest.Stop.TheVariants as stops
use Rattle.it_syntax.specs.Gives.{StopsAs}
use Rattle.it_syntax.specs.NamesViews.{NamesView}
use Rattle.it_syntax.specs.Scopes.{env_of}
use Rattle.it_question.specs.QuestionForms.{region, more_tries, containment}
use Rattle.it_question.specs.QuestionLimits.{givens_left, rows_left, most_lines}
use Rattle.it_question.specs.OwnLines.{OwnLinesView, RegionView}
use Rattle.it_question.specs.Questions.{VerbView, Contain}
use Rattle.it_question.specs.ProblemLines.{lines_with}
use Rattle.it_question.specs.TableSizes.{size_flag}
use Rattle.it_question.specs.TrySets.{auxiliary_env, unnamed_sets}

-- ---- one form after the other

then_gives : {A B : Type 0} (f : Form A) (g : A → Form B) (ls r : List Letter) (x : A) → read f ls ≡ Ok (x, r) → read (Then f g) ls ≡ read (g x) r
unfolding read
then_gives f g ls r x e = ap (λ (t : Reads _). t >>= λ y. read (g y.0) y.1) e

then_stops : {A B : Type 0} (f : Form A) (g : A → Form B) (stop : Stop) (ls r : List Letter) → StopsAs stop r (read f ls) → StopsAs stop r (read (Then f g) ls)
unfolding read
then_stops f g stops.Memory ls r e = tt
then_stops f g (stops.Fault c) ls r e = ap (λ (t : Reads _). t >>= λ y. read (g y.0) y.1) e

then_again : {A B C : Type 0} (f : Form A) (g : A → Form B) (h : B → Form C) (ls : List Letter)
    → read (Then f (λ a. Then (g a) h)) ls ≡ read (Then (Then f g) h) ls
unfolding read
then_again {A} {B} {C} f g h ls = by_result (read f ls)
  where
    by_result : (t : Reads A) → (t >>= λ x. read (g x.0) x.1 >>= λ y. read (h y.0) y.1) ≡ ((t >>= λ x. read (g x.0) x.1) >>= λ y. read (h y.0) y.1)
    by_result (Ok x) = refl
    by_result (Err e) = refl

-- ---- regions

-- a region is read under these limits
pub region_under : (g r m n : ℕ) (v : NamesView) (ls a : List Letter) (x : RegionView) → g ≡ m → r ≡ n → read (region g r v) ls ≡ Ok (x, a)
    → read (region m n v) ls ≡ Ok (x, a)
region_under g r m n v ls a x e f h = subst (λ (k : ℕ). read (region k n v) ls ≡ Ok (x, a)) e (subst (λ (k : ℕ). read (region g k v) ls ≡ Ok (x, a)) f h)

-- The code read the first region up to a, `region` up to b, and the second up to d.
pub record ReadRegions (own : OwnLinesView) (v : NamesView) (ls a b d : List Letter) (first second : RegionView)
    (most_givens most_rows more_givens more_rows : ℕ) : Type 0 where
  pub most_givens_are : most_givens ≡ givens_left most_lines own
  pub most_rows_are : most_rows ≡ rows_left most_lines own
  pub one : read (region most_givens most_rows v) ls ≡ Ok (first, a)
  pub word : read (Take (word (codes "region"))) a ≡ Ok (tt, b)
  pub givens : more_givens ≡ givens_left most_givens first.lines
  pub rows : more_rows ≡ rows_left most_rows first.lines
  pub two : read (region more_givens more_rows v) b ≡ Ok (second, d)

abbrev tries_of : NamesView → RegionView → RegionView → Form (List (List ℕ))
tries_of v first second = more_tries (auxiliary_env v second.names) (env_of first.names) (unnamed_sets second.auxiliaries) []

-- the line of `contain`
abbrev pub contain_line : OwnLinesView → RegionView → Form (Unit {0})
contain_line own first = Then (Take (flagged_word (codes "contain") (size_flag first.names (lines_with own first)))) (λ u. line_end)

abbrev end_of : OwnLinesView → RegionView → RegionView → List (List ℕ) → Form VerbView
end_of own first second tries = Then (Take (flagged_word (codes "contain") (size_flag first.names (lines_with own first)))) (λ u. Then line_end (λ u. Give (Contain first second tries)))

module _ (own : OwnLinesView) (v : NamesView) (ls a b d : List Letter) (first second : RegionView) (i j m n : ℕ)
    (h : ReadRegions own v ls a b d first second i j m n) where
  up_to_tries : read (containment own v) ls ≡ read (Then (tries_of v first second) (λ ts. end_of own first second ts)) d
  unfolding containment
  up_to_tries =
      let g = givens_left most_lines own in
      let r = rows_left most_lines own in
      let one = region_under i j g r v ls a first h.most_givens_are h.most_rows_are h.one in
      let two = region_under m n (givens_left g first.lines) (rows_left r first.lines) v b d second
      (h.givens ∙ ap (λ (k : ℕ). givens_left k first.lines) h.most_givens_are)
      (h.rows ∙ ap (λ (k : ℕ). rows_left k first.lines) h.most_rows_are) h.two in
      then_gives _ _ ls a first one ∙ then_gives _ _ a b tt h.word ∙ then_gives _ _ b d second two

  -- at a fault in the `try` lines
  pub tries_stop : (e : Stop) (rest : List Letter) → StopsAs e rest (read (tries_of v first second) d) → StopsAs e rest (read (containment own v) ls)
  tries_stop e rest k = subst (StopsAs e rest) (sym up_to_tries) (then_stops (tries_of v first second) _ e d rest k)

  module _ (tries : List (List ℕ)) (after : List Letter) (t : read (tries_of v first second) d ≡ Ok (tries, after)) where
    up_to_contain : read (containment own v) ls ≡ read (Then (contain_line own first) (λ u. Give (Contain first second tries))) after
    up_to_contain = up_to_tries ∙ then_gives (tries_of v first second) _ d after tries t ∙ then_again (Take (flagged_word (codes "contain") (size_flag first.names (lines_with own first)))) (λ u. line_end) (λ u. Give (Contain first second tries)) after

    -- at a fault after them
    pub contain_stops : (e : Stop) (rest : List Letter) → StopsAs e rest (read (contain_line own first) after) → StopsAs e rest (read (containment own v) ls)
    contain_stops e rest k = subst (StopsAs e rest) (sym up_to_contain) (then_stops (contain_line own first)
        (λ u. Give (Contain first second tries)) e after rest k)

    -- two regions and the sets to be tried
    pub contain_gives : (rest : List Letter) → read (contain_line own first) after ≡ Ok (tt, rest)
        → read (containment own v) ls ≡ Ok (Contain first second tries, rest)
    unfolding read
    contain_gives rest k = up_to_contain ∙ then_gives (contain_line own first) (λ u. Give (Contain first second tries)) after rest tt k
