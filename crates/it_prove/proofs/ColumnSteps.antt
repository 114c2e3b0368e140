-- Columns and the weights of generators, step by step as the code forms them.
use Rattle.std.proofs.Common.{◌≡◌, ◌⊎◌, inl, inr, ℕ, zero, suc, ◌+◌, ◌<◌, ◌≤◌, ℤ, neg_ℤ, List, [], ◌∷◌, ◌++◌, length, drop, take, refl, sym, ap, ap₂, subst, All, ◌∙◌, arith, append_assoc, append-nil, map}
use Rattle.std.specs.List.{flat_map}
use Rattle.std.proofs.lemmas.Bool.{cases_lt}
use Rattle.std.proofs.lemmas.List.{drop_more, drop_all, take_all, map-append, get_or_default}
use Rattle.it_problems.specs.declared.problems.Kind.{Kind}
use Rattle.it_problems.specs.declared.problems.Kind.TheVariants.{Inequality, Equation}
use Rattle.it_problems.specs.Problems.{ProblemView, IsProblem}
use Rattle.it_space.specs.Rows.{Terms, IsOver, coefficient, single_term}
use Rattle.it_closure.specs.declared.dependences.Dependence.{Dependence}
use Rattle.it_closure.specs.Collapse.{CollapseFits, IsCollapseOf}
use Rattle.it_elemental.specs.Generators.{Generator, generators, generator_at}
use Rattle.it_space.specs.declared.spaces.Space.{Space}
use Rattle.it_space.specs.Spaces.{size_of}
use Rattle.std.proofs.lemmas.Nat.{pow_pos}
use Rattle.it_closure.specs.DependencesViews.{DependencesView}
use Rattle.it_closure.specs.Reading.{dependences_of}
use Rattle.it_lift.proofs.GeneratorLemmas.{row_of_space}
use Rattle.it_prove.proofs.ClosedRows.{collapse_same}
use Rattle.it_prove.specs.Closed.{collapsed_row, collapsed_generator, closed_target}
use Rattle.it_space.proofs.TermLemmas.{coefficient-negated_terms}
use Rattle.it_closure.specs.Sizes.{column_count}
use Rattle.it_columns.specs.Columns.{columns_by, columns, numbers_from}
use Rattle.it_prove.proofs.GeneratorWeights.{weight_by, weights_from}
use Rattle.it_prove.specs.ClosedProblems.{SameRows, AreColumns}

-- ---- columns

generator_split : (gs : List Generator) (i : ℕ) → i < length gs → drop i gs ≡ generator_at gs i ∷ drop (i + 1) gs
generator_split gs i h = drop_more gs i _ h

same-append : (rs ss us vs : List Terms) → SameRows rs ss → SameRows us vs → SameRows (rs ++ us) (ss ++ vs)
same-append [] [] us vs s t = t
same-append [] (x ∷ xs) us vs s t = absurd s
same-append (r ∷ rs) [] us vs s t = absurd s
same-append (r ∷ rs) (x ∷ xs) us vs s t = (s.0, same-append rs xs us vs s.1 t)

-- the columns of a row with the same coefficients
same_columns : (k : Kind) (r t : Terms) → ((c : ℕ) → coefficient r c ≡ coefficient t c) → SameRows (columns_by k r) (columns_by k t)
same_columns Inequality r t e = (e, tt)
same_columns Equation r t e = (e, ((λ c. coefficient-negated_terms c r ∙ ap neg_ℤ (e c) ∙ sym (coefficient-negated_terms c t)), tt))

pub same_after_push : (old new : List Terms) (k l : Kind) (r t : Terms) → new ≡ old ++ columns_by k r → k ≡ l → ((c : ℕ) → coefficient r c ≡ coefficient t c)
    → (front xs : List Terms) → SameRows (front ++ old) xs → SameRows (front ++ new) (xs ++ columns_by l t)
same_after_push old new k l r t is kind e front xs s =
    subst (λ (ys : List Terms). SameRows ys (xs ++ columns_by l t)) (append_assoc front old (columns_by k r) ∙ ap (λ ys. front ++ ys) (sym is))
    (subst (λ (m : Kind). SameRows ((front ++ old) ++ columns_by k r) (xs ++ columns_by m t)) kind
    (same-append (front ++ old) xs (columns_by k r) (columns_by k t) s (same_columns k r t e)))

-- the columns of the first generators over closed sets
take_more : (gs : List Generator) (i : ℕ) → i < length gs → take (suc i) gs ≡ take i gs ++ generator_at gs i ∷ []
take_more [] i h = absurd (omega arith)
take_more (g ∷ gs) zero h = refl
take_more (g ∷ gs) (suc i) h = ap (λ xs. g ∷ xs) (take_more gs i (omega arith))

columns-append : (gs hs : List Generator) → columns (gs ++ hs) ≡ columns gs ++ columns hs
unfolding columns
columns-append [] hs = refl
columns-append (g ∷ gs) hs = ap (λ xs. columns_by g.kind g.row ++ xs) (columns-append gs hs)
    ∙ sym (append_assoc (columns_by g.kind g.row) (flat_map (λ (g : Generator). columns_by g.kind g.row) gs)
    (flat_map (λ (g : Generator). columns_by g.kind g.row) hs))

columns-one : (g : Generator) → columns (g ∷ []) ≡ columns_by g.kind g.row
unfolding columns
columns-one g = append-nil (columns_by g.kind g.row)

module _ (n : ℕ) (ds : List Dependence) (gs : List Generator) where
  pub columns_start : AreColumns n ds gs 0 []
  unfolding columns
  columns_start = record { same = tt; fits = λ j h. absurd (omega arith) }

  pub columns_more : (i : ℕ) (old new : List Terms) → i < length gs
      → ((xs : List Terms) → SameRows old xs → SameRows new (xs ++ columns_by (generator_at gs i).kind (collapsed_row n ds (generator_at gs i).row)))
      → CollapseFits n ds (generator_at gs i).row → AreColumns n ds gs i old → AreColumns n ds gs (i + 1) new
  columns_more i old new h add fit a = record {
    same = subst (SameRows new) (sym columns_with_next) (add (columns (map (collapsed_generator n ds) (take i gs))) a.same);
    fits = λ j l. by_cases j l (cases_lt j i);
  }
    where
      plus_one : i + 1 ≡ suc i
      plus_one = omega arith

      columns_with_next : columns (map (collapsed_generator n ds) (take (i + 1) gs))
          ≡ columns (map (collapsed_generator n ds) (take i gs)) ++ columns_by (generator_at gs i).kind
          (collapsed_row n ds (generator_at gs i).row)
      columns_with_next = ap (λ k. columns (map (collapsed_generator n ds) (take k gs))) plus_one
          ∙ ap (λ hs. columns (map (collapsed_generator n ds) hs)) (take_more gs i h)
          ∙ ap columns (map-append (collapsed_generator n ds) (take i gs) (generator_at gs i ∷ []))
          ∙ columns-append (map (collapsed_generator n ds) (take i gs)) (collapsed_generator n ds (generator_at gs i) ∷ [])
          ∙ ap (λ xs. columns (map (collapsed_generator n ds) (take i gs)) ++ xs) (columns-one (collapsed_generator n ds (generator_at gs i)))

      by_cases : (j : ℕ) → j < i + 1 → (j < i) ⊎ (i ≤ j) → CollapseFits n ds (generator_at gs j).row
      by_cases j l (inl k) = a.fits j k
      by_cases j l (inr k) = let e : i ≡ j = omega arith in subst (λ (m : ℕ). CollapseFits n ds (generator_at gs m).row) e fit

  pub columns_done : (i : ℕ) (old : List Terms) → length gs ≤ i → AreColumns n ds gs i old
      → SameRows old (columns (map (collapsed_generator n ds) gs)) × All (λ g. CollapseFits n ds g.row) gs
  columns_done i old h a = (
    subst (λ hs. SameRows old (columns (map (collapsed_generator n ds) hs))) (take_all i gs h) a.same,
    λ j d l. subst (λ (g : Generator). CollapseFits n ds g.row) (get_or_default gs j (record { kind = Inequality; row = [] }) d l) (a.fits j (omega arith)),
  )

  -- the same where the dependences are those of a problem
  pub columns_more_by : (es : List Dependence) (i : ℕ) (old new : List Terms) → es ≡ ds → i < length gs
      → ((xs : List Terms) → SameRows old xs → SameRows new (xs ++ columns_by (generator_at gs i).kind (collapsed_row n es (generator_at gs i).row)))
      → CollapseFits n es (generator_at gs i).row → AreColumns n ds gs i old → AreColumns n ds gs (i + 1) new
  columns_more_by es i old new e h add fit = columns_more i old new h
      (subst (λ (x : List Dependence). (xs : List Terms) → SameRows old xs
      → SameRows new (xs ++ columns_by (generator_at gs i).kind (collapsed_row n x (generator_at gs i).row))) e add)
      (subst (λ (x : List Dependence). CollapseFits n x (generator_at gs i).row) e fit)

-- ---- weights

pub weights_more : (gs : List Generator) (f : ℕ → ℤ) (i j next : ℕ) (k : Kind) (w : ℤ) (old new : List (ℕ × ℤ)) → i < length gs
    → k ≡ (generator_at gs i).kind → w ≡ weight_by k f j → next ≡ j + column_count k → new ≡ old ++ single_term i w
    → old ++ weights_from i j (drop i gs) f ≡ weights_from 0 0 gs f → new ++ weights_from (i + 1) next (drop (i + 1) gs) f ≡ weights_from 0 0 gs f
unfolding numbers_from
weights_more gs f i j next k w old new h same weight step e inv =
    ap₂ (λ xs n. xs ++ weights_from (i + 1) n (drop (i + 1) gs) f) (e
    ∙ ap (λ x. old ++ single_term i x) (weight ∙ ap (λ k. weight_by k f j) same)) (step ∙ ap (λ k. j + column_count k) same)
    ∙ append_assoc old (single_term i (weight_by (generator_at gs i).kind f j))
    (weights_from (i + 1) (j + column_count (generator_at gs i).kind) (drop (i + 1) gs) f)
    ∙ ap (λ xs. old ++ weights_from i j xs f) (sym (generator_split gs i h)) ∙ inv

pub weights_done : (gs : List Generator) (f : ℕ → ℤ) (i j : ℕ) (old : List (ℕ × ℤ)) → length gs ≤ i
    → old ++ weights_from i j (drop i gs) f ≡ weights_from 0 0 gs f → old ≡ weights_from 0 0 gs f
unfolding numbers_from
weights_done gs f i j old h inv = sym (append-nil old) ∙ ap (λ xs. old ++ weights_from i j xs f) (sym (drop_all i gs h)) ∙ inv

-- ---- rows as the code has them

pub row_up_to : (q : ProblemView) (s : Space) (i : ℕ) (row : Terms) → IsProblem q → s ≡ q.space → row ≡ (generator_at (generators q) i).row
    → IsOver (size_of s) row
row_up_to q s i row k e r = subst (λ (t : Space). IsOver (size_of t) row) (sym e)
    (subst (IsOver (size_of q.space)) (sym r) (row_of_space q i k (omega (arith, pow_pos q.space.variables))))

pub collapse_so : (q : ProblemView) (d : DependencesView) (r new target : Terms) → d.space ≡ q.space → r ≡ target
    → IsCollapseOf d.space.variables d.list r new → IsOver (size_of d.space) new
    → (c : ℕ) → coefficient new c ≡ coefficient (collapsed_row q.space.variables d.list target) c
collapse_so q d r new target s e k u c =
    collapse_same d.space.variables d.list (size_of d.space) r new k u c ∙ ap (λ t. coefficient (collapsed_row d.space.variables d.list t) c) e
    ∙ ap (λ (t : Space). coefficient (collapsed_row t.variables d.list target) c) s

pub target_so : (q : ProblemView) (d : DependencesView) (new target : Terms) → d.space ≡ q.space → d.list ≡ dependences_of q
    → IsCollapseOf d.space.variables d.list target new → IsOver (size_of d.space) new
    → (c : ℕ) → coefficient new c ≡ coefficient (closed_target q target) c
target_so q d new target s l k u c = collapse_so q d target new target s refl k u c ∙ ap (λ ds. coefficient (collapsed_row q.space.variables ds target) c) l
