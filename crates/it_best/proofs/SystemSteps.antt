-- The coefficients of a coordinate, one row after the other.
use Rattle.std.proofs.Common.{◌≡◌, ◌≢◌, ℕ, suc, ◌+◌, ◌<◌, ◌≤◌, ◌^◌, ℤ, pos, neg_ℤ, Bool, true, false, nat_lt, if◌then◌else◌, List, [], ◌∷◌, ◌++◌, append_assoc, length, map, drop, get_or, All, refl, sym, ap, ap₂, subst, ◌∙◌, arith}
use Rattle.std.proofs.lemmas.List.{drop_all, get_or-map, length-map}
use Rattle.std.proofs.lemmas.List.Elements.{All-head, All-tail}
use Rattle.it_number.specs.Limit.{IsWithin}
use Rattle.it_space.specs.Rows.{Terms, Ascends, coefficient, single_term}
use Rattle.it_space.proofs.SpaceLemmas.{few_coordinates}
use Rattle.it_space.proofs.TermLemmas.{ascends-single_term, ascends_lower}
use Rattle.it_elemental.specs.Generators.{Generator}
use Rattle.it_problems.specs.Problems.{ProblemView, IsProblem}
use Rattle.it_space.specs.Spaces.{size_of}
use Rattle.it_elemental.specs.Generators.{generators}
use Rattle.it_columns.proofs.ColumnLemmas.{few_generators}
use Rattle.it_problems.specs.declared.problems.Kind.{Kind}
use Rattle.it_problems.specs.declared.problems.Kind.TheVariants.{Equation}
use Rattle.it_polymatroid.specs.Elementals.{span}
use Rattle.it_best.specs.declared.unknowns.Unknown.{Unknown}
use Rattle.it_best.specs.Phases.{bounded_unknown, free_unknown, unknown_views, counterweight, first_phase, coordinate_terms, coordinate_row, coordinate_unknown, slacks, third_phase, left_equation, right_equation}
use Rattle.it_best.specs.PhaseSteps.{most_equations}
use Rattle.it_best.proofs.WalkLemmas.{piece_more, piece_end}

-- the rows as those of generators
abbrev terms_of_rows : ℕ → List Terms → ℕ → Terms
terms_of_rows equation [] c = []
terms_of_rows equation (r ∷ rs) c = single_term equation (coefficient r c) ++ terms_of_rows (equation + 1) rs c

rows_are_generators : (equation : ℕ) (gs : List Generator) (c : ℕ) → terms_of_rows equation (map (λ (g : Generator). g.row) gs) c
    ≡ coordinate_terms equation gs c
unfolding coordinate_terms
rows_are_generators equation [] c = refl
rows_are_generators equation (g ∷ gs) c = ap (λ ts. single_term equation (coefficient g.row c) ++ ts) (rows_are_generators (equation + 1) gs c)

pub record AreCoordinateTerms (first c : ℕ) (rows : List Terms) (i : ℕ) (terms : Terms) : Type 0 where
  pub same : terms ++ terms_of_rows (first + i) (drop i rows) c ≡ terms_of_rows first rows c
  pub within : (j : ℕ) → j < i → IsWithin (coefficient (get_or rows j []) c)

pub coordinate_start : (first c : ℕ) (rows : List Terms) → AreCoordinateTerms first c rows 0 []
coordinate_start first c rows = record { same = ap (λ n. terms_of_rows n rows c) (no_more first); within = λ j h. absurd (omega arith) }
  where
    no_more : (a : ℕ) → a + 0 ≡ a
    no_more a = omega arith

pub coordinate_more : (first c : ℕ) (rows : List Terms) (i : ℕ) (r : Terms) (x : ℤ) (equation : ℕ) (old new : Terms) → i < length rows
    → r ≡ get_or rows i r → x ≡ coefficient r c → IsWithin x → equation ≡ first + i
    → new ≡ old ++ single_term equation x → AreCoordinateTerms first c rows i old → AreCoordinateTerms first c rows (i + 1) new
coordinate_more first c rows i r x equation old new h is value w q e a = record {
  same = ap (λ n. new ++ terms_of_rows n (drop (i + 1) rows) c) (next first i)
      ∙ piece_more old new (single_term (first + i) (coefficient r c)) (terms_of_rows (first + i + 1) (drop (i + 1) rows) c) (terms_of_rows first rows c)
      (e ∙ ap₂ (λ n y. old ++ single_term n y) q value)
      (ap (λ rs. old ++ terms_of_rows (first + i) rs c) (sym (Rattle.it_space.proofs.ListLemmas.drop_item rows i r h is)) ∙ a.same);
  within = λ j l. by_cases j (Rattle.std.proofs.lemmas.Bool.cases_lt j i) l;
}
  where
    next : (a i : ℕ) → a + (i + 1) ≡ a + i + 1
    next a i = omega arith

    here : get_or rows i [] ≡ r
    here = Rattle.std.proofs.lemmas.List.get_or_default rows i [] r h ∙ sym is

    by_cases : (j : ℕ) → Rattle.std.proofs.Common.◌⊎◌ (j < i) (i ≤ j) → j < i + 1 → IsWithin (coefficient (get_or rows j []) c)
    by_cases j (Rattle.std.proofs.Common.inl m) l = a.within j m
    by_cases j (Rattle.std.proofs.Common.inr m) l = subst (λ k. IsWithin (coefficient (get_or rows k []) c)) (same_index j m l)
        (subst (λ (ts : Terms). IsWithin (coefficient ts c)) (sym here) (subst IsWithin value w))
      where
        same_index : (j : ℕ) → i ≤ j → j < i + 1 → i ≡ j
        same_index j m l = omega arith

pub coordinate_done : (first c : ℕ) (rows : List Terms) (i : ℕ) (terms : Terms) → length rows ≤ i → AreCoordinateTerms first c rows i terms
    → (gs : List Generator) → rows ≡ map (λ (g : Generator). g.row) gs
    → terms ≡ coordinate_terms first gs c
coordinate_done first c rows i terms h a gs e =
    piece_end terms (terms_of_rows (first + i) (drop i rows) c) (terms_of_rows first rows c)
    (ap (λ rs. terms_of_rows (first + i) rs c) (drop_all i rows h)) a.same
    ∙ ap (λ rs. terms_of_rows first rs c) e ∙ rows_are_generators first gs c

pub coordinate_within : (first c : ℕ) (rows : List Terms) (i : ℕ) (terms : Terms) → length rows ≤ i
    → AreCoordinateTerms first c rows i terms → (gs : List Generator) → rows ≡ map (λ (g : Generator). g.row) gs
    → All (λ g. IsWithin (coefficient g.row c)) gs
coordinate_within first c rows i terms h a gs e j d l =
    subst (λ (ts : Terms). IsWithin (coefficient ts c)) (ap (λ rs. get_or rs j []) e ∙ get_or-map (λ (g : Generator). g.row) gs j d [] l)
    (a.within j (omega (arith, l, ap length e, length-map gs (λ (g : Generator). g.row))))

-- ---- rows that ascend

-- a term after all others
pub ascends_more : (from e : ℕ) (x : ℤ) (row : Terms) → from ≤ e → All (λ t. t.0 < e) row → x ≢ pos 0 → IsWithin x → Ascends from row
    → Ascends from (row ++ (e, x) ∷ [])
ascends_more from e x [] h a n w s = (h, n, w, tt)
ascends_more from e x (t ∷ ts) h a n w s = (
  s.0,
  s.1,
  s.2,
  ascends_more (t.0 + 1) e x ts
      (next t.0 (All-head (λ (t : ℕ × ℤ). t.0 < e) t ts a)) (All-tail (λ (t : ℕ × ℤ). t.0 < e) t ts a) n w s.3,
)
  where
    next : (c : ℕ) → c < e → c + 1 ≤ e
    next c h = omega arith

terms_ascend : (e : ℕ) (gs : List Generator) (c : ℕ) (rest : Terms) → All (λ g. IsWithin (coefficient g.row c)) gs
    → Ascends (e + length gs) rest → Ascends e (coordinate_terms e gs c ++ rest)
unfolding coordinate_terms
terms_ascend e [] c rest w s = ascends_lower e (e + 0) rest (omega arith) s
terms_ascend e (g ∷ gs) c rest w s =
    subst (Ascends e) (sym (append_assoc (single_term e (coefficient g.row c)) (coordinate_terms (e + 1) gs c) rest))
    (ascends-single_term e e (coefficient g.row c) (coordinate_terms (e + 1) gs c ++ rest) (omega arith)
    (All-head (λ (g : Generator). IsWithin (coefficient g.row c)) g gs w)
    (terms_ascend (e + 1) gs c rest (All-tail (λ (g : Generator). IsWithin (coefficient g.row c)) g gs w) (subst (λ n. Ascends n rest) (next e (length gs)) s)))
  where
    next : (e n : ℕ) → e + suc n ≡ e + 1 + n
    next e n = omega arith

pub row_ascends : (size : ℕ) (gs : List Generator) (left right : Terms) (c : ℕ) → All (λ g. IsWithin (coefficient g.row c)) gs
    → IsWithin (coefficient left c) → IsWithin (coefficient right c) → Ascends 0 (coordinate_row size gs left right c)
row_ascends size gs left right c w l r =
    ascends_lower 0 (size + 1) (coordinate_row size gs left right c) (omega arith)
    (terms_ascend (size + 1) gs c (single_term (left_equation size gs) (coefficient left c) ++ single_term (right_equation size gs) (coefficient right c)) w
    (ascends-single_term (size + 1 + length gs) (left_equation size gs) (coefficient left c)
    (single_term (right_equation size gs) (coefficient right c)) (omega arith) l
    (subst (Ascends (left_equation size gs + 1)) (Rattle.std.proofs.Common.append-nil (single_term (right_equation size gs) (coefficient right c)))
    (ascends-single_term (left_equation size gs + 1) (right_equation size gs) (coefficient right c) [] (omega arith) r tt))))

-- ---- how many equations there are

pub few_equations : (q : ProblemView) → IsProblem q → size_of q.space + length (generators q) + 2 ≤ most_equations
few_equations q k = omega (arith, few_generators q k, few_coordinates q.space k.space)

-- ---- the phases as the code puts them together

pub row_after_pushes : (size : ℕ) (gs : List Generator) (left right : Terms) (c : ℕ) (one two three : Terms) (l r : ℕ) (x y : ℤ)
    → one ≡ coordinate_terms (size + 1) gs c → l ≡ left_equation size gs → x ≡ coefficient left c
    → r ≡ right_equation size gs → y ≡ coefficient right c → two ≡ one ++ single_term l x → three ≡ two ++ single_term r y
    → three ≡ coordinate_row size gs left right c
row_after_pushes size gs left right c one two three l r x y a b d e f g h =
    h ∙ ap₂ (λ ts us. ts ++ us) (g ∙ ap₂ (λ ts us. ts ++ us) a (ap₂ single_term b d)) (ap₂ single_term e f)
    ∙ append_assoc (coordinate_terms (size + 1) gs c) (single_term (left_equation size gs) (coefficient left c))
    (single_term (right_equation size gs) (coefficient right c))

pub first_is : (gs : List Generator) (left row : Terms) (none one all : List Unknown) → row ≡ left → none ≡ []
    → one ≡ none ++ record { kind = Equation; row = row } ∷ [] → unknown_views all ≡ unknown_views one ++ map counterweight gs
    → unknown_views all ≡ first_phase gs left
unfolding first_phase
first_is gs left row none one all e n o a = a ∙ ap (λ us. unknown_views us ++ map counterweight gs)
    (o ∙ ap (λ us. us ++ record { kind = Equation; row = row } ∷ []) n) ∙ ap (λ ts. free_unknown ts ∷ map counterweight gs) e

pub value_unknown : (n size : ℕ) (gs : List Generator) (left right : Terms) (c : ℕ) (kind : Kind) (row : Terms)
    → kind ≡ (coordinate_unknown n size gs left right c).kind → row ≡ coordinate_row size gs left right c
    → record { kind = kind; row = row } ≡ coordinate_unknown n size gs left right c
value_unknown n size gs left right c kind row k e = ap₂ (λ a b. record { kind = a; row = b }) k e ∙ by_test (nat_lt c (2 ^ n))
  where
    abbrev_unknown : Bool → Generator
    abbrev_unknown b = if b then bounded_unknown (coordinate_row size gs left right c) else free_unknown (coordinate_row size gs left right c)

    by_test : (b : Bool) → record { kind = (abbrev_unknown b).kind; row = coordinate_row size gs left right c } ≡ abbrev_unknown b
    by_test true = refl
    by_test false = refl

pub third_is : (n size : ℕ) (gs : List Generator) (left right row : Terms) (equation : ℕ) (none one two three all : List Unknown)
    → row ≡ left ++ (equation, neg_ℤ (pos 1)) ∷ [] → equation ≡ right_equation size gs → none ≡ []
    → one ≡ none ++ record { kind = Equation; row = row } ∷ [] → unknown_views two ≡ unknown_views one ++ map counterweight gs
    → unknown_views three ≡ unknown_views two ++ map (coordinate_unknown n size gs left right) (span 1 size)
    → unknown_views all ≡ unknown_views three ++ slacks (size + 1) gs
    → unknown_views all ≡ third_phase n size gs left right
unfolding third_phase
third_is n size gs left right row equation none one two three all e q z o a b d =
    let values = map (coordinate_unknown n size gs left right) (span 1 size) in
    d ∙ ap (λ us. us ++ slacks (size + 1) gs) (b ∙ ap (λ us. us ++ values)
    (a ∙ ap (λ us. unknown_views us ++ map counterweight gs) (o ∙ ap (λ us. us ++ record { kind = Equation; row = row } ∷ []) z)))
    ∙ append_assoc (free_unknown row ∷ map counterweight gs) values (slacks (size + 1) gs)
    ∙ append_assoc (free_unknown row ∷ []) (map counterweight gs) (values ++ slacks (size + 1) gs)
    ∙ ap (λ ts. free_unknown ts ∷ (map counterweight gs ++ (values ++ slacks (size + 1) gs))) (e ∙ ap (λ m. left ++ (m, neg_ℤ (pos 1)) ∷ []) q)
