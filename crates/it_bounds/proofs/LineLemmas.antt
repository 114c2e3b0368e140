-- What loops write of bounds, and the lines of a bound.
use Rattle.std.proofs.Common.{◌≡◌, ℕ, ◌+◌, ◌<◌, ◌≤◌, ◌∙◌, ℤ, unsigned_abs, List, [], ◌∷◌, ◌++◌, Bool, true, false, if◌then◌else◌, codes, drop, flat_map, get_or, length, map, sym, ap, ap₂, append_assoc, append-nil}
use Rattle.std.proofs.lemmas.List.{drop_all}
use Rattle.it_number.specs.Division.{int_quotient}
use Rattle.it_number.specs.Gcd.{gcd}
use Rattle.it_space.specs.Divisors.{content, divided_terms}
use Rattle.it_space.specs.declared.answers.Certificate.{Certificate}
use Rattle.it_space.specs.declared.answers.Mark.{Mark}
use Rattle.it_space.specs.Answers.{certificate_view}
use Rattle.it_space.specs.Rows.{Terms, point_of}
use Rattle.it_space.proofs.Contents.{lowest_terms_is}
use Rattle.it_space.proofs.ListLemmas.{drop_item}
use Rattle.it_syntax.specs.NamesViews.{NamesView}
use Rattle.it_print.specs.declared.posed.PosedQuestion.{PosedQuestion}
use Rattle.it_print.specs.Lines.{joined_texts}
use Rattle.it_print.specs.PosedQuestions.{names_of, posed_origins}
use Rattle.it_bounds.specs.Lines.{bounds_lines, rate_text, told_rates, rates_text, ray_line, values_at}
use Rattle.it_bounds.specs.LineSteps.{bound_lines}

-- ---- the common divisor

pub divisor_more : (kept : List ℕ) (values : List ℤ) (i at common next : ℕ) → i < length kept → at ≡ get_or kept i 0
    → next ≡ gcd common (unsigned_abs (point_of values at))
    → content common (values_at (drop i kept) values) ≡ content 0 (values_at kept values)
    → content next (values_at (drop (i + 1) kept) values) ≡ content 0 (values_at kept values)
divisor_more kept values i at common next l is e now =
    ap (λ g. content g (values_at (drop (i + 1) kept) values)) e ∙ ap (λ cs. content common (values_at cs values)) (sym (drop_item kept i 0 l is)) ∙ now

pub divisor_done : (kept : List ℕ) (values : List ℤ) (i common : ℕ) → length kept ≤ i
    → content common (values_at (drop i kept) values) ≡ content 0 (values_at kept values) → common ≡ content 0 (values_at kept values)
divisor_done kept values i common l now = ap (λ cs. content common (values_at cs values)) (sym (drop_all i kept l)) ∙ now

-- ---- the text of the rates

joined_item : (some : Bool) (out text : List ℕ) (texts : List (List ℕ)) → ((out ++ (if some then codes " " else [])) ++ text) ++ joined_texts (codes " ") true texts ≡ out ++ joined_texts (codes " ") some (text ∷ texts)
joined_item some out text texts = ap (λ t. t ++ joined_texts (codes " ") true texts) (append_assoc out between text) ∙ append_assoc out (between ++ text) (joined_texts (codes " ") true texts)
  where
    between : List ℕ
    between = if some then codes " " else []

module _ (v : NamesView) (kept : List ℕ) (values : List ℤ) (common : ℕ) where
  abbrev left_from : ℕ → List (List ℕ)
  left_from i = map (rate_text v) (divided_terms common (values_at (drop i kept) values))

  pub rate_more : (i at : ℕ) (some : Bool) (out between new : List ℕ) (all : List ℕ) → i < length kept → at ≡ get_or kept i 0 → between ≡ out ++ (if some then codes " " else [])
      → new ≡ between ++ rate_text v (at, int_quotient (point_of values at) common) → out ++ joined_texts (codes " ") some (left_from i) ≡ all → new ++ joined_texts (codes " ") true (left_from (i + 1)) ≡ all
  rate_more i at some out between new all l is e f now =
      ap (λ t. t ++ joined_texts (codes " ") true (left_from (i + 1))) (f ∙ ap (λ t. t ++ rate_text v (at, int_quotient (point_of values at) common)) e)
      ∙ joined_item some out (rate_text v (at, int_quotient (point_of values at) common)) (left_from (i + 1))
      ∙ ap (λ cs. out ++ joined_texts (codes " ") some (map (rate_text v) (divided_terms common (values_at cs values)))) (sym (drop_item kept i 0 l is)) ∙ now

  pub rates_done : (i : ℕ) (some : Bool) (out initial : List ℕ) → common ≡ content 0 (values_at kept values) → length kept ≤ i
      → out ++ joined_texts (codes " ") some (left_from i) ≡ initial ++ joined_texts (codes " ") false (left_from 0) → out ≡ initial ++ rates_text v kept values
  unfolding rates_text
  rates_done i some out initial e l now =
      sym (append-nil out) ∙ ap (λ cs. out ++ joined_texts (codes " ") some (map (rate_text v) (divided_terms common (values_at cs values)))) (sym (drop_all i kept l)) ∙ now
      ∙ ap (λ ts. initial ++ joined_texts (codes " ") false (map (rate_text v) ts)) (lowest_terms_is (values_at kept values) (divided_terms common (values_at kept values)) (ap (λ g. divided_terms g (values_at kept values)) e))

-- ---- the lines of rays

pub rays_done : (k : ℕ) (v w : NamesView) (kept own : List ℕ) (rays : List (List ℤ)) (i : ℕ) (out initial : List ℕ) → v ≡ w → kept ≡ own → length rays ≤ i
    → out ++ flat_map (ray_line k v kept) (drop i rays) ≡ initial ++ flat_map (ray_line k v kept) rays → out ≡ initial ++ flat_map (ray_line k w own) rays
rays_done k v w kept own rays i out initial same is l now =
    sym (append-nil out) ∙ ap (λ ps. out ++ flat_map (ray_line k v kept) ps) (sym (drop_all i rays l)) ∙ now
    ∙ ap₂ (λ (x : NamesView) (cs : List ℕ). initial ++ flat_map (ray_line k x cs) rays) same is

-- ---- the lines of a bound

pub bounds_text : (p : PosedQuestion) (rows rs : List (Mark × Terms)) (proofs ws : List Certificate) (rays ps : List (List ℤ))
    → rs ≡ rows → ws ≡ proofs → ps ≡ rays
    → bound_lines p rs ws ps
    ≡ bounds_lines p.number (names_of p) (told_rates p.question.now.body) (posed_origins p) rows (map certificate_view proofs) rays
unfolding bounds_lines
bounds_text p rows rs proofs ws rays ps e f g =
    ap (λ (xs : List (Mark × Terms)). bound_lines p xs ws ps) e
    ∙ ap (λ (xs : List Certificate). bound_lines p rows xs ps) f
    ∙ ap (λ (xs : List (List ℤ)). bound_lines p rows proofs xs) g
