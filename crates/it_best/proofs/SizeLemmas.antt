-- The number of columns of the third phase.
use Rattle.std.proofs.Common.{◌≡◌, ℕ, zero, suc, ◌+◌, ◌-◌, ◌*◌, ◌^◌, ◌<◌, ◌≤◌, List, [], ◌∷◌, ◌++◌, length, map, Bool, true, false, nat_lt, refl, ap, ap₂, ◌∙◌, arith}
use Rattle.std.specs.Bool.{Decides}
use Rattle.std.specs.List.{flat_map}
use Rattle.std.proofs.lemmas.Bool.Decides.{Decides-ltb}
use Rattle.std.proofs.lemmas.List.{length-append, map-append}
use Rattle.std.proofs.lemmas.Nat.{pow_pos}
use Rattle.it_problems.specs.declared.problems.Kind.{Kind}
use Rattle.it_closure.specs.Sizes.{column_count}
use Rattle.it_problems.specs.declared.problems.Kind.TheVariants.{Inequality, Equation}
use Rattle.it_space.specs.Rows.{Terms}
use Rattle.it_space.specs.Spaces.{size_of}
use Rattle.it_polymatroid.specs.Elementals.{span}
use Rattle.it_polymatroid.proofs.Spans.{span-append}
use Rattle.it_elemental.specs.Generators.{Generator, generators}
use Rattle.it_columns.specs.Columns.{columns, columns_by}
use Rattle.it_best.specs.Ends.{third}
use Rattle.it_best.specs.Theorems.{SizeIsCounted}
use Rattle.it_best.specs.Phases.{counterweight, coordinate_row, coordinate_unknown, slack_by, slacks, third_phase}

abbrev counted : List Generator → ℕ
counted [] = 0
counted (u ∷ us) = column_count u.kind + counted us

columns_counted : (us : List Generator) → length (columns us) ≡ counted us
unfolding columns
columns_counted [] = refl
columns_counted (u ∷ us) = length-append (columns_by u.kind u.row) (flat_map (λ (g : Generator). columns_by g.kind g.row) us)
    ∙ ap₂ (λ a b. a + b) (by_kind u.kind u.row) (columns_counted us)
  where
    by_kind : (k : Kind) (row : Terms) → length (columns_by k row) ≡ column_count k
    by_kind Inequality row = refl
    by_kind Equation row = refl

counted-append : (us vs : List Generator) → counted (us ++ vs) ≡ counted us + counted vs
counted-append [] vs = omega arith
counted-append (u ∷ us) vs = ap (λ n. column_count u.kind + n) (counted-append us vs) ∙ omega arith

-- each generator has two, with its slack
generators_counted : (e : ℕ) (gs : List Generator) → counted (map counterweight gs) + counted (slacks e gs) ≡ 2 * length gs
unfolding slacks
generators_counted e [] = refl
generators_counted e (g ∷ gs) = by_kind g.kind (counted (map counterweight gs)) (counted-append (slack_by e g.kind) (slacks (e + 1) gs))
    (generators_counted (e + 1) gs)
  where
    by_kind : (k : Kind) (a : ℕ) → counted (slack_by e k ++ slacks (e + 1) gs) ≡ counted (slack_by e k) + counted (slacks (e + 1) gs)
        → a + counted (slacks (e + 1) gs) ≡ 2 * length gs
        → column_count k + a + counted (slack_by e k ++ slacks (e + 1) gs) ≡ 2 * suc (length gs)
    by_kind Inequality a p q = omega (arith, p, q)
    by_kind Equation a p q = omega (arith, p, q)

-- a set has one, a rate two
module _ (n size : ℕ) (gs : List Generator) (left right : Terms) where
  abbrev Value : ℕ → Generator
  Value = coordinate_unknown n size gs left right

  kind_count : (c : ℕ) (b : Bool) → Decides b (c < 2 ^ n)
      → column_count (Rattle.std.specs.Prelude.if◌then◌else◌ {A = Generator} b
      (record { kind = Inequality; row = coordinate_row size gs left right c })
      (record { kind = Equation; row = coordinate_row size gs left right c })).kind + Rattle.std.specs.Prelude.if◌then◌else◌ {A = ℕ} b 1 0
      ≡ 2
  kind_count c true d = refl
  kind_count c false d = refl

  set_count : (c : ℕ) → c < 2 ^ n → column_count (Value c).kind ≡ 1
  set_count c h = by_test (nat_lt c (2 ^ n)) (Decides-ltb c (2 ^ n))
    where
      by_test : (b : Bool) → Decides b (c < 2 ^ n) → column_count (Rattle.std.specs.Prelude.if◌then◌else◌ {A = Generator} b
          (record { kind = Inequality; row = coordinate_row size gs left right c })
          (record { kind = Equation; row = coordinate_row size gs left right c })).kind ≡ 1
      by_test true d = refl
      by_test false d = absurd (Rattle.std.proofs.lemmas.Bool.false≢true (d.1 h))

  rate_count : (c : ℕ) → 2 ^ n ≤ c → column_count (Value c).kind ≡ 2
  rate_count c h = by_test (nat_lt c (2 ^ n)) (Decides-ltb c (2 ^ n))
    where
      by_test : (b : Bool) → Decides b (c < 2 ^ n) → column_count (Rattle.std.specs.Prelude.if◌then◌else◌ {A = Generator} b
          (record { kind = Inequality; row = coordinate_row size gs left right c })
          (record { kind = Equation; row = coordinate_row size gs left right c })).kind ≡ 2
      by_test true d = absurd (omega (arith, d.0 refl))
      by_test false d = refl

  sets_counted : (c k : ℕ) → c + k ≤ 2 ^ n → counted (map Value (span c k)) ≡ k
  sets_counted c zero h = refl
  sets_counted c (suc k) h = ap₂ (λ a b. a + b) (set_count c (omega arith)) (sets_counted (c + 1) k (omega arith)) ∙ omega arith

  rates_counted : (c k : ℕ) → 2 ^ n ≤ c → counted (map Value (span c k)) ≡ 2 * k
  rates_counted c zero h = refl
  rates_counted c (suc k) h = ap₂ (λ a b. a + b) (rate_count c h) (rates_counted (c + 1) k (omega arith)) ∙ omega arith

  values_counted : (rates : ℕ) → size ≡ 2 ^ n - 1 + rates → counted (map Value (span 1 size)) ≡ size + rates
  values_counted rates e =
      ap (λ k. counted (map Value (span 1 k))) e
      ∙ ap (λ cs. counted (map Value cs)) (span-append 1 (2 ^ n - 1) rates)
      ∙ ap counted (map-append Value (span 1 (2 ^ n - 1)) (span (1 + (2 ^ n - 1)) rates))
      ∙ counted-append (map Value (span 1 (2 ^ n - 1))) (map Value (span (1 + (2 ^ n - 1)) rates))
      ∙ ap₂ (λ a b. a + b) (sets_counted 1 (2 ^ n - 1) (omega (arith, pow_pos n))) (rates_counted (1 + (2 ^ n - 1)) rates (omega (arith, pow_pos n)))
      ∙ omega (arith, e)

pub size_is_counted : SizeIsCounted
unfolding third_phase
size_is_counted q left right =
    let n = q.space.variables in
    let size = size_of q.space in
    let gs = generators q in
    let values = map (coordinate_unknown n size gs left right) (span 1 size) in
    let pieces : counted (map counterweight gs ++ (values ++ slacks (size + 1) gs))
    ≡ counted (map counterweight gs) + (counted values + counted (slacks (size + 1) gs)) =
    counted-append (map counterweight gs) (values ++ slacks (size + 1) gs)
    ∙ ap (λ k. counted (map counterweight gs) + k) (counted-append values (slacks (size + 1) gs)) in
    let all : length (columns (third q left right)) ≡ 2 + counted (map counterweight gs ++ (values ++ slacks (size + 1) gs))
    = columns_counted (third q left right) in
    omega (arith, all, pieces, generators_counted (size + 1) gs, values_counted n size gs left right q.space.rates refl)
