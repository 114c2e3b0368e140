-- A point that separates the target from the columns, made whole, refutes the target.
use Rattle.std.proofs.Common.{◌≡◌, ◌≢◌, ◌⊎◌, inl, inr, ℕ, zero, suc, ◌+◌, ◌-◌, ◌^◌, ◌<◌, ◌≤◌, ℤ, pos, neg_ℤ, ◌+ℤ◌, ◌*ℤ◌, ◌≤ℤ◌, List, [], ◌∷◌, ◌++◌, map, length, get_or, append_assoc, All, Bool, true, false, cond, nat_eq, eq-eqb, ne_eqb, refl, sym, ap, ap₂, subst, ◌∙◌, arith}
use Rattle.std.specs.List.{zip, AllByRecursion as Every}
use Rattle.std.proofs.lemmas.Bool.{cases_lt, eqb-true}
use Rattle.std.proofs.lemmas.Nat.{pow_pos}
use Rattle.it_number.specs.Limit.{IsWithin}
use Rattle.it_number.proofs.Ring.{ring, v, nil}
use Rattle.it_number.proofs.Ring as S
use Rattle.std.proofs.lemmas.List.{get_or-map, get_or_default, length-map}
use Rattle.std.proofs.Math.IntN.{+ℤ_idl, +ℤ_idr}
use Rattle.it_rational.specs.Rational.{Rational, integer, times, is_at_least_zero}
use Rattle.it_rational.proofs.RationalLaws.{ring_ℚ}
use Rattle.it_space.specs.declared.spaces.Space.{Space}
use Rattle.it_problems.specs.Problems.{ProblemView, IsProblem, Meets}
use Rattle.it_space.specs.Rows.{Terms, IsOver, coefficient, point_of, value}
use Rattle.it_space.specs.Spaces.{size_of}
use Rattle.it_space.proofs.EveryLemmas.{every_of, all_of, every-same, every-map, every_mapped, every_all}
use Rattle.it_polymatroid.specs.Elementals.{span}
use Rattle.it_polymatroid.proofs.Spans.{get_or-span, length-span}
use Rattle.it_tableau.specs.Operations.{rationals}
use Rattle.it_tableau.specs.Problems.{feasibility_problem}
use Rattle.it_run.specs.Readings.{Separates}
use Rattle.it_run.specs.RowValues.{rational_value}
use Rattle.it_run.proofs.RowValues.{point_separates}
use Rattle.it_elemental.specs.Generators.{generators}
use Rattle.it_check.specs.Meaning.{RefutesRow}
use Rattle.it_check.proofs.NoMeaning.{listed_met}
use Rattle.it_elemental.proofs.GeneratorLemmas.{rows_of_space}
use Rattle.it_closure.specs.declared.dependences.Dependence.{Dependence}
use Rattle.it_closure.specs.Collapse.{place, spread_out}
use Rattle.it_closure.specs.Coordinates.{RiseTo}
use Rattle.it_closure.specs.Reading.{dependences_of}
use Rattle.it_columns.specs.Columns.{columns}
use Rattle.it_prove.specs.Closed.{collapsed_row, collapsed_generator, closed_places, closed_generators, closed_target, spread_point}
use Rattle.it_columns.specs.Scaling.{scale_of, scaled_number, scaled_point}
use Rattle.it_columns.proofs.Scales.{scale_pos, denominators_divide}
use Rattle.it_columns.proofs.ColumnLemmas.{In}
use Rattle.it_columns.proofs.ColumnLemmas.{columns_keep, columns_met}
use Rattle.it_prove.proofs.ClosedRows.{rise_low, rise_apart, coords_rise, collapsed_over, collapsed_value}
use Rattle.it_prove.proofs.LiftLemmas.{dependences_sound, below_size}
use Rattle.it_columns.proofs.Wholes.{whole_scaled, least_scaled, below_scaled}
use Prim.Native.Nat.{◌∣◌}

-- ---- a point's values by coordinate: those of its list, and 0 elsewhere

pub zip_below : (from to : ℕ) (cs : List ℕ) (vs : List ℤ) (c : ℕ) → RiseTo from to cs → c < from → coefficient (zip cs vs) c ≡ pos 0
zip_below from to [] vs c r h = refl
zip_below from to (x ∷ xs) [] c r h = refl
zip_below from to (x ∷ xs) (y ∷ vs) c r h = ap₂ (λ b z. cond b y (pos 0) +ℤ z) (ne_eqb x c (λ e. omega (arith, r.0, e)))
    (zip_below (x + 1) to xs vs c r.1 (omega (arith, r.0)))

pub zip_at : (from to : ℕ) (cs : List ℕ) (vs : List ℤ) → RiseTo from to cs → length vs ≡ length cs → (k : ℕ) → k < length cs
    → coefficient (zip cs vs) (get_or cs k 0) ≡ get_or vs k (pos 0)
zip_at from to [] vs r e k h = absurd (omega arith)
zip_at from to (x ∷ xs) [] r e k h = absurd (omega (arith, e))
zip_at from to (x ∷ xs) (y ∷ vs) r e zero h =
    ap₂ (λ b z. cond b y (pos 0) +ℤ z) (eq-eqb x x refl) (zip_below (x + 1) to xs vs x r.1 (omega arith)) ∙ +ℤ_idr y
zip_at from to (x ∷ xs) (y ∷ vs) r e (suc k) h =
    ap (λ b. cond b y (pos 0) +ℤ coefficient (zip xs vs) (get_or xs k 0))
    (ne_eqb x (get_or xs k 0) (λ f. omega (arith, rise_low (x + 1) to xs r.1 k (omega arith), f)))
    ∙ +ℤ_idl (coefficient (zip xs vs) (get_or xs k 0)) ∙ zip_at (x + 1) to xs vs r.1 (omega (arith, e)) k (omega arith)

zip_without : (cs : List ℕ) (vs : List ℤ) (c : ℕ) → ((k : ℕ) → k < length cs → get_or cs k 0 ≢ c) → coefficient (zip cs vs) c ≡ pos 0
zip_without [] vs c h = refl
zip_without (x ∷ xs) [] c h = refl
zip_without (x ∷ xs) (y ∷ vs) c h = ap₂ (λ b z. cond b y (pos 0) +ℤ z) (ne_eqb x c (h 0 (omega arith)))
    (zip_without xs vs c (λ k l. h (suc k) (omega arith)))

pub zip_between : (cs : List ℕ) (vs : List ℤ) (c i : ℕ) → ((k : ℕ) → k < i → get_or cs k 0 < c)
    → ((k : ℕ) → i ≤ k → k < length cs → c < get_or cs k 0) → coefficient (zip cs vs) c ≡ pos 0
zip_between cs vs c i below above = zip_without cs vs c (λ k l. by_side k l (cases_lt k i))
  where
    by_side : (k : ℕ) → k < length cs → (k < i) ⊎ (i ≤ k) → get_or cs k 0 ≢ c
    by_side k l (inl h) e = omega (arith, below k h, e)
    by_side k l (inr h) e = omega (arith, above k h l, e)

zip_within : (from to : ℕ) (cs : List ℕ) (vs : List ℤ) → RiseTo from to cs → Every IsWithin vs → (c : ℕ) → IsWithin (coefficient (zip cs vs) c)
zip_within from to [] vs r w c = omega arith
zip_within from to (x ∷ xs) [] r w c = omega arith
zip_within from to (x ∷ xs) (y ∷ vs) r w c = by_test (nat_eq x c) refl (zip_within (x + 1) to xs vs r.1 w.1 c)
  where
    by_test : (b : Bool) → nat_eq x c ≡ b → IsWithin (coefficient (zip xs vs) c) → IsWithin (cond b y (pos 0) +ℤ coefficient (zip xs vs) c)
    by_test true e ih = subst IsWithin (sym (ap (λ z. y +ℤ z) (zip_below (x + 1) to xs vs c r.1 (omega (arith, eqb-true x c e))) ∙ +ℤ_idr y)) w.0
    by_test false e ih = subst IsWithin (sym (+ℤ_idl (coefficient (zip xs vs) c))) ih

pub rise_far : (from to : ℕ) (cs : List ℕ) → RiseTo from to cs → (i j : ℕ) → i ≤ j → j < length cs → get_or cs i 0 ≤ get_or cs j 0
rise_far from to [] r i j h l = absurd (omega arith)
rise_far from to (x ∷ xs) r zero zero h l = omega arith
rise_far from to (x ∷ xs) r zero (suc j) h l = omega (arith, rise_low (x + 1) to xs r.1 j (omega arith))
rise_far from to (x ∷ xs) r (suc i) zero h l = absurd (omega arith)
rise_far from to (x ∷ xs) r (suc i) (suc j) h l = rise_far (x + 1) to xs r.1 i j (omega arith) (omega arith)

-- as the code puts them one after the other
pub spread_more : (F : ℕ → ℤ) (size c : ℕ) (old new : List ℤ) → c ≤ size → new ≡ old ++ F c ∷ [] → old ++ map F (span c (size + 1 - c)) ≡ map F (span 1 size)
    → new ++ map F (span (c + 1) (size + 1 - (c + 1))) ≡ map F (span 1 size)
spread_more F size c old new h is inv =
    let one : size + 1 - c ≡ suc (size + 1 - (c + 1)) = omega arith in
    ap (λ xs. xs ++ map F (span (c + 1) (size + 1 - (c + 1)))) is ∙ append_assoc old (F c ∷ []) (map F (span (c + 1) (size + 1 - (c + 1))))
    ∙ ap (λ n. old ++ map F (span c n)) (sym one) ∙ inv

-- the spread values are of the point
pub spread_length : (n : ℕ) (ds : List Dependence) (size : ℕ) (row : Terms) → length (map (spread_out n ds (coefficient row)) (span 1 size)) ≡ size
spread_length n ds size row = length-map (span 1 size) (λ c. coefficient row (place n ds c)) ∙ length-span 1 size

pub spread_within : (n : ℕ) (ds : List Dependence) (size : ℕ) (cs : List ℕ) (vs : List ℤ) (at : Terms) (values : List ℤ) → at ≡ zip cs vs
    → values ≡ map (spread_out n ds (coefficient at)) (span 1 size) → (to : ℕ) × RiseTo 1 to cs → All IsWithin vs → All IsWithin values
spread_within n ds size cs vs at values is e r w = subst (All IsWithin) (sym (e ∙ ap spread is))
    (all_of IsWithin (spread (zip cs vs)) (every-map IsWithin (λ c. coefficient (zip cs vs) (place n ds c)) (span 1 size)
    (every_all (λ c. IsWithin (coefficient (zip cs vs) (place n ds c))) (span 1 size)
    (λ c. zip_within 1 r.0 cs vs r.1 (every_of IsWithin vs w) (place n ds c)))))
  where
    spread : Terms → List ℤ
    spread at = map (spread_out n ds (coefficient at)) (span 1 size)

-- as the code has them
pub point_spread : (q : ProblemView) (s : Space) (ds : List Dependence) (cs : List ℕ) (vs : List ℤ) (qs : List Rational) (at : Terms)
    (values : List ℤ) → s ≡ q.space → ds ≡ dependences_of q → cs ≡ closed_places q → vs ≡ scaled_point qs → at ≡ zip cs vs
    → values ≡ map (spread_out s.variables ds (coefficient at)) (span 1 (size_of s)) → values ≡ spread_point q qs
point_spread q s ds cs vs qs at values space list places scaled is e =
    e ∙ ap₂ (λ (t : Space) (es : List Dependence). map (spread_out t.variables es (coefficient at)) (span 1 (size_of t))) space list
    ∙ ap (λ (ts : Terms). map (spread_out q.space.variables (dependences_of q) (coefficient ts)) (span 1 (size_of q.space)))
    (is ∙ ap₂ zip places scaled)

abbrev rational_at : List ℕ → List Rational → ℕ → Rational
rational_at [] qs c = integer (pos 0)
rational_at (x ∷ xs) [] c = integer (pos 0)
rational_at (x ∷ xs) (q ∷ qs) c = cond (nat_eq x c) q (rational_at xs qs c)

times_zero : (l : ℕ) → integer (pos 0) ≡ times (integer (pos l)) (integer (pos 0))
times_zero l = sym (ring ring_ℚ (integer (pos l) ∷ []) (S.times (v 0) nil) nil refl)

whole_found : (l from to : ℕ) (cs : List ℕ) (qs : List Rational) → RiseTo from to cs → Every (λ q. q.den ∣ l) qs → (c : ℕ)
    → integer (coefficient (zip cs (map (scaled_number l) qs)) c) ≡ times (integer (pos l)) (rational_at cs qs c)
whole_found l from to [] qs r d c = times_zero l
whole_found l from to (x ∷ xs) [] r d c = times_zero l
whole_found l from to (x ∷ xs) (q ∷ qs) r d c = by_test (nat_eq x c) refl (whole_found l (x + 1) to xs qs r.1 d.1 c)
  where
    by_test : (b : Bool) → nat_eq x c ≡ b → integer (coefficient (zip xs (map (scaled_number l) qs)) c)
        ≡ times (integer (pos l)) (rational_at xs qs c)
        → integer (cond b (scaled_number l q) (pos 0) +ℤ coefficient (zip xs (map (scaled_number l) qs)) c)
        ≡ times (integer (pos l)) (cond b q (rational_at xs qs c))
    by_test true e ih =
        let past : coefficient (zip xs (map (scaled_number l) qs)) c
        ≡ pos 0 = zip_below (x + 1) to xs (map (scaled_number l) qs) c r.1 (omega (arith, eqb-true x c e)) in
        ap (λ y. integer (scaled_number l q +ℤ y)) past ∙ ap integer (+ℤ_idr (scaled_number l q)) ∙ whole_scaled l q d.0
    by_test false e ih = ap integer (+ℤ_idl (coefficient (zip xs (map (scaled_number l) qs)) c)) ∙ ih

found_at : (from to : ℕ) (cs : List ℕ) (qs : List Rational) → RiseTo from to cs → length qs ≡ length cs → (k : ℕ) → k < length cs
    → rational_at cs qs (get_or cs k 0) ≡ get_or qs k (integer (pos 0))
found_at from to [] qs r e k h = absurd (omega arith)
found_at from to (x ∷ xs) [] r e k h = absurd (omega (arith, e))
found_at from to (x ∷ xs) (q ∷ qs) r e zero h = ap (λ b. cond b q (rational_at xs qs x)) (eq-eqb x x refl)
found_at from to (x ∷ xs) (q ∷ qs) r e (suc k) h =
    ap (λ b. cond b q (rational_at xs qs (get_or xs k 0))) (ne_eqb x (get_or xs k 0) (λ f. omega (arith, rise_low (x + 1) to xs r.1 k (omega arith), f)))
    ∙ found_at (x + 1) to xs qs r.1 (omega (arith, e)) k (omega arith)

every_both : {X : Type 0} (P Q R : X → Type 0) (xs : List X) → ((x : X) → P x → Q x → R x) → Every P xs → Every Q xs → Every R xs
every_both P Q R [] f a b = tt
every_both P Q R (x ∷ xs) f a b = (f x a.0 b.0, every_both P Q R xs f a.1 b.1)

every_at : {X : Type 0} (P : X → Type 0) (xs : List X) (i : ℕ) (d : X) → Every P xs → i < length xs → P (get_or xs i d)
every_at P xs i d e h = all_of P xs e i d h

-- the values at all coordinates are those at their places
value_spread : (n : ℕ) (ds : List Dependence) (size : ℕ) (at : Terms) (row : Terms) → IsOver size row
    → value row (point_of (map (spread_out n ds (coefficient at)) (span 1 size))) ≡ value row (spread_out n ds (coefficient at))
value_spread n ds size at row u = value_of_terms row (every_of (λ (t : ℕ × ℤ). (1 ≤ t.0) × (t.0 ≤ size)) row u)
  where
    value_of_place : (c : ℕ) → 1 ≤ c → c ≤ size → point_of (map (spread_out n ds (coefficient at)) (span 1 size)) c ≡ coefficient at (place n ds c)
    value_of_place zero h l = absurd (omega arith)
    value_of_place (suc c) h l =
        get_or-map (λ c. coefficient at (place n ds c)) (span 1 size) c 0 (pos 0) (omega (arith, length-span 1 size))
        ∙ ap (λ c. coefficient at (place n ds c)) (get_or-span 1 size c 0 (omega arith) ∙ one_plus c)
      where
        one_plus : (c : ℕ) → 1 + c ≡ suc c
        one_plus c = omega arith

    value_of_terms : (ts : Terms) → Every (λ (t : ℕ × ℤ). (1 ≤ t.0) × (t.0 ≤ size)) ts
        → value ts (point_of (map (spread_out n ds (coefficient at)) (span 1 size))) ≡ value ts (spread_out n ds (coefficient at))
    value_of_terms [] b = refl
    value_of_terms (t ∷ ts) b = ap₂ (λ x y. t.1 *ℤ x +ℤ y) (value_of_place t.0 b.0.0 b.0.1) (value_of_terms ts b.1)

module _ (q : ProblemView) (target : Terms) (qs : List Rational) (k : IsProblem q) (u : IsOver (size_of q.space) target)
    (s : Separates rationals (length (closed_places q)) (length (columns (closed_generators q)))
    (feasibility_problem (closed_places q) (columns (closed_generators q)) (closed_target q target)) qs) where
  abbrev values : Terms
  values = zip (closed_places q) (scaled_point qs)

  sizes : size_of q.space < 2 ^ q.space.variables + q.space.rates
  sizes = omega (arith, pow_pos q.space.variables)

  closed_places_rise : RiseTo 1 (2 ^ q.space.variables + q.space.rates) (closed_places q)
  closed_places_rise = coords_rise q.space.variables q.space.rates (dependences_of q) (dependences_sound q k)

  whole_at : (c : ℕ) → integer (coefficient values c) ≡ times (integer (pos (scale_of qs))) (rational_at (closed_places q) qs c)
  whole_at = whole_found (scale_of qs) 1 (2 ^ q.space.variables + q.space.rates) (closed_places q) qs closed_places_rise (denominators_divide qs)

  rows : Every (λ g. IsOver (size_of q.space) g.row) (generators q)
  rows = rows_of_space q.space.variables (size_of q.space) q.constraints (omega arith) k.rows

  row_over_places : (row : Terms) → IsOver (size_of q.space) row
      → Every (λ (t : ℕ × ℤ). In (closed_places q) t.0) (collapsed_row q.space.variables (dependences_of q) row)
  row_over_places row b = collapsed_over q.space.variables q.space.rates (dependences_of q) (dependences_sound q k) row
      (below_size (size_of q.space) (2 ^ q.space.variables + q.space.rates) row sizes b)

  columns_over : Every (λ (r : Terms). Every (λ (t : ℕ × ℤ). In (closed_places q) t.0) r) (columns (closed_generators q))
  columns_over = columns_keep (In (closed_places q)) (closed_generators q)
      (every-map (λ g. Every (λ (t : ℕ × ℤ). In (closed_places q) t.0) g.row) (collapsed_generator q.space.variables (dependences_of q)) (generators q)
      (every-same (λ g. IsOver (size_of q.space) g.row) (λ g. Every (λ (t : ℕ × ℤ). In (closed_places q) t.0)
      (collapsed_row q.space.variables (dependences_of q) g.row)) (generators q) (λ g b. row_over_places g.row b) rows))

  values_separate : ((j : ℕ) → j < length (columns (closed_generators q))
      → is_at_least_zero (rational_value (get_or (columns (closed_generators q)) j []) (rational_at (closed_places q) qs)) ≡ true)
      × (is_at_least_zero (rational_value (closed_target q target) (rational_at (closed_places q) qs)) ≡ false)
  values_separate = point_separates (closed_places q) (rise_apart 1 (2 ^ q.space.variables + q.space.rates)
      (closed_places q) closed_places_rise) (columns (closed_generators q)) (closed_target q target) qs (rational_at (closed_places q) qs)
      (λ j l. all_of (λ (t : ℕ × ℤ). In (closed_places q) t.0) (get_or (columns (closed_generators q)) j [])
      (every_at (λ (r : Terms). Every (λ (t : ℕ × ℤ). In (closed_places q) t.0) r) (columns (closed_generators q)) j [] columns_over l))
      (all_of (λ (t : ℕ × ℤ). In (closed_places q) t.0) (closed_target q target) (row_over_places target u))
      (λ j l. found_at 1 (2 ^ q.space.variables + q.space.rates) (closed_places q) qs closed_places_rise s.complete j l) s

  scaled_row : (row : Terms) → Every (λ (t : ℕ × ℤ). integer (coefficient values t.0)
      ≡ times (integer (pos (scale_of qs))) (rational_at (closed_places q) qs t.0)) row
  scaled_row row = every_all (λ (t : ℕ × ℤ). integer (coefficient values t.0)
      ≡ times (integer (pos (scale_of qs))) (rational_at (closed_places q) qs t.0)) row (λ t. whole_at t.0)

  no_value_at_zero : coefficient values 0 ≡ pos 0
  no_value_at_zero = zip_below 1 (2 ^ q.space.variables + q.space.rates) (closed_places q) (scaled_point qs) 0 closed_places_rise (omega arith)

  closed_met : Every (λ g. Meets g.kind (value g.row (coefficient values))) (closed_generators q)
  closed_met = columns_met (closed_generators q) (coefficient values) (every_of (λ r. pos 0 ≤ℤ value r (coefficient values)) (columns (closed_generators q))
      (λ j d l. subst (λ r. pos 0 ≤ℤ value r (coefficient values)) (get_or_default (columns (closed_generators q)) j [] d l)
      (least_scaled (scale_of qs) (coefficient values) (rational_at (closed_places q) qs) (scale_pos qs) (get_or (columns (closed_generators q)) j [])
      (scaled_row (get_or (columns (closed_generators q)) j [])) (values_separate.0 j l))))

  value_same : (row : Terms) → IsOver (size_of q.space) row
      → value (collapsed_row q.space.variables (dependences_of q) row) (coefficient values) ≡ value row (point_of (spread_point q qs))
  value_same row b = collapsed_value q.space.variables (dependences_of q) row (coefficient values) no_value_at_zero
      ∙ sym (value_spread q.space.variables (dependences_of q) (size_of q.space) values row b)

  generators_met : Every (λ g. Meets g.kind (value g.row (point_of (spread_point q qs)))) (generators q)
  generators_met = every_both (λ g. IsOver (size_of q.space) g.row) (λ g. Meets g.kind
      (value (collapsed_row q.space.variables (dependences_of q) g.row) (coefficient values)))
      (λ g. Meets g.kind (value g.row (point_of (spread_point q qs)))) (generators q)
      (λ g b m. subst (Meets g.kind) (value_same g.row b) m) rows
      (every_mapped (λ g. Meets g.kind (value g.row (coefficient values))) (collapsed_generator q.space.variables (dependences_of q)) (generators q) closed_met)

  pub point_right : RefutesRow q target (spread_point q qs)
  point_right =
      let both = listed_met q.space.variables q.constraints (point_of (spread_point q qs)) refl generators_met in
      record {
        complete = spread_length q.space.variables (dependences_of q) (size_of q.space) (zip (closed_places q) (scaled_point qs));
        polymatroid = both.0;
        met = both.1;
        violated = subst (λ (z : ℤ). z ≤ℤ neg_ℤ (pos 1)) (value_same target u)
            (below_scaled (scale_of qs) (coefficient values) (rational_at (closed_places q) qs) (scale_pos qs) (closed_target q target)
            (scaled_row (closed_target q target)) values_separate.1);
      }

-- the coordinates as the code has them
pub places_rise : (q : ProblemView) (cs : List ℕ) → IsProblem q → cs ≡ closed_places q → (to : ℕ) × RiseTo 1 to cs
places_rise q cs k e = (
  2 ^ q.space.variables + q.space.rates,
  subst (RiseTo 1 (2 ^ q.space.variables + q.space.rates)) (sym e)
      (coords_rise q.space.variables q.space.rates (dependences_of q) (dependences_sound q k)),
)
