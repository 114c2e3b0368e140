-- The sum of the excesses of the sets that have the closure of the empty set.
use Rattle.std.proofs.Common.{◌≡◌, ◌↔◌, ℕ, suc, ◌+◌, ◌-◌, ◌*◌, ◌%◌, ◌^◌, ◌<◌, ◌≤◌, ◌⊎◌, inl, inr, ℤ, pos, ◌+ℤ◌, ◌-ℤ◌, ◌*ℤ◌, List, [], ◌∷◌, Bool, true, false, cond, nat_eq, sym, ap, subst, ◌∙◌, arith}
use Rattle.std.specs.List.{filter}
use Rattle.std.proofs.lemmas.Int.{ints}
use Rattle.std.proofs.lemmas.Bool.{cases_order}
use Rattle.std.proofs.Math.IntN.{+ℤ_idr, +ℤ_assoc}
use Rattle.it_number.specs.Limit.{IsWithin}
use Rattle.it_space.specs.Answers.{CertificateView}
use Rattle.it_polymatroid.specs.Certificates.{Form, Generators, combination}
use Rattle.it_space.specs.Rows.{one_at}
use Rattle.it_space.specs.Spaces.{most_variables}
use Rattle.it_space.proofs.SpaceLemmas.{below_shift}
use Rattle.it_polymatroid.specs.Elementals.{span}
use Rattle.it_closure.specs.declared.dependences.Dependence.{Dependence}
use Rattle.it_closure.specs.Closures.{closure}
use Rattle.it_lift.specs.Fits.{FallFits, ExcessFits, PartialSumsFit, EmptyFits}
use Rattle.it_lift.specs.Lifts.{excess, null_sets, sum_over}

-- the sets from a number on that have the closure of the empty set
abbrev pub nulls_from : ℕ → List Dependence → ℕ → List ℕ
nulls_from n ds m = filter (λ s. nat_eq (closure n ds s) (closure n ds 0)) (span m (2 ^ n - m))

pub record IsEvening (n : ℕ) (ds : List Dependence) (target : Form) (g : Generators) (w : CertificateView) (m : ℕ) (sum : ℤ) : Type 0 where
  pub within : IsWithin sum
  pub excesses : (s : ℕ) → 0 < s → s < m → ExcessFits w target g s
  pub fits : PartialSumsFit sum (excess w target g) (nulls_from n ds m) ↔ PartialSumsFit (pos 0) (excess w target g) (null_sets n ds)
  pub total : sum +ℤ sum_over (excess w target g) (nulls_from n ds m) ≡ sum_over (excess w target g) (null_sets n ds)

nulls_from_next : (n : ℕ) (ds : List Dependence) (m : ℕ) (b : Bool) → m < 2 ^ n → nat_eq (closure n ds m) (closure n ds 0) ≡ b
    → nulls_from n ds m ≡ cond b (m ∷ nulls_from n ds (m + 1)) (nulls_from n ds (m + 1))
nulls_from_next n ds m b h e =
    let c : 2 ^ n - m ≡ suc (2 ^ n - (m + 1)) = omega arith in
    ap (λ k. filter (λ s. nat_eq (closure n ds s) (closure n ds 0)) (span m k)) c ∙ ap (λ t. cond t (m ∷ nulls_from n ds (m + 1)) (nulls_from n ds (m + 1))) e

more-excesses : (w : CertificateView) (target : Form) (g : Generators) (m : ℕ) → ((s : ℕ) → 0 < s → s < m → ExcessFits w target g s)
    → ExcessFits w target g m → (s : ℕ) → 0 < s → s < m + 1 → ExcessFits w target g s
more-excesses w target g m f e s h k = by_cases (cases_order s m)
  where
    by_cases : (s ≡ m) ⊎ ((s < m) ⊎ (m < s)) → ExcessFits w target g s
    by_cases (inl q) = subst (ExcessFits w target g) (sym q) e
    by_cases (inr (inl l)) = f s h l
    by_cases (inr (inr l)) = absurd (omega arith)

pub evening-more : (n : ℕ) (ds : List Dependence) (target : Form) (g : Generators) (w : CertificateView) (m : ℕ) (sum x next' : ℤ)
    (b : Bool) → m < 2 ^ n → nat_eq (closure n ds m) (closure n ds 0) ≡ b
    → ExcessFits w target g m → x ≡ excess w target g m → IsWithin (sum +ℤ cond b x (pos 0)) → next' ≡ sum +ℤ cond b x (pos 0)
    → IsEvening n ds target g w m sum → IsEvening n ds target g w (m + 1) next'
evening-more n ds target g w m sum x next' true h t e is v k u =
    let split : nulls_from n ds m ≡ m ∷ nulls_from n ds (m + 1) = nulls_from_next n ds m true h t in
    let f = subst (λ (r : List ℕ). PartialSumsFit sum (excess w target g) r ↔ PartialSumsFit (pos 0) (excess w target g) (null_sets n ds)) split u.fits in
    let s = subst (λ (r : List ℕ). sum +ℤ sum_over (excess w target g) r ≡ sum_over (excess w target g) (null_sets n ds)) split u.total in
    let k' : next' ≡ sum +ℤ excess w target g m = k ∙ ap (λ y. sum +ℤ y) is in
    let v' : IsWithin (sum +ℤ excess w target g m) = subst (λ (y : ℤ). IsWithin (sum +ℤ y)) is v in
    record {
      within = rw k' v';
      excesses = more-excesses w target g m u.excesses e;
      fits = rw k' ((λ q. f.0 (v', q)), (λ q. (f.1 q).1));
      total = rw k' (+ℤ_assoc sum (excess w target g m) (sum_over (excess w target g) (nulls_from n ds (m + 1))) ∙ s);
    }
evening-more n ds target g w m sum x next' false h t e is v k u =
    let split : nulls_from n ds m ≡ nulls_from n ds (m + 1) = nulls_from_next n ds m false h t in
    let k' : next' ≡ sum = k ∙ +ℤ_idr sum in
    record {
      within = rw k' u.within;
      excesses = more-excesses w target g m u.excesses e;
      fits = rw k' (subst (λ (r : List ℕ). PartialSumsFit sum (excess w target g) r ↔ PartialSumsFit (pos 0) (excess w target g)
          (null_sets n ds)) split u.fits);
      total = rw k' (subst (λ (r : List ℕ). sum +ℤ sum_over (excess w target g) r ≡ sum_over (excess w target g) (null_sets n ds)) split u.total);
    }

-- where a sum doesn't fit
pub evening-stops : (n : ℕ) (ds : List Dependence) (target : Form) (g : Generators) (w : CertificateView) (m : ℕ) (sum x : ℤ) (b : Bool)
    → m < 2 ^ n → nat_eq (closure n ds m) (closure n ds 0) ≡ b
    → x ≡ excess w target g m → ¬ (IsWithin (sum +ℤ cond b x (pos 0))) → IsEvening n ds target g w m sum → ¬ (EmptyFits n ds target g w)
evening-stops n ds target g w m sum x true h t is v u all =
    let split : nulls_from n ds m ≡ m ∷ nulls_from n ds (m + 1) = nulls_from_next n ds m true h t in
    let f = subst (λ (r : List ℕ). PartialSumsFit sum (excess w target g) r) split (u.fits.1 all.empty) in
    v (subst (λ (y : ℤ). IsWithin (sum +ℤ y)) (sym is) f.0)
evening-stops n ds target g w m sum x false h t is v u all = v (let e : sum +ℤ pos 0 ≡ sum = +ℤ_idr sum in rw e u.within)

-- an excess that fits is within the limit
pub excess_within : (w : CertificateView) (target : Form) (g : Generators) (s : ℕ) → ExcessFits w target g s → IsWithin (excess w target g s)
excess_within w target g s e = fall_ends_within (w.scale *ℤ target (one_at s)) w.weights (λ i. g.form i (one_at s)) e.0 e.1
  where
    rest : (a b c : ℤ) → (a -ℤ b) -ℤ c ≡ a -ℤ (b +ℤ c)
    rest a b c = omega (arith, ints)

    minus_zero : (a : ℤ) → a ≡ a -ℤ pos 0
    minus_zero a = omega (arith, ints)

    fall_ends_within : (sum : ℤ) (ws : List (ℕ × ℤ)) (f : ℕ → ℤ) → IsWithin sum → FallFits sum ws f → IsWithin (sum -ℤ combination ws f)
    fall_ends_within sum [] f h k = subst IsWithin (minus_zero sum) h
    fall_ends_within sum (v ∷ vs) f h k = subst IsWithin (rest sum (v.1 *ℤ f v.0) (combination vs f)) (fall_ends_within (sum -ℤ v.1 *ℤ f v.0) vs f k.1 k.2)

-- below the number of sets, as the code counts them
pub number_below : (m v n : ℕ) → m < 1 * 2 ^ v % 4294967296 → v ≤ most_variables → n ≡ v → m < 2 ^ n
number_below m v n h few e = rw e (below_shift m v h few)
