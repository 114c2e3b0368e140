-- Places over closed sets, and maps spread out from them.
use Rattle.std.proofs.Common.{◌≡◌, ◌≢◌, ℕ, ◌^◌, ◌<◌, ◌≤◌, ◌⊎◌, inl, inr, List, [], ◌∷◌, Bool, true, false, cond, nat_eq, ℤ, ◌+ℤ◌, ◌*ℤ◌, refl, sym, ap, ap₂, ◌∙◌, arith, eq-eqb, ne_eqb, get_or}
use Rattle.std.proofs.lemmas.Bool.{cases_lt, eqb-true, true≢false, le-ltb, lt-ltb}
use Rattle.std.proofs.lemmas.Nat.{pow_pos}
use Rattle.it_space.specs.Rows.{Terms, value}
use Rattle.it_space.specs.Sets.{IsInside}
use Rattle.it_polymatroid.specs.Polymatroid.{IsPolymatroid}
use Rattle.it_polymatroid.proofs.Generate.{elementals_generate}
use Rattle.it_closure.specs.declared.dependences.Dependence.{Dependence}
use Rattle.it_closure.specs.Closures.{closure, IsClosed, IsClosureOf, MeetsDependences}
use Rattle.it_closure.specs.Collapse.{place, placed_terms, spread_out, AreDependences, ClosuresKeep, CollapseKeeps, SpreadOutHolds}
use Rattle.it_closure.proofs.Insides.{inside-trans, inside_le}
use Rattle.it_closure.proofs.Meets.{closure_is, closure_told}
use Rattle.it_closure.proofs.Values.{one_value}

-- the three cases
pub place-rate : (n : ℕ) (ds : List Dependence) (c : ℕ) → 2 ^ n ≤ c → place n ds c ≡ c
unfolding place
place-rate n ds c h = ap (λ b. cond b (cond (nat_eq (closure n ds c) (closure n ds 0)) 0 (closure n ds c)) c) (le-ltb c (2 ^ n) h)

pub place-null : (n : ℕ) (ds : List Dependence) (c : ℕ) → c < 2 ^ n → closure n ds c ≡ closure n ds 0 → place n ds c ≡ 0
unfolding place
place-null n ds c h e = ap (λ b. cond b (cond (nat_eq (closure n ds c) (closure n ds 0)) 0 (closure n ds c)) c) (lt-ltb c (2 ^ n) h)
    ∙ ap (λ b. cond b 0 (closure n ds c)) (eq-eqb (closure n ds c) (closure n ds 0) e)

pub place-set : (n : ℕ) (ds : List Dependence) (c : ℕ) → c < 2 ^ n → closure n ds c ≢ closure n ds 0 → place n ds c ≡ closure n ds c
unfolding place
place-set n ds c h e = ap (λ b. cond b (cond (nat_eq (closure n ds c) (closure n ds 0)) 0 (closure n ds c)) c) (lt-ltb c (2 ^ n) h)
    ∙ ap (λ b. cond b 0 (closure n ds c)) (ne_eqb (closure n ds c) (closure n ds 0) e)

pub place-zero : (n : ℕ) (ds : List Dependence) → place n ds 0 ≡ 0
place-zero n ds = place-null n ds 0 (pow_pos n) refl

-- whether a set has the closure of the empty set
pub null_or_not : (n : ℕ) (ds : List Dependence) (c : ℕ) → (closure n ds c ≡ closure n ds 0) ⊎ (closure n ds c ≢ closure n ds 0)
null_or_not n ds c = by_test (nat_eq (closure n ds c) (closure n ds 0)) refl
  where
    by_test : (b : Bool) → nat_eq (closure n ds c) (closure n ds 0) ≡ b → (closure n ds c ≡ closure n ds 0) ⊎ (closure n ds c ≢ closure n ds 0)
    by_test true e = inl (eqb-true (closure n ds c) (closure n ds 0) e)
    by_test false e = inr (λ f. true≢false (sym (eq-eqb (closure n ds c) (closure n ds 0) f) ∙ e))

pub closures_keep : ClosuresKeep
closures_keep n ds h a p m s l = one_value n ds h a.below a.inside p m s l

-- a polymatroid that meets the dependences is spread out
pub is_spread_out : (n : ℕ) (ds : List Dependence) (h : ℕ → ℤ) → AreDependences n ds → IsPolymatroid n h → MeetsDependences ds h → (c : ℕ)
    → h (place n ds c) ≡ h c
is_spread_out n ds h a p m c = by_cases (cases_lt c (2 ^ n))
  where
    set : c < 2 ^ n → (closure n ds c ≡ closure n ds 0) ⊎ (closure n ds c ≢ closure n ds 0) → h (place n ds c) ≡ h c
    set l (inl e) = ap h (place-null n ds c l e) ∙ sym (closures_keep n ds h a p m 0 (pow_pos n)) ∙ sym (ap h e) ∙ closures_keep n ds h a p m c l
    set l (inr e) = ap h (place-set n ds c l e) ∙ closures_keep n ds h a p m c l

    by_cases : (c < 2 ^ n) ⊎ (2 ^ n ≤ c) → h (place n ds c) ≡ h c
    by_cases (inl l) = set l (null_or_not n ds c)
    by_cases (inr l) = ap h (place-rate n ds c l)

value_same : (terms : Terms) (p q : ℕ → ℤ) → ((c : ℕ) → p c ≡ q c) → value terms p ≡ value terms q
value_same [] p q e = refl
value_same (t ∷ ts) p q e = ap₂ (λ x y. t.1 *ℤ x +ℤ y) (e t.0) (value_same ts p q e)

pub collapse_keeps : CollapseKeeps
collapse_keeps n ds h a p m old new c = c h p.empty ∙ value_same old (spread_out n ds h) h (is_spread_out n ds h a p m)

-- terms at places
pub value-placed : (n : ℕ) (ds : List Dependence) (terms : Terms) (p : ℕ → ℤ) → value (placed_terms n ds terms) p ≡ value terms (spread_out n ds p)
value-placed n ds [] p = refl
value-placed n ds (t ∷ ts) p = ap (λ y. t.1 *ℤ p (place n ds t.0) +ℤ y) (value-placed n ds ts p)

-- both sets of a dependence have one closure
one_closure : (n : ℕ) (ds : List Dependence) (d : Dependence) → AreDependences n ds → IsInside d.from d.to → d.to < 2 ^ n
    → ((c : ℕ) → IsClosed ds c → IsInside d.from c → IsInside d.to c)
    → closure n ds d.to ≡ closure n ds d.from
one_closure n ds d a i l k =
    let f : IsClosureOf n ds d.from (closure n ds d.from) = closure_is n ds d.from a.below (omega (arith, inside_le d.from d.to i)) in
    let t : IsClosureOf n ds d.to (closure n ds d.to) = closure_is n ds d.to a.below l in
    closure_told n ds d.from (closure n ds d.to) (closure n ds d.from)
    (record {
      below = t.below;
      holds = inside-trans d.from d.to (closure n ds d.to) i t.holds;
      closed = t.closed;
      least = λ b m j c. t.least b m (k b c j) c;
    }) f

-- one place for both sets
same_place : (n : ℕ) (ds : List Dependence) (s t : ℕ) → s < 2 ^ n → t < 2 ^ n → closure n ds s ≡ closure n ds t → place n ds s ≡ place n ds t
same_place n ds s t l m e = by_cases (null_or_not n ds s)
  where
    by_cases : (closure n ds s ≡ closure n ds 0) ⊎ (closure n ds s ≢ closure n ds 0) → place n ds s ≡ place n ds t
    by_cases (inl f) = place-null n ds s l f ∙ sym (place-null n ds t m (sym e ∙ f))
    by_cases (inr f) = place-set n ds s l f ∙ e ∙ sym (place-set n ds t m (λ g. f (e ∙ g)))

pub spread_out_holds : SpreadOutHolds
spread_out_holds n ds p a z m = (
  (elementals_generate n (spread_out n ds p) (ap p (place-zero n ds) ∙ z)).0 m,
  λ i d l.
      let d' : Dependence = get_or ds i d in
      let inside : IsInside d'.from d'.to = a.inside i d l in
      let below : d'.to < 2 ^ n = a.below i d l in
      ap p (same_place n ds d'.to d'.from below (omega (arith, inside_le d'.from d'.to inside)) (one_closure n ds d' a inside below (λ c k. k i d l))),
)
