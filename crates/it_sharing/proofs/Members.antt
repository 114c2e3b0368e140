-- What stands in a list of sets.
use Rattle.std.proofs.Common.{◌≡◌, ℕ, zero, suc, ◌+◌, ◌<◌, ◌≤◌, Bool, true, false, cond, ◌==◌, ◌||◌, List, [], ◌∷◌, ◌++◌, refl, sym, ap, ◌∙◌, subst, inl, inr, ◌⊎◌, arith}
use Rattle.std.specs.List.{list_any, fold, filter}
use Rattle.std.proofs.lemmas.Bool.{false≢true, eqb-true, cases_lt}
use Rattle.std.specs.List.{range_with_len}
use Rattle.it_sharing.specs.AccessStructures.{with_new}

-- x is one of these
abbrev pub Member : ℕ → List ℕ → Type 0
Member x [] = ⊥
Member x (y ∷ ys) = (x ≡ y) ⊎ Member x ys

pub member_passing : (p : ℕ → Bool) (x : ℕ) (xs : List ℕ) → p x ≡ true → Member x xs → Member x (filter p xs)
member_passing p x [] e m = m
member_passing p x (y ∷ ys) e m = by_test (member_passing p x ys e) (p y) refl m
  where
    by_test : (Member x ys → Member x (filter p ys)) → (b : Bool) → p y ≡ b → (x ≡ y) ⊎ Member x ys → Member x (cond b (y ∷ filter p ys) (filter p ys))
    by_test more true h (inl s) = inl s
    by_test more true h (inr k) = inr (more k)
    by_test more false h (inl s) = absurd (false≢true (sym h ∙ ap p (sym s) ∙ e))
    by_test more false h (inr k) = more k

pub member_of_filter : (p : ℕ → Bool) (x : ℕ) (xs : List ℕ) → Member x (filter p xs) → Member x xs × (p x ≡ true)
member_of_filter p x [] m = absurd m
member_of_filter p x (y ∷ ys) m = by_test (member_of_filter p x ys) (p y) refl m
  where
    with_first : Member x ys × (p x ≡ true) → ((x ≡ y) ⊎ Member x ys) × (p x ≡ true)
    with_first k = (inr k.0, k.1)

    by_test : (Member x (filter p ys) → Member x ys × (p x ≡ true)) → (b : Bool) → p y ≡ b
        → Member x (cond b (y ∷ filter p ys) (filter p ys)) → ((x ≡ y) ⊎ Member x ys) × (p x ≡ true)
    by_test more true h (inl s) = (inl s, ap p s ∙ h)
    by_test more true h (inr k) = with_first (more k)
    by_test more false h k = with_first (more k)

-- one that passes is there
pub passing_member : (p : ℕ → Bool) (xs : List ℕ) → list_any p xs ≡ true → (x : ℕ) × (Member x xs × (p x ≡ true))
passing_member p [] e = absurd (false≢true e)
passing_member p (y ∷ ys) e = by_test (passing_member p ys) (p y) refl e
  where
    by_test : (list_any p ys ≡ true → (x : ℕ) × (Member x ys × (p x ≡ true))) → (b : Bool) → p y ≡ b → (b || list_any p ys) ≡ true
        → (x : ℕ) × (Member x (y ∷ ys) × (p x ≡ true))
    by_test more true h t = (y, (inl refl, h))
    by_test more false h t = let k = more t in (k.0, (inr k.1.0, k.1.1))

pub some_member_passes : (p : ℕ → Bool) (x : ℕ) (xs : List ℕ) → Member x xs → p x ≡ true → list_any p xs ≡ true
some_member_passes p x [] m e = absurd m
some_member_passes p x (y ∷ ys) m e = by_test (λ k. some_member_passes p x ys k e) (p y) refl m
  where
    by_test : (Member x ys → list_any p ys ≡ true) → (b : Bool) → p y ≡ b → (x ≡ y) ⊎ Member x ys → (b || list_any p ys) ≡ true
    by_test more true h k = refl
    by_test more false h (inl s) = absurd (false≢true (sym h ∙ ap p (sym s) ∙ e))
    by_test more false h (inr k) = more k

-- ---- lists put together

pub member_first : (x : ℕ) (xs ys : List ℕ) → Member x xs → Member x (xs ++ ys)
member_first x [] ys m = absurd m
member_first x (z ∷ xs) ys (inl e) = inl e
member_first x (z ∷ xs) ys (inr m) = inr (member_first x xs ys m)

pub member_last : (x : ℕ) (xs ys : List ℕ) → Member x ys → Member x (xs ++ ys)
member_last x [] ys m = m
member_last x (z ∷ xs) ys m = inr (member_last x xs ys m)

pub member_of_both : (x : ℕ) (xs ys : List ℕ) → Member x (xs ++ ys) → Member x xs ⊎ Member x ys
member_of_both x [] ys m = inr m
member_of_both x (z ∷ xs) ys (inl e) = inl (inl e)
member_of_both x (z ∷ xs) ys (inr m) = elim (member_of_both x xs ys m) [
  | inl k ↦ inl (inr k)
  | inr k ↦ inr k
]

-- ---- sets without doubles

new_member : (x s : ℕ) (xs : List ℕ) → (x ≡ s) ⊎ Member x xs → Member x (with_new xs s)
unfolding with_new
new_member x s xs m = by_test (list_any (λ t. t == s) xs) refl m
  where
    by_test : (b : Bool) → list_any (λ t. t == s) xs ≡ b → (x ≡ s) ⊎ Member x xs → Member x (cond b xs (xs ++ s ∷ []))
    by_test true h (inl e) = let k = passing_member (λ t. t == s) xs h in subst (λ (y : ℕ). Member y xs) (eqb-true k.0 s k.1.1 ∙ sym e) k.1.0
    by_test true h (inr k) = k
    by_test false h (inl e) = member_last x xs (s ∷ []) (inl e)
    by_test false h (inr k) = member_first x xs (s ∷ []) k

member_of_new : (x s : ℕ) (xs : List ℕ) → Member x (with_new xs s) → (x ≡ s) ⊎ Member x xs
unfolding with_new
member_of_new x s xs m = by_test (list_any (λ t. t == s) xs) m
  where
    by_test : (b : Bool) → Member x (cond b xs (xs ++ s ∷ [])) → (x ≡ s) ⊎ Member x xs
    by_test true k = inr k
    by_test false k = elim (member_of_both x xs (s ∷ []) k) [
      | inl j ↦ inr j
      | inr j ↦ elim j [
        | inl e ↦ inl e
        | inr n ↦ absurd n
      ]
    ]

pub member_once : (x : ℕ) (xs ys : List ℕ) → Member x xs ⊎ Member x ys → Member x (fold with_new xs ys)
member_once x xs [] (inl m) = m
member_once x xs [] (inr m) = absurd m
member_once x xs (y ∷ ys) (inl m) = member_once x (with_new xs y) ys (inl (new_member x y xs (inr m)))
member_once x xs (y ∷ ys) (inr (inl e)) = member_once x (with_new xs y) ys (inl (new_member x y xs (inl e)))
member_once x xs (y ∷ ys) (inr (inr m)) = member_once x (with_new xs y) ys (inr m)

pub member_of_once : (x : ℕ) (xs ys : List ℕ) → Member x (fold with_new xs ys) → Member x xs ⊎ Member x ys
member_of_once x xs [] m = inl m
member_of_once x xs (y ∷ ys) m = elim (member_of_once x (with_new xs y) ys m) [
  | inl k ↦ elim (member_of_new x y xs k) [
    | inl e ↦ inr (inl e)
    | inr j ↦ inl j
  ]
  | inr k ↦ inr (inr k)
]

-- ---- numbers in order

pub member_range : (x from count : ℕ) → from ≤ x → x < from + count → Member x (range_with_len from count)
member_range x from zero a b = absurd (omega arith)
member_range x from (suc count) a b = elim (cases_lt from x) [
  | inl h ↦ inr (member_range x (from + 1) count (omega arith) (omega arith))
  | inr h ↦ inl (omega arith)
]

pub range_member : (x from count : ℕ) → Member x (range_with_len from count) → x < from + count
range_member x from zero m = absurd m
range_member x from (suc count) (inl e) = omega arith
range_member x from (suc count) (inr m) = omega (arith, range_member x (from + 1) count m)
