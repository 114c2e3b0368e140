-- Members of lists, and what holds of each item.
use Rattle.std.proofs.Common.{◌≡◌, zero, suc, get_or, arith, All, ◌⊎◌, inl, inr, ⊎_elim, refl, sym, ap, subst, ◌∙◌, List, [], ◌∷◌, ◌++◌, Bool, true, false, cond}
use Rattle.std.specs.List.{flat_map, AllByRecursion as Every}
use Rattle.std.specs.Prelude.{filter, map, Contains}
use Rattle.std.proofs.lemmas.Bool.{false≢true}
use Rattle.std.proofs.lemmas.List.Elements.{All-contains, Contains-get_or}
use Rattle.it_space.proofs.EveryLemmas.{every_of, all_of, every_front, every_back}

-- x is in a list, by recursion
abbrev pub Member : {X : Type 0} → X → List X → Type 0
Member x [] = ⊥
Member x (y ∷ ys) = (x ≡ y) ⊎ Member x ys

pub member_of : {X : Type 0} (xs : List X) (x : X) → Contains xs x → Member x xs
member_of [] x (k, l, e) = absurd (omega arith)
member_of (y ∷ ys) x (zero, l, e) = inl (sym e)
member_of (y ∷ ys) x (suc k, l, e) = inr (member_of ys x (k, omega arith, e))

pub contains_of : {X : Type 0} (xs : List X) (x : X) → Member x xs → Contains xs x
contains_of [] x m = absurd m
contains_of (y ∷ ys) x (inl e) = (0, omega arith, sym e)
contains_of (y ∷ ys) x (inr m) = let c = contains_of ys x m in (suc c.0, omega (arith, c.1), c.2)

-- ---- what holds of each item

pub every_member : {X : Type 0} (P : X → Type 0) (xs : List X) (x : X) → Every P xs → Member x xs → P x
every_member P [] x a m = absurd m
every_member P (y ∷ xs) x a (inl e) = subst P (sym e) a.0
every_member P (y ∷ xs) x a (inr m) = every_member P xs x a.1 m

pub member_every : {X : Type 0} (P : X → Type 0) (xs : List X) → ((x : X) → Member x xs → P x) → Every P xs
member_every P [] f = tt
member_every P (x ∷ xs) f = (f x (inl refl), member_every P xs (λ y m. f y (inr m)))

pub all_member : {X : Type 0} (P : X → Type 0) (xs : List X) (x : X) → All P xs → Member x xs → P x
all_member P xs x a m = All-contains P xs x a (contains_of xs x m)

pub member_all : {X : Type 0} (P : X → Type 0) (xs : List X) → ((x : X) → Member x xs → P x) → All P xs
member_all P xs f k d below = f (get_or xs k d) (member_of xs (get_or xs k d) (Contains-get_or xs k d below))

pub all_front : {X : Type 0} (P : X → Type 0) (xs ys : List X) → All P (xs ++ ys) → All P xs
all_front P xs ys a = all_of P xs (every_front P xs ys (every_of P (xs ++ ys) a))

pub all_back : {X : Type 0} (P : X → Type 0) (xs ys : List X) → All P (xs ++ ys) → All P ys
all_back P xs ys a = all_of P ys (every_back P xs ys (every_of P (xs ++ ys) a))

-- ---- members

pub member-front : {X : Type 0} (x : X) (xs ys : List X) → Member x xs → Member x (xs ++ ys)
member-front x [] ys m = absurd m
member-front x (z ∷ xs) ys (inl e) = inl e
member-front x (z ∷ xs) ys (inr m) = inr (member-front x xs ys m)

pub member-back : {X : Type 0} (x : X) (xs ys : List X) → Member x ys → Member x (xs ++ ys)
member-back x [] ys m = m
member-back x (z ∷ xs) ys m = inr (member-back x xs ys m)

pub member_either : {X : Type 0} (x : X) (xs ys : List X) → Member x (xs ++ ys) → Member x xs ⊎ Member x ys
member_either x [] ys m = inr m
member_either x (z ∷ xs) ys (inl e) = inl (inl e)
member_either x (z ∷ xs) ys (inr m) = ⊎_elim (λ k. inl (inr k)) (λ k. inr k) (member_either x xs ys m)

pub member-map : {X Y : Type 0} (f : X → Y) (x : X) (xs : List X) → Member x xs → Member (f x) (map f xs)
member-map f x [] m = absurd m
member-map f x (z ∷ xs) (inl e) = inl (ap f e)
member-map f x (z ∷ xs) (inr m) = inr (member-map f x xs m)

pub member_mapped : {X Y : Type 0} (f : X → Y) (y : Y) (xs : List X) → Member y (map f xs) → (x : X) × Member x xs × (y ≡ f x)
member_mapped f y [] m = absurd m
member_mapped f y (z ∷ xs) (inl e) = (z, inl refl, e)
member_mapped f y (z ∷ xs) (inr m) = let s = member_mapped f y xs m in (s.0, inr s.1, s.2)

pub member-filter : {X : Type 0} (test : X → Bool) (x : X) (xs : List X) → Member x xs → test x ≡ true → Member x (filter test xs)
member-filter test x [] m t = absurd m
member-filter test x (z ∷ xs) (inl e) t = by_test (test z) (ap test (sym e) ∙ t)
  where
    by_test : (b : Bool) → b ≡ true → Member x (cond b (z ∷ filter test xs) (filter test xs))
    by_test true r = inl e
    by_test false r = absurd (false≢true r)
member-filter test x (z ∷ xs) (inr m) t = by_test (test z) (member-filter test x xs m t)
  where
    by_test : (b : Bool) → Member x (filter test xs) → Member x (cond b (z ∷ filter test xs) (filter test xs))
    by_test true k = inr k
    by_test false k = k

pub member_filtered : {X : Type 0} (test : X → Bool) (x : X) (xs : List X) → Member x (filter test xs) → Member x xs × (test x ≡ true)
member_filtered test x [] m = absurd m
member_filtered test x (z ∷ xs) m = by_test (test z) refl m (member_filtered test x xs)
  where
    by_test : (b : Bool) → test z ≡ b → Member x (cond b (z ∷ filter test xs) (filter test xs))
        → (Member x (filter test xs) → Member x xs × (test x ≡ true)) → Member x (z ∷ xs) × (test x ≡ true)
    by_test true t (inl e) ih = (inl e, ap test e ∙ t)
    by_test true t (inr k) ih = let r = ih k in (inr r.0, r.1)
    by_test false t k ih = let r = ih k in (inr r.0, r.1)

pub member-flat_map : {X Y : Type 0} (f : X → List Y) (x : X) (y : Y) (xs : List X) → Member x xs → Member y (f x) → Member y (flat_map f xs)
member-flat_map f x y [] m k = absurd m
member-flat_map {X = X} f x y (z ∷ xs) (inl e) k = member-front y (f z) (flat_map f xs) (subst (λ (w : X). Member y (f w)) e k)
member-flat_map f x y (z ∷ xs) (inr m) k = member-back y (f z) (flat_map f xs) (member-flat_map f x y xs m k)

pub member_flat_mapped : {X Y : Type 0} (f : X → List Y) (y : Y) (xs : List X) → Member y (flat_map f xs) → (x : X) × Member x xs × Member y (f x)
member_flat_mapped f y [] m = absurd m
member_flat_mapped f y (z ∷ xs) m = ⊎_elim (λ k. (z, inl refl, k)) (λ k. let s = member_flat_mapped f y xs k in (s.0, inr s.1, s.2))
    (member_either y (f z) (flat_map f xs) m)
