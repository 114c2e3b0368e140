-- What holds of each item of a list, through the ways in which lists are made.
use Rattle.std.proofs.Common.{◌≡◌, zero, suc, List, [], ◌∷◌, ◌++◌, map, Bool, true, false, cond, refl, sym, ◌∙◌, arith, All}
use Rattle.std.specs.List.{filter, flat_map, AllByRecursion as Every}
use Rattle.std.proofs.lemmas.List.Elements.{All-head, All-tail}
use Rattle.std.proofs.lemmas.Bool.{false≢true}

pub every_of : {X : Type 0} (P : X → Type 0) (xs : List X) → All P xs → Every P xs
every_of P [] a = tt
every_of P (x ∷ xs) a = (All-head P x xs a, every_of P xs (All-tail P x xs a))

pub all_of : {X : Type 0} (P : X → Type 0) (xs : List X) → Every P xs → All P xs
all_of P [] e i d h = absurd (omega arith)
all_of P (x ∷ xs) e zero d h = e.0
all_of P (x ∷ xs) e (suc i) d h = all_of P xs e.1 i d (omega arith)

pub every-same : {X : Type 0} (P Q : X → Type 0) (xs : List X) → ((x : X) → P x → Q x) → Every P xs → Every Q xs
every-same P Q [] f e = tt
every-same P Q (x ∷ xs) f e = (f x e.0, every-same P Q xs f e.1)

pub every_all : {X : Type 0} (P : X → Type 0) (xs : List X) → ((x : X) → P x) → Every P xs
every_all P [] f = tt
every_all P (x ∷ xs) f = (f x, every_all P xs f)

pub every-append : {X : Type 0} (P : X → Type 0) (xs ys : List X) → Every P xs → Every P ys → Every P (xs ++ ys)
every-append P [] ys e f = f
every-append P (x ∷ xs) ys e f = (e.0, every-append P xs ys e.1 f)

pub every_front : {X : Type 0} (P : X → Type 0) (xs ys : List X) → Every P (xs ++ ys) → Every P xs
every_front P [] ys e = tt
every_front P (x ∷ xs) ys e = (e.0, every_front P xs ys e.1)

pub every_back : {X : Type 0} (P : X → Type 0) (xs ys : List X) → Every P (xs ++ ys) → Every P ys
every_back P [] ys e = e
every_back P (x ∷ xs) ys e = every_back P xs ys e.1

pub every-map : {X Y : Type 0} (P : Y → Type 0) (f : X → Y) (xs : List X) → Every (λ x. P (f x)) xs → Every P (map f xs)
every-map P f [] e = tt
every-map P f (x ∷ xs) e = (e.0, every-map P f xs e.1)

pub every_mapped : {X Y : Type 0} (P : Y → Type 0) (f : X → Y) (xs : List X) → Every P (map f xs) → Every (λ x. P (f x)) xs
every_mapped P f [] e = tt
every_mapped P f (x ∷ xs) e = (e.0, every_mapped P f xs e.1)

pub every-flat_map : {X Y : Type 0} (P : Y → Type 0) (f : X → List Y) (xs : List X) → Every (λ x. Every P (f x)) xs → Every P (flat_map f xs)
every-flat_map P f [] e = tt
every-flat_map P f (x ∷ xs) e = every-append P (f x) (flat_map f xs) e.0 (every-flat_map P f xs e.1)

pub every_flat_mapped : {X Y : Type 0} (P : Y → Type 0) (f : X → List Y) (xs : List X) → Every P (flat_map f xs) → Every (λ x. Every P (f x)) xs
every_flat_mapped P f [] e = tt
every_flat_mapped P f (x ∷ xs) e = (every_front P (f x) (flat_map f xs) e, every_flat_mapped P f xs (every_back P (f x) (flat_map f xs) e))

pub every-filter : {X : Type 0} (P : X → Type 0) (test : X → Bool) (xs : List X) → Every (λ x. test x ≡ true → P x) xs → Every P (filter test xs)
every-filter P test [] e = tt
every-filter P test (x ∷ xs) e = by_test (test x) e.0 (every-filter P test xs e.1)
  where
    by_test : (b : Bool) → (b ≡ true → P x) → Every P (filter test xs) → Every P (cond b (x ∷ filter test xs) (filter test xs))
    by_test true f r = (f refl, r)
    by_test false f r = r

pub every_filtered : {X : Type 0} (P : X → Type 0) (test : X → Bool) (xs : List X) → Every P (filter test xs) → Every (λ x. test x ≡ true → P x) xs
every_filtered P test [] e = tt
every_filtered P test (x ∷ xs) e = by_test (test x) refl e (λ r. every_filtered P test xs r)
  where
    by_test : (b : Bool) → test x ≡ b → Every P (cond b (x ∷ filter test xs) (filter test xs))
        → (Every P (filter test xs) → Every (λ x. test x ≡ true → P x) xs) → (test x ≡ true → P x) × Every (λ x. test x ≡ true → P x) xs
    by_test true f r back = (λ g. r.0, back r.1)
    by_test false f r back = (λ g. absurd (false≢true (sym f ∙ g)), back r)
