-- Commutative rings, and a solver of equations in them: both sides are written as expressions over numbered variables, put in a normal form that computes, and compared by `refl`.
use Rattle.std.proofs.Common.{◌≡◌, ℕ, Bool, true, false, cond, List, [], ◌∷◌, refl, sym, ap, ap₂, subst, ◌∙◌, get_or, eqb, ltb, not, ◌&&◌, T, eqb→eq}
use Rattle.it_number.specs.Rings.{Ring}

-- derived laws
pub add-null : {A : Type 0} (R : Ring A) (a : A) → R.add a R.null ≡ a
add-null R a = R.add_comm a R.null ∙ R.null-add a

pub add_left_cancel : {A : Type 0} (R : Ring A) (a b c : A) → R.add a b ≡ R.add a c → b ≡ c
add_left_cancel R a b c e =
    let undo : (x : _) → R.add (R.neg a) (R.add a x) ≡ x =
    λ x. sym (R.add_assoc (R.neg a) a x) ∙ ap (λ y. R.add y x) (R.add_comm (R.neg a) a ∙ R.add-neg a) ∙ R.null-add x in
    sym (undo b) ∙ ap (R.add (R.neg a)) e ∙ undo c

pub mul-null : {A : Type 0} (R : Ring A) (a : A) → R.mul a R.null ≡ R.null
mul-null R a = add_left_cancel R (R.mul a R.null) (R.mul a R.null) R.null
    (sym (R.mul-add a R.null R.null) ∙ ap (R.mul a) (R.null-add R.null) ∙ sym (add-null R (R.mul a R.null)))

-- an inverse is the negation
pub neg_unique : {A : Type 0} (R : Ring A) (a b : A) → R.add a b ≡ R.null → b ≡ R.neg a
neg_unique R a b e = add_left_cancel R a b (R.neg a) (e ∙ sym (R.add-neg a))

pub mul-neg : {A : Type 0} (R : Ring A) (a b : A) → R.mul a (R.neg b) ≡ R.neg (R.mul a b)
mul-neg R a b = neg_unique R (R.mul a b) (R.mul a (R.neg b)) (sym (R.mul-add a b (R.neg b)) ∙ ap (R.mul a) (R.add-neg b) ∙ mul-null R a)

pub neg-mul : {A : Type 0} (R : Ring A) (a b : A) → R.mul (R.neg a) b ≡ R.neg (R.mul a b)
neg-mul R a b = R.mul_comm (R.neg a) b ∙ mul-neg R b a ∙ ap R.neg (R.mul_comm b a)

pub neg-neg : {A : Type 0} (R : Ring A) (a : A) → R.neg (R.neg a) ≡ a
neg-neg R a = sym (neg_unique R (R.neg a) a (R.add_comm (R.neg a) a ∙ R.add-neg a))

pub add_left_comm : {A : Type 0} (R : Ring A) (a b c : A) → R.add a (R.add b c) ≡ R.add b (R.add a c)
add_left_comm R a b c = sym (R.add_assoc a b c) ∙ ap (λ x. R.add x c) (R.add_comm a b) ∙ R.add_assoc b a c

pub mul_left_comm : {A : Type 0} (R : Ring A) (a b c : A) → R.mul a (R.mul b c) ≡ R.mul b (R.mul a c)
mul_left_comm R a b c = sym (R.mul_assoc a b c) ∙ ap (λ x. R.mul x c) (R.mul_comm a b) ∙ R.mul_assoc b a c

pub add-mul : {A : Type 0} (R : Ring A) (a b c : A) → R.mul (R.add a b) c ≡ R.add (R.mul a c) (R.mul b c)
add-mul R a b c = R.mul_comm (R.add a b) c ∙ R.mul-add c a b ∙ ap₂ R.add (R.mul_comm c a) (R.mul_comm c b)

pub neg-add : {A : Type 0} (R : Ring A) (a b : A) → R.neg (R.add a b) ≡ R.add (R.neg a) (R.neg b)
neg-add R a b = sym (neg_unique R (R.add a b) (R.add (R.neg a) (R.neg b))
    (R.add_assoc a b (R.add (R.neg a) (R.neg b)) ∙ ap (R.add a) (add_left_comm R b (R.neg a) (R.neg b) ∙ ap (R.add (R.neg a)) (R.add-neg b)
    ∙ add-null R (R.neg a)) ∙ R.add-neg a))

pub neg-null : {A : Type 0} (R : Ring A) → R.neg R.null ≡ R.null
neg-null R = sym (neg_unique R R.null R.null (R.null-add R.null))

-- expressions
pub data Ex : Type 0 where
  v : ℕ → Ex
  nil : Ex
  one : Ex
  plus : Ex → Ex → Ex
  times : Ex → Ex → Ex
  minus : Ex → Ex

abbrev pub value : {A : Type 0} → Ring A → List A → Ex → A
value R ρ (v i) = get_or ρ i R.null
value R ρ nil = R.null
value R ρ one = R.unit
value R ρ (plus a b) = R.add (value R ρ a) (value R ρ b)
value R ρ (times a b) = R.mul (value R ρ a) (value R ρ b)
value R ρ (minus a) = R.neg (value R ρ a)

-- a product of variables with a sign (true: negative), and a sum of such
pub data Term : Type 0 where
  term : Bool → List ℕ → Term

abbrev pub list_eqb : List ℕ → List ℕ → Bool
list_eqb [] [] = true
list_eqb [] (y ∷ ys) = false
list_eqb (x ∷ xs) [] = false
list_eqb (x ∷ xs) (y ∷ ys) = eqb x y && list_eqb xs ys

abbrev pub is_before : List ℕ → List ℕ → Bool
is_before [] ys = true
is_before (x ∷ xs) [] = false
is_before (x ∷ xs) (y ∷ ys) = cond (eqb x y) (is_before xs ys) (ltb x y)

abbrev pub signs_differ : Bool → Bool → Bool
signs_differ true true = false
signs_differ true false = true
signs_differ false true = true
signs_differ false false = false

abbrev pub put : ℕ → List ℕ → List ℕ
put i [] = i ∷ []
put i (j ∷ m) = cond (ltb j i) (j ∷ put i m) (i ∷ j ∷ m)

abbrev pub product : List ℕ → List ℕ → List ℕ
product [] n = n
product (i ∷ m) n = put i (product m n)

abbrev pub insert : Bool → List ℕ → List Term → List Term
insert s m [] = term s m ∷ []
insert s m (term t n ∷ p) =
    cond (list_eqb m n && signs_differ s t) p
    (cond (is_before m n) (term s m ∷ term t n ∷ p) (term t n ∷ insert s m p))

abbrev pub sum_of : List Term → List Term → List Term
sum_of [] q = q
sum_of (term s m ∷ p) q = insert s m (sum_of p q)

abbrev pub times_term : Bool → List ℕ → List Term → List Term
times_term s m [] = []
times_term s m (term t n ∷ p) = insert (signs_differ s t) (product m n) (times_term s m p)

abbrev pub product_of : List Term → List Term → List Term
product_of [] q = []
product_of (term s m ∷ p) q = sum_of (times_term s m q) (product_of p q)

abbrev pub negation_of : List Term → List Term
negation_of [] = []
negation_of (term s m ∷ p) = term (not s) m ∷ negation_of p

abbrev pub norm : Ex → List Term
norm (v i) = term false (i ∷ []) ∷ []
norm nil = []
norm one = term false [] ∷ []
norm (plus a b) = sum_of (norm a) (norm b)
norm (times a b) = product_of (norm a) (norm b)
norm (minus a) = negation_of (norm a)

-- what they mean
abbrev pub with_sign : {A : Type 0} → Ring A → Bool → A → A
with_sign R true x = R.neg x
with_sign R false x = x

abbrev pub mono : {A : Type 0} → Ring A → List A → List ℕ → A
mono R ρ [] = R.unit
mono R ρ (i ∷ m) = R.mul (get_or ρ i R.null) (mono R ρ m)

abbrev pub poly : {A : Type 0} → Ring A → List A → List Term → A
poly R ρ [] = R.null
poly R ρ (term s m ∷ p) = R.add (with_sign R s (mono R ρ m)) (poly R ρ p)

list_eqb_is : (m n : List ℕ) → T (list_eqb m n) → m ≡ n
list_eqb_is [] [] h = refl
list_eqb_is [] (y ∷ ys) h = elim h [ ]
list_eqb_is (x ∷ xs) [] h = elim h [ ]
list_eqb_is (x ∷ xs) (y ∷ ys) h = same_items (eqb x y) (list_eqb xs ys) h (λ e. eqb→eq x y e) (λ e. list_eqb_is xs ys e)
  where
    same_items : (a b : Bool) → T (a && b) → (T a → x ≡ y) → (T b → xs ≡ ys) → x ∷ xs ≡ y ∷ ys
    same_items true true h f g = ap₂ (λ a rest. a ∷ rest) (f tt) (g tt)
    same_items true false h f g = elim h [ ]
    same_items false b h f g = elim h [ ]

put_is : {A : Type 0} (R : Ring A) (ρ : List A) (i : ℕ) (m : List ℕ) → mono R ρ (put i m) ≡ R.mul (get_or ρ i R.null) (mono R ρ m)
put_is R ρ i [] = refl
put_is R ρ i (j ∷ m) = by_test (ltb j i) (put_is R ρ i m)
  where
    by_test : (b : Bool) → mono R ρ (put i m) ≡ R.mul (get_or ρ i R.null) (mono R ρ m)
        → mono R ρ (cond b (j ∷ put i m) (i ∷ j ∷ m)) ≡ R.mul (get_or ρ i R.null) (R.mul (get_or ρ j R.null) (mono R ρ m))
    by_test true ih = ap (R.mul (get_or ρ j R.null)) ih ∙ mul_left_comm R (get_or ρ j R.null) (get_or ρ i R.null) (mono R ρ m)
    by_test false ih = refl

product_is : {A : Type 0} (R : Ring A) (ρ : List A) (m n : List ℕ) → mono R ρ (product m n) ≡ R.mul (mono R ρ m) (mono R ρ n)
product_is R ρ [] n = sym (R.unit-mul (mono R ρ n))
product_is R ρ (i ∷ m) n = put_is R ρ i (product m n) ∙ ap (R.mul (get_or ρ i R.null)) (product_is R ρ m n)
    ∙ sym (R.mul_assoc (get_or ρ i R.null) (mono R ρ m) (mono R ρ n))

opposites_cancel : {A : Type 0} (R : Ring A) (s t : Bool) (x y : A) → T (signs_differ s t) → x ≡ R.add (with_sign R s y) (R.add (with_sign R t y) x)
opposites_cancel R true true x y h = elim h [ ]
opposites_cancel R false false x y h = elim h [ ]
opposites_cancel R true false x y h = sym (sym (R.add_assoc (R.neg y) y x) ∙ ap (λ z. R.add z x) (R.add_comm (R.neg y) y ∙ R.add-neg y) ∙ R.null-add x)
opposites_cancel R false true x y h = sym (sym (R.add_assoc y (R.neg y) x) ∙ ap (λ z. R.add z x) (R.add-neg y) ∙ R.null-add x)

insert_is : {A : Type 0} (R : Ring A) (ρ : List A) (s : Bool) (m : List ℕ) (p : List Term)
    → poly R ρ (insert s m p) ≡ R.add (with_sign R s (mono R ρ m)) (poly R ρ p)
insert_is R ρ s m [] = refl
insert_is R ρ s m (term t n ∷ p) = by_test (list_eqb m n) (signs_differ s t) (is_before m n) (λ h. list_eqb_is m n h) (λ h. h)
    (ap (R.add (with_sign R t (mono R ρ n))) (insert_is R ρ s m p) ∙ add_left_comm R (with_sign R t (mono R ρ n)) (with_sign R s (mono R ρ m)) (poly R ρ p))
  where
    by_order : (b : Bool) → R.add (with_sign R t (mono R ρ n)) (poly R ρ (insert s m p))
        ≡ R.add (with_sign R s (mono R ρ m)) (R.add (with_sign R t (mono R ρ n)) (poly R ρ p))
        → poly R ρ (cond b (term s m ∷ term t n ∷ p) (term t n ∷ insert s m p))
        ≡ R.add (with_sign R s (mono R ρ m)) (R.add (with_sign R t (mono R ρ n)) (poly R ρ p))
    by_order true ih = refl
    by_order false ih = ih

    by_test : (a d b : Bool) → (T a → m ≡ n) → (T d → T (signs_differ s t))
        → R.add (with_sign R t (mono R ρ n)) (poly R ρ (insert s m p))
        ≡ R.add (with_sign R s (mono R ρ m)) (R.add (with_sign R t (mono R ρ n)) (poly R ρ p))
        → poly R ρ (cond (a && d) p (cond b (term s m ∷ term t n ∷ p) (term t n ∷ insert s m p)))
        ≡ R.add (with_sign R s (mono R ρ m)) (R.add (with_sign R t (mono R ρ n)) (poly R ρ p))
    by_test true true b e f ih = subst (λ (k : List ℕ). poly R ρ p
        ≡ R.add (with_sign R s (mono R ρ m)) (R.add (with_sign R t (mono R ρ k)) (poly R ρ p))) (e tt)
        (opposites_cancel R s t (poly R ρ p) (mono R ρ m) (f tt))
    by_test true false b e f ih = by_order b ih
    by_test false d b e f ih = by_order b ih

sum_is : {A : Type 0} (R : Ring A) (ρ : List A) (p q : List Term) → poly R ρ (sum_of p q) ≡ R.add (poly R ρ p) (poly R ρ q)
sum_is R ρ [] q = sym (R.null-add (poly R ρ q))
sum_is R ρ (term s m ∷ p) q = insert_is R ρ s m (sum_of p q) ∙ ap (R.add (with_sign R s (mono R ρ m))) (sum_is R ρ p q)
    ∙ sym (R.add_assoc (with_sign R s (mono R ρ m)) (poly R ρ p) (poly R ρ q))

signs : {A : Type 0} (R : Ring A) (s t : Bool) (x y : A) → with_sign R (signs_differ s t) (R.mul x y) ≡ R.mul (with_sign R s x) (with_sign R t y)
signs R true true x y = sym (neg-mul R x (R.neg y) ∙ ap R.neg (mul-neg R x y) ∙ neg-neg R (R.mul x y))
signs R true false x y = sym (neg-mul R x y)
signs R false true x y = sym (mul-neg R x y)
signs R false false x y = refl

scaled_is : {A : Type 0} (R : Ring A) (ρ : List A) (s : Bool) (m : List ℕ) (p : List Term)
    → poly R ρ (times_term s m p) ≡ R.mul (with_sign R s (mono R ρ m)) (poly R ρ p)
scaled_is R ρ s m [] = sym (mul-null R (with_sign R s (mono R ρ m)))
scaled_is R ρ s m (term t n ∷ p) =
    insert_is R ρ (signs_differ s t) (product m n) (times_term s m p)
    ∙ ap₂ R.add (ap (with_sign R (signs_differ s t)) (product_is R ρ m n) ∙ signs R s t (mono R ρ m) (mono R ρ n)) (scaled_is R ρ s m p)
    ∙ sym (R.mul-add (with_sign R s (mono R ρ m)) (with_sign R t (mono R ρ n)) (poly R ρ p))

product_of_is : {A : Type 0} (R : Ring A) (ρ : List A) (p q : List Term) → poly R ρ (product_of p q) ≡ R.mul (poly R ρ p) (poly R ρ q)
product_of_is R ρ [] q = sym (R.mul_comm R.null (poly R ρ q) ∙ mul-null R (poly R ρ q))
product_of_is R ρ (term s m ∷ p) q =
    sum_is R ρ (times_term s m q) (product_of p q)
    ∙ ap₂ R.add (scaled_is R ρ s m q) (product_of_is R ρ p q)
    ∙ sym (add-mul R (with_sign R s (mono R ρ m)) (poly R ρ p) (poly R ρ q))

negated_is : {A : Type 0} (R : Ring A) (ρ : List A) (p : List Term) → poly R ρ (negation_of p) ≡ R.neg (poly R ρ p)
negated_is R ρ [] = sym (neg-null R)
negated_is R ρ (term s m ∷ p) = ap₂ R.add (by_sign s) (negated_is R ρ p) ∙ sym (neg-add R (with_sign R s (mono R ρ m)) (poly R ρ p))
  where
    by_sign : (b : Bool) → with_sign R (not b) (mono R ρ m) ≡ R.neg (with_sign R b (mono R ρ m))
    by_sign true = sym (neg-neg R (mono R ρ m))
    by_sign false = refl

pub norm_is : {A : Type 0} (R : Ring A) (ρ : List A) (e : Ex) → poly R ρ (norm e) ≡ value R ρ e
norm_is R ρ (v i) = add-null R (R.mul (get_or ρ i R.null) R.unit) ∙ R.mul_comm (get_or ρ i R.null) R.unit ∙ R.unit-mul (get_or ρ i R.null)
norm_is R ρ nil = refl
norm_is R ρ one = add-null R R.unit
norm_is R ρ (plus a b) = sum_is R ρ (norm a) (norm b) ∙ ap₂ R.add (norm_is R ρ a) (norm_is R ρ b)
norm_is R ρ (times a b) = product_of_is R ρ (norm a) (norm b) ∙ ap₂ R.mul (norm_is R ρ a) (norm_is R ρ b)
norm_is R ρ (minus a) = negated_is R ρ (norm a) ∙ ap R.neg (norm_is R ρ a)

-- two expressions with one normal form have one value
pub ring : {A : Type 0} (R : Ring A) (ρ : List A) (a b : Ex) → norm a ≡ norm b → value R ρ a ≡ value R ρ b
ring R ρ a b e = sym (norm_is R ρ a) ∙ ap (poly R ρ) e ∙ norm_is R ρ b
