-- The extreme rays in order as loops make them.
use Rattle.std.proofs.Common.{◌≡◌, ℕ, zero, suc, ◌+◌, ◌<◌, ◌≤◌, ℤ, List, [], ◌∷◌, ◌++◌, map, filter, length, take, drop, get_or, not, ◌&&◌, ◌||◌, Bool, true, false, if◌then◌else◌, refl, sym, ap, ap₂, subst, ◌∙◌, arith, append_assoc, All}
use Rattle.std.specs.List.{AllWithin, flat_map, insert, list_any, AllByRecursion as Every}
use Rattle.std.specs.Global.{Vec}
use Rattle.std.proofs.lemmas.Grind.{take_at_read}
use Rattle.std.proofs.lemmas.List.{append-nil, get_or-map, get_or_default, get_or-drop, drop-drop, drop_all, take_all}
use Rattle.std.proofs.lemmas.List.Elements.{AllWithin-more}
use Rattle.std.proofs.lemmas.Bool.{false≢true}
use Rattle.it_number.specs.Limit.{IsWithin}
use Rattle.std.specs.Int.Signed.{lt_z}
use Rattle.std.specs.Ordering.{int_eq}
use Rattle.it_space.specs.Rows.{Ascends, Terms, coefficient, single_term}
use Rattle.it_space.proofs.ListLemmas.{drop_item}
use Rattle.it_space.proofs.TermLemmas.{ascends-single_term}
use Rattle.it_outer.specs.Extremes.{direction, is_extreme, is_greater, is_outdone, is_within, ordered_after, put_in_order, tight_at}
use Rattle.it_outer.specs.Rounds.{AscendFrom}

-- ---- directions

pub terms_ascend : (from : ℕ) (p : ℕ → ℤ) (kept : List ℕ) → AscendFrom from kept → Every (λ c. IsWithin (p c)) kept
    → Ascends from (flat_map (λ c. single_term c (p c)) kept)
terms_ascend from p [] a w = tt
terms_ascend from p (c ∷ cs) a w = ascends-single_term from c (p c) (flat_map (λ c. single_term c (p c)) cs) a.0 w.0 (terms_ascend (c + 1) p cs a.1 w.1)

-- ---- rest of a list of tests

pub any_here : {X : Type 0} (f : X → Bool) (xs : List X) (i : ℕ) (x : X) → i < length xs → x ≡ get_or xs i x → f x ≡ true
    → list_any f (drop i xs) ≡ list_any f xs → list_any f xs ≡ true
any_here f xs i x l at t e = sym e ∙ ap (list_any f) (drop_item xs i x l at) ∙ ap (λ b. b || list_any f (drop (i + 1) xs)) t

pub any_later : {X : Type 0} (f : X → Bool) (xs : List X) (i : ℕ) (x : X) → i < length xs → x ≡ get_or xs i x → f x ≡ false
    → list_any f (drop i xs) ≡ list_any f xs → list_any f (drop (i + 1) xs) ≡ list_any f xs
any_later f xs i x l at t e = sym (ap (list_any f) (drop_item xs i x l at) ∙ ap (λ b. b || list_any f (drop (i + 1) xs)) t) ∙ e

pub any_none : {X : Type 0} (f : X → Bool) (xs : List X) (i : ℕ) → length xs ≤ i → list_any f (drop i xs) ≡ list_any f xs → list_any f xs ≡ false
any_none f xs i l e = sym e ∙ ap (list_any f) (drop_all i xs l)

-- ---- order

pub greater_here : (kept : List ℕ) (xs ys : Terms) (i c : ℕ) → i < length kept → c ≡ get_or kept i c
    → is_greater (drop i kept) xs ys ≡ is_greater kept xs ys → is_greater (c ∷ drop (i + 1) kept) xs ys ≡ is_greater kept xs ys
greater_here kept xs ys i c l at e = sym (ap (λ cs. is_greater cs xs ys) (drop_item kept i c l at)) ∙ e

module _ (kept : List ℕ) (p : List ℤ) where
  put_before : (q : List ℤ) (qs : List (List ℤ)) → is_greater kept (direction kept p) (direction kept q) ≡ true → put_in_order kept p (q ∷ qs) ≡ p ∷ q ∷ qs
  put_before q qs t = ap (λ b. if b then p ∷ q ∷ qs else q ∷ put_in_order kept p qs) t

  put_after : (q : List ℤ) (qs : List (List ℤ)) → is_greater kept (direction kept p) (direction kept q) ≡ false
      → put_in_order kept p (q ∷ qs) ≡ q ∷ put_in_order kept p qs
  put_after q qs t = ap (λ b. if b then p ∷ q ∷ qs else q ∷ put_in_order kept p qs) t

  pub place_later : (qs : List (List ℤ)) (i : ℕ) (q : List ℤ) → i < length qs → q ≡ get_or qs i q
      → is_greater kept (direction kept p) (direction kept q) ≡ false
      → take i qs ++ put_in_order kept p (drop i qs) ≡ put_in_order kept p qs
      → take (i + 1) qs ++ put_in_order kept p (drop (i + 1) qs) ≡ put_in_order kept p qs
  place_later qs i q l at t e =
      let longer : take (i + 1) qs ≡ take i qs ++ q ∷ [] = (take_at_read qs i q l).1 ∙ ap (λ (x : List ℤ). take i qs ++ x ∷ []) (sym at) in
      ap (λ xs. xs ++ put_in_order kept p (drop (i + 1) qs)) longer ∙ append_assoc (take i qs) (q ∷ []) (put_in_order kept p (drop (i + 1) qs))
      ∙ ap (λ xs. take i qs ++ xs) (sym (put_after q (drop (i + 1) qs) t)) ∙ ap (λ xs. take i qs ++ put_in_order kept p xs) (sym (drop_item qs i q l at)) ∙ e

  pub place_here : (qs : List (List ℤ)) (i : ℕ) (q : List ℤ) → i < length qs → q ≡ get_or qs i q → is_greater kept (direction kept p) (direction kept q) ≡ true
      → take i qs ++ put_in_order kept p (drop i qs) ≡ put_in_order kept p qs → put_in_order kept p qs ≡ insert qs i p
  place_here qs i q l at t e = sym e ∙ ap (λ xs. take i qs ++ put_in_order kept p xs) (drop_item qs i q l at)
      ∙ ap (λ xs. take i qs ++ xs) (put_before q (drop (i + 1) qs) t)
      ∙ ap (λ xs. take i qs ++ p ∷ xs) (sym (drop_item qs i q l at))

  pub place_last : (qs : List (List ℤ)) (i : ℕ) → length qs ≤ i → take i qs ++ put_in_order kept p (drop i qs) ≡ put_in_order kept p qs
      → put_in_order kept p qs ≡ insert qs (length qs) p
  place_last qs i l e = sym e ∙ ap₂ (λ xs ys. xs ++ put_in_order kept p ys) (take_all i qs l ∙ sym (take_all (length qs) qs (omega arith))) (drop_all i qs l)
      ∙ ap (λ xs. take (length qs) qs ++ p ∷ xs) (sym (drop_all (length qs) qs (omega arith)))

-- ---- tight rows

pub within_step : (ps qs : List Bool) (i : ℕ) (t : Bool) → i < length ps → t ≡ get_or ps i t
    → is_within (drop i ps) (drop i qs) ≡ ((not t || get_or qs i false) && is_within (drop (i + 1) ps) (drop (i + 1) qs))
within_step ps qs i t l at = ap (λ xs. is_within xs (drop i qs)) (drop_item ps i t l at)
    ∙ ap₂ (λ b xs. (not t || b) && is_within (drop (i + 1) ps) xs) (get_or-drop i qs 0 false
    ∙ ap (λ k. get_or qs k false) (let e : i + 0 ≡ i = omega arith in e)) (drop-drop 1 i qs)

pub within_here : (ps qs : List Bool) (i : ℕ) (t : Bool) → i < length ps → t ≡ get_or ps i t → t ≡ true → get_or qs i false ≡ false
    → is_within (drop i ps) (drop i qs) ≡ is_within ps qs → is_within ps qs ≡ false
within_here ps qs i t l at is loose e = sym e ∙ within_step ps qs i t l at ∙ ap₂ (λ b c. (not b || c) && is_within (drop (i + 1) ps) (drop (i + 1) qs)) is loose

pub within_later : (ps qs : List Bool) (i : ℕ) (t : Bool) → i < length ps → t ≡ get_or ps i t → (not t || get_or qs i false) ≡ true
    → is_within (drop i ps) (drop i qs) ≡ is_within ps qs → is_within (drop (i + 1) ps) (drop (i + 1) qs) ≡ is_within ps qs
within_later ps qs i t l at is e = sym (within_step ps qs i t l at ∙ ap (λ b. b && is_within (drop (i + 1) ps) (drop (i + 1) qs)) is) ∙ e

-- a place of which the first list says nothing, or the second says the same
pub loose_or : (t u : Bool) → t ≡ false → (not t || u) ≡ true
loose_or true u e = absurd (false≢true (sym e))
loose_or false u e = refl

pub tight_or : (t u : Bool) → u ≡ true → (not t || u) ≡ true
tight_or true u e = e
tight_or false u e = refl

-- ---- lists that loops build

pub flat_more : (f : ℕ → Terms) (kept : List ℕ) (i : ℕ) (xs ys all : Terms) → i < length kept → ys ≡ xs ++ f (get_or kept i 0)
    → xs ++ flat_map f (drop i kept) ≡ all → ys ++ flat_map f (drop (i + 1) kept) ≡ all
flat_more f kept i xs ys all l pushed e = ap (λ zs. zs ++ flat_map f (drop (i + 1) kept)) pushed
    ∙ append_assoc xs (f (get_or kept i 0)) (flat_map f (drop (i + 1) kept))
    ∙ ap (λ cs. xs ++ flat_map f cs) (sym (drop_item kept i (get_or kept i 0) l (sym (get_or_default kept i (get_or kept i 0) 0 l)))) ∙ e

pub map_more : {X Y : Type 0} (f : X → Y) (xs : List X) (ys zs all : List Y) (i : ℕ) (x : X) (y : Y) → i < length xs → zs ≡ ys ++ y ∷ []
    → y ≡ f x → x ≡ get_or xs i x → ys ++ map f (drop i xs) ≡ all → zs ++ map f (drop (i + 1) xs) ≡ all
map_more {Y = Y} f xs ys zs all i x y l pushed is at e = ap (λ rs. rs ++ map f (drop (i + 1) xs)) pushed ∙ append_assoc ys (y ∷ []) (map f (drop (i + 1) xs))
    ∙ ap (λ (z : Y). ys ++ z ∷ map f (drop (i + 1) xs)) is ∙ ap (λ rs. ys ++ map f rs) (sym (drop_item xs i x l at)) ∙ e

pub within_more : {X : Type 0} (P : X → Type 0) (xs : List X) (i : ℕ) (x : X) → i < length xs → x ≡ get_or xs i x → P x → AllWithin P xs 0 i
    → AllWithin P xs 0 (i + 1)
within_more P xs i x l at p a = AllWithin-more P xs 0 i a (λ d. subst P (at ∙ get_or_default xs i x d l) p)

pub within_all : {X : Type 0} (P : X → Type 0) (xs : List X) (i : ℕ) → length xs ≤ i → AllWithin P xs 0 i → All P xs
within_all P xs i l a k d below = a k d (omega arith) (omega (arith, below, l))

-- ---- the extreme rays

pub wanted_more : (kept : List ℕ) (test : List ℤ → Bool) (rays old new all : List (List ℤ)) (i : ℕ) (ray : List ℤ) (b : Bool)
    → i < length rays → ray ≡ get_or rays i ray → b ≡ test ray
    → new ≡ (if b then put_in_order kept ray old else old) → ordered_after kept old (filter test (drop i rays)) ≡ all
    → ordered_after kept new (filter test (drop (i + 1) rays)) ≡ all
wanted_more kept test rays old new all i ray b l at is made e =
    ap (λ xs. ordered_after kept xs (filter test (drop (i + 1) rays))) (made ∙ ap (λ c. if c then put_in_order kept ray old else old) is)
    ∙ by_test (test ray) ∙ ap (λ xs. ordered_after kept old (filter test xs)) (sym (drop_item rays i ray l at)) ∙ e
  where
    by_test : (c : Bool) → ordered_after kept (if c then put_in_order kept ray old else old) (filter test (drop (i + 1) rays))
        ≡ ordered_after kept old (if c then ray ∷ filter test (drop (i + 1) rays) else filter test (drop (i + 1) rays))
    by_test true = refl
    by_test false = refl

pub wanted_done : (kept : List ℕ) (test : List ℤ → Bool) (rays old all : List (List ℤ)) (i : ℕ) → length rays ≤ i
    → ordered_after kept old (filter test (drop i rays)) ≡ all → old ≡ all
wanted_done kept test rays old all i l e = ap (λ xs. ordered_after kept old (filter test xs)) (sym (drop_all i rays l)) ∙ e

pub flat_done : (f : ℕ → Terms) (kept : List ℕ) (i : ℕ) (xs all : Terms) → length kept ≤ i → xs ++ flat_map f (drop i kept) ≡ all → xs ≡ all
flat_done f kept i xs all l e = sym (append-nil xs) ∙ ap (λ cs. xs ++ flat_map f cs) (sym (drop_all i kept l)) ∙ e

pub greater_later : (kept : List ℕ) (xs ys : Terms) (i : ℕ) → i < length kept
    → int_eq (coefficient xs (get_or kept i 0)) (coefficient ys (get_or kept i 0)) ≡ true
    → is_greater (drop i kept) xs ys ≡ is_greater kept xs ys
    → is_greater (drop (i + 1) kept) xs ys ≡ is_greater kept xs ys
greater_later kept xs ys i l same e =
    let c : ℕ = get_or kept i 0 in
    sym (ap (λ b. if b then is_greater (drop (i + 1) kept) xs ys else lt_z (coefficient ys c) (coefficient xs c)) same)
    ∙ greater_here kept xs ys i c l (sym (get_or_default kept i c 0 l)) e

pub any_of_lists : (f : List Bool → Bool) (vs : List (Vec Bool)) → list_any f (map (λ v. v.items) vs) ≡ list_any (λ v. f v.items) vs
any_of_lists f [] = refl
any_of_lists f (v ∷ vs) = ap (λ b. f v.items || b) (any_of_lists f vs)

pub not_all : {X : Type 0} (P : X → Type 0) (xs : List X) (i : ℕ) (x : X) → i < length xs → x ≡ get_or xs i x → ¬ (P x) → ¬ (All P xs)
not_all P xs i x l at n a = n (subst P (sym at) (a i x l))

any_mapped : (f : List Bool → Bool) (g : List ℤ → List Bool) (ps : List (List ℤ)) → list_any f (map g ps) ≡ list_any (λ p. f (g p)) ps
any_mapped f g [] = refl
any_mapped f g (p ∷ ps) = ap (λ b. f (g p) || b) (any_mapped f g ps)

item_of : {X Y : Type 0} (f : X → Y) (vs : List X) (i : ℕ) (d : X) → get_or (map f vs) i (f d) ≡ f (get_or vs i d)
item_of f [] i d = refl
item_of f (v ∷ vs) zero d = refl
item_of f (v ∷ vs) (suc i) d = item_of f vs i d

-- what the lists say of a ray
pub extreme_is : (rows : List Terms) (rays : List (List ℤ)) (lists : List (Vec Bool)) (i : ℕ) (own : Vec Bool) (ray : List ℤ)
    → map (λ v. v.items) lists ≡ map (tight_at rows) rays → i < length rays → ray ≡ get_or rays i ray → own ≡ get_or lists i own
    → not (list_any (is_outdone own.items) (map (λ v. v.items) lists)) ≡ is_extreme rows rays ray
extreme_is rows rays lists i own ray are l at is =
    ap₂ (λ (t : List Bool) ts. not (list_any (is_outdone t) ts)) tight are ∙ ap not (any_mapped (is_outdone (tight_at rows ray)) (tight_at rows) rays)
  where
    tight : own.items ≡ tight_at rows ray
    tight = ap (λ v. v.items) is ∙ sym (item_of (λ v. v.items) lists i own) ∙ ap (λ xs. get_or xs i own.items) are
        ∙ get_or-map (tight_at rows) rays i ray own.items l ∙ ap (tight_at rows) (sym at)
