-- The candidate of number k.
use Rattle.std.proofs.Common.{◌≡◌, ℕ, ◌+◌, ◌^◌, ◌<◌, ◌≤◌, List, [], ◌∷◌, ◌++◌, length, get_or, take, drop, map, refl, ap, sym, ◌∙◌, arith, length-append}
use Rattle.std.proofs.lemmas.List.{map-append, take-map, length-map, length-take-le, get_or-map, drop_more, drop_all}
use Rattle.std.proofs.Math.Nat.{pow-zero}
use Rattle.it_contain.specs.declared.types.Shape.{Shape}
use Rattle.it_contain.specs.Shapes.{tuples, candidate_of, tuple_candidates}
use Rattle.it_contain.specs.Digits.{digits, tuple_at}
use Rattle.it_contain.proofs.TupleLemmas.{at_tuples, length_tuples}

four_of : (f : ℕ → ℕ) (r : List ℕ) → length r ≡ 4 → f (get_or r 0 0) ∷ f (get_or r 1 0) ∷ f (get_or r 2 0) ∷ f (get_or r 3 0) ∷ [] ≡ map f r
four_of f [] n = absurd (omega arith)
four_of f (a ∷ []) n = absurd (omega arith)
four_of f (a ∷ b ∷ []) n = absurd (omega arith)
four_of f (a ∷ b ∷ c ∷ []) n = absurd (omega arith)
four_of f (a ∷ b ∷ c ∷ d ∷ []) n = refl
four_of f (a ∷ b ∷ c ∷ d ∷ e ∷ r) n = absurd (omega arith)

map_keeps_padding : (f : ℕ → ℕ) (ds : List ℕ) → f 0 ≡ 0 → map f (take 4 (ds ++ (0 ∷ 0 ∷ 0 ∷ 0 ∷ []))) ≡ take 4 (map f ds ++ (0 ∷ 0 ∷ 0 ∷ 0 ∷ []))
map_keeps_padding f ds none = sym (take-map f 4 (ds ++ (0 ∷ 0 ∷ 0 ∷ 0 ∷ [])))
    ∙ ap (take 4) (map-append f ds (0 ∷ 0 ∷ 0 ∷ 0 ∷ []) ∙ ap (λ z. map f ds ++ (z ∷ z ∷ z ∷ z ∷ [])) none)

-- four sets by the digits are the candidate
pub candidate_made : (xs : List ℕ) (m a at : ℕ) (r : List ℕ) (s t u v : ℕ) → length xs ≡ m → get_or xs 0 0 ≡ 0
    → r ≡ take 4 (digits m a at ++ (0 ∷ 0 ∷ 0 ∷ 0 ∷ []))
    → s ≡ get_or xs (get_or r 0 0) 0 → t ≡ get_or xs (get_or r 1 0) 0 → u ≡ get_or xs (get_or r 2 0) 0 → v ≡ get_or xs (get_or r 3 0) 0
    → record { count = a; parts = s ∷ t ∷ u ∷ v ∷ [] } ≡ candidate_of a (tuple_at xs a at)
unfolding candidate_of
candidate_made xs m a at r s t u v n none is es et eu ev =
    let long : 4 ≤ length (digits m a at ++ (0 ∷ 0 ∷ 0 ∷ 0 ∷ [])) = omega (arith, length-append (digits m a at) (0 ∷ 0 ∷ 0 ∷ 0 ∷ [])) in
    let four : length r ≡ 4 = ap length is ∙ length-take-le 4 _ long in
    let sets : s ∷ t ∷ u ∷ v ∷ [] ≡ map (λ d. get_or xs d 0) r =
    ap (λ z. z ∷ t ∷ u ∷ v ∷ []) es ∙ ap (λ z. get_or xs (get_or r 0 0) 0 ∷ z ∷ u ∷ v ∷ []) et
    ∙ ap (λ z. get_or xs (get_or r 0 0) 0 ∷ get_or xs (get_or r 1 0) 0 ∷ z ∷ v ∷ []) eu
    ∙ ap (λ z. get_or xs (get_or r 0 0) 0 ∷ get_or xs (get_or r 1 0) 0 ∷ get_or xs (get_or r 2 0) 0 ∷ z ∷ []) ev
    ∙ four_of (λ d. get_or xs d 0) r four in
    let all : s ∷ t ∷ u ∷ v ∷ [] ≡ take 4 (map (λ d. get_or xs d 0) (digits (length xs) a at) ++ (0 ∷ 0 ∷ 0 ∷ 0 ∷ [])) =
    sets ∙ ap (map (λ d. get_or xs d 0)) is ∙ map_keeps_padding (λ d. get_or xs d 0) (digits m a at) none
    ∙ ap (λ k. take 4 (map (λ d. get_or xs d 0) (digits k a at) ++ (0 ∷ 0 ∷ 0 ∷ 0 ∷ []))) (sym n) in
    ap (λ zs. record { count = a; parts = zs }) all

-- ---- the candidates from number k on

pub candidates_more : (sets : ℕ → List ℕ) (s : Shape) (k : ℕ) → 0 < length (sets s.variables) → k < length (sets s.variables) ^ s.parts
    → drop k (tuple_candidates sets s) ≡ candidate_of s.parts (tuple_at (sets s.variables) s.parts k) ∷ drop (k + 1) (tuple_candidates sets s)
unfolding tuple_candidates
candidates_more sets s k some lt =
    let n = length_tuples (sets s.variables) s.parts in
    let all = length-map (tuples (sets s.variables) s.parts) (candidate_of s.parts) in
    let it = get_or-map (candidate_of s.parts) (tuples (sets s.variables) s.parts) k [] (candidate_of s.parts []) (omega (arith, n))
    ∙ ap (candidate_of s.parts) (at_tuples (sets s.variables) s.parts k some lt) in
    drop_more (map (candidate_of s.parts) (tuples (sets s.variables) s.parts)) k (candidate_of s.parts []) (omega (arith, n, all))
    ∙ ap (λ c. c ∷ drop (k + 1) (map (candidate_of s.parts) (tuples (sets s.variables) s.parts))) it

pub candidates_end : (sets : ℕ → List ℕ) (s : Shape) (k : ℕ) → length (sets s.variables) ^ s.parts ≤ k → drop k (tuple_candidates sets s) ≡ []
unfolding tuple_candidates
candidates_end sets s k le =
    let n = length_tuples (sets s.variables) s.parts in
    let all = length-map (tuples (sets s.variables) s.parts) (candidate_of s.parts) in
    drop_all k (map (candidate_of s.parts) (tuples (sets s.variables) s.parts)) (omega (arith, n, all))

-- without parts there is one candidate
pub none_without_parts : (sets : ℕ → List ℕ) (n : ℕ) → drop 1 (tuple_candidates sets (record { variables = n; parts = 0 })) ≡ []
none_without_parts sets n = candidates_end sets (record { variables = n; parts = 0 }) 1 (omega (arith, pow-zero (length (sets n))))
