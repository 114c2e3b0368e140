-- Lists that loops make item by item.
use Rattle.std.proofs.Common.{◌≡◌, ℕ, ℤ, pos, zero, suc, ◌+◌, ◌-◌, ◌<◌, ◌≤◌, List, [], ◌∷◌, ◌++◌, append_assoc, append-nil, length, map, drop, get_or, sym, ap, ◌∙◌, arith}
use Rattle.std.proofs.lemmas.List.{drop_more, drop_all, map-append}
use Rattle.it_problems.specs.declared.problems.Kind.{Kind}
use Rattle.it_space.specs.Rows.{Terms, single_term}
use Rattle.it_space.specs.Sums.{terms_from}
use Rattle.it_polymatroid.specs.Elementals.{span}
use Rattle.it_elemental.specs.Generators.{Generator, generator_at}
use Rattle.it_columns.specs.Columns.{columns, columns_by}
use Rattle.it_space.proofs.ListLemmas.{drop_item}
use Rattle.it_best.specs.Phases.{unknown_view, unknown_views, slacks, slack_by}
use Rattle.it_best.specs.declared.unknowns.Unknown.{Unknown}

-- a further piece, with which the rest begins
pub piece_more : {Y : Type 0} (old new one rest whole : List Y) → new ≡ old ++ one → old ++ (one ++ rest) ≡ whole → new ++ rest ≡ whole
piece_more old new one rest whole is inv = ap (λ ys. ys ++ rest) is ∙ append_assoc old one rest ∙ inv

pub piece_end : {Y : Type 0} (old rest whole : List Y) → rest ≡ [] → old ++ rest ≡ whole → old ≡ whole
piece_end old rest whole e inv = sym (append-nil old) ∙ ap (λ ys. old ++ ys) (sym e) ∙ inv

-- by the items of a list
pub map_more : {X Y : Type 0} (f : X → Y) (xs : List X) (i : ℕ) (x : X) (old new whole : List Y) → i < length xs → x ≡ get_or xs i x
    → new ≡ old ++ f x ∷ [] → old ++ map f (drop i xs) ≡ whole → new ++ map f (drop (i + 1) xs) ≡ whole
map_more f xs i x old new whole h is e inv = piece_more old new (f x ∷ []) (map f (drop (i + 1) xs)) whole e
    (ap (λ ys. old ++ map f ys) (sym (drop_item xs i x h is)) ∙ inv)

pub map_end : {X Y : Type 0} (f : X → Y) (xs : List X) (i : ℕ) (old whole : List Y) → length xs ≤ i → old ++ map f (drop i xs) ≡ whole → old ≡ whole
map_end f xs i old whole h inv = piece_end old (map f (drop i xs)) whole (ap (map f) (drop_all i xs h)) inv

-- by the nonzero numbers, each after its place
pub terms_more : (xs : List ℤ) (i : ℕ) (old new whole : Terms) → i < length xs → new ≡ old ++ single_term i (get_or xs i (pos 0))
    → old ++ terms_from i (drop i xs) ≡ whole → new ++ terms_from (i + 1) (drop (i + 1) xs) ≡ whole
terms_more xs i old new whole h e inv = piece_more old new (single_term i (get_or xs i (pos 0)))
    (terms_from (i + 1) (drop (i + 1) xs)) whole e (ap (λ ys. old ++ terms_from i ys) (sym (drop_more xs i (pos 0) h)) ∙ inv)

pub terms_end : (xs : List ℤ) (i : ℕ) (old whole : Terms) → length xs ≤ i → old ++ terms_from i (drop i xs) ≡ whole → old ≡ whole
terms_end xs i old whole h inv = piece_end old (terms_from i (drop i xs)) whole (ap (terms_from i) (drop_all i xs h)) inv

-- by the generators
generator_split : (gs : List Generator) (i : ℕ) → i < length gs → drop i gs ≡ generator_at gs i ∷ drop (i + 1) gs
generator_split gs i h = drop_more gs i _ h

pub generator_more : {Y : Type 0} (f : Generator → Y) (gs : List Generator) (i : ℕ) (old new whole : List Y) → i < length gs
    → new ≡ old ++ f (generator_at gs i) ∷ [] → old ++ map f (drop i gs) ≡ whole → new ++ map f (drop (i + 1) gs) ≡ whole
generator_more f gs i old new whole h e inv = piece_more old new (f (generator_at gs i) ∷ []) (map f (drop (i + 1) gs)) whole e
    (ap (λ ys. old ++ map f ys) (sym (generator_split gs i h)) ∙ inv)

-- by the numbers of a span
span_split : (c end : ℕ) → c < end → span c (end - c) ≡ c ∷ span (c + 1) (end - (c + 1))
span_split c end h = ap (span c) (one_more c end h)
  where
    one_more : (c end : ℕ) → c < end → end - c ≡ suc (end - (c + 1))
    one_more c end h = omega arith

pub span_more : {Y : Type 0} (f : ℕ → Y) (c end : ℕ) (old new whole : List Y) → c < end → new ≡ old ++ f c ∷ []
    → old ++ map f (span c (end - c)) ≡ whole → new ++ map f (span (c + 1) (end - (c + 1))) ≡ whole
span_more f c end old new whole h e inv = piece_more old new (f c ∷ []) (map f (span (c + 1) (end - (c + 1)))) whole e
    (ap (λ ys. old ++ map f ys) (sym (span_split c end h)) ∙ inv)

pub span_end : {Y : Type 0} (f : ℕ → Y) (c end : ℕ) (old whole : List Y) → end ≤ c → old ++ map f (span c (end - c)) ≡ whole → old ≡ whole
span_end f c end old whole h inv = piece_end old (map f (span c (end - c))) whole (ap (λ n. map f (span c n)) (none c end h)) inv
  where
    none : (c end : ℕ) → end ≤ c → end - c ≡ zero
    none c end h = omega arith

pub numbers_more : (c end : ℕ) (old new whole : List ℕ) → c < end → new ≡ old ++ c ∷ [] → old ++ span c (end - c) ≡ whole
    → new ++ span (c + 1) (end - (c + 1)) ≡ whole
numbers_more c end old new whole h e inv = piece_more old new (c ∷ []) (span (c + 1) (end - (c + 1))) whole e
    (ap (λ ys. old ++ ys) (sym (span_split c end h)) ∙ inv)

-- columns of unknowns
pub columns_more : (us : List Unknown) (i : ℕ) (u : Unknown) (kind : Kind) (row : Terms) (old new whole : List Terms) → i < length us
    → u ≡ get_or us i u → kind ≡ u.kind → row ≡ u.row → new ≡ old ++ columns_by kind row
    → old ++ columns (unknown_views (drop i us)) ≡ whole → new ++ columns (unknown_views (drop (i + 1) us)) ≡ whole
unfolding columns
columns_more us i u kind row old new whole h is k r e inv =
    piece_more old new (columns_by u.kind u.row) (columns (unknown_views (drop (i + 1) us))) whole
    (e ∙ ap (λ ys. old ++ ys) (Rattle.std.proofs.Common.ap₂ columns_by k r))
    (ap (λ ys. old ++ columns (unknown_views ys)) (sym (drop_item us i u h is)) ∙ inv)

pub columns_end : (us : List Unknown) (i : ℕ) (old whole : List Terms) → length us ≤ i → old ++ columns (unknown_views (drop i us)) ≡ whole → old ≡ whole
unfolding columns
columns_end us i old whole h inv = piece_end old (columns (unknown_views (drop i us))) whole (ap (λ ys. columns (unknown_views ys)) (drop_all i us h)) inv

-- views of unknowns
pub views_pushed : (old new : List Unknown) (u : Unknown) (g : Generator) → new ≡ old ++ u ∷ [] → unknown_view u ≡ g
    → unknown_views new ≡ unknown_views old ++ g ∷ []
views_pushed old new u g e is = ap unknown_views e ∙ map-append unknown_view old (u ∷ []) ∙ ap (λ v. unknown_views old ++ v ∷ []) is

-- the slacks of inequalities
pub slacks_more : (first : ℕ) (gs : List Generator) (i : ℕ) (old new whole : List Generator) (kind : Kind) (equation : ℕ) → i < length gs
    → kind ≡ (generator_at gs i).kind → equation ≡ first + i → new ≡ old ++ slack_by equation kind
    → old ++ slacks (first + i) (drop i gs) ≡ whole → new ++ slacks (first + (i + 1)) (drop (i + 1) gs) ≡ whole
unfolding slacks
slacks_more first gs i old new whole kind equation h k q e inv =
    ap (λ n. new ++ slacks n (drop (i + 1) gs)) (next first i)
    ∙ piece_more old new (slack_by (first + i) (generator_at gs i).kind) (slacks (first + i + 1) (drop (i + 1) gs)) whole
    (e ∙ ap (λ ys. old ++ ys) (Rattle.std.proofs.Common.ap₂ slack_by q k)) (ap (λ ys. old ++ slacks (first + i) ys) (sym (generator_split gs i h)) ∙ inv)
  where
    next : (a i : ℕ) → a + (i + 1) ≡ a + i + 1
    next a i = omega arith

pub slacks_end : (first : ℕ) (gs : List Generator) (i : ℕ) (old whole : List Generator) → length gs ≤ i
    → old ++ slacks (first + i) (drop i gs) ≡ whole → old ≡ whole
unfolding slacks
slacks_end first gs i old whole h inv = piece_end old (slacks (first + i) (drop i gs)) whole (ap (slacks (first + i)) (drop_all i gs h)) inv
