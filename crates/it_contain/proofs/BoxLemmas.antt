-- One box of a list is changed: what that does to all their meanings.
use Rattle.std.proofs.Common.{◌≡◌, ℕ, ◌+◌, ◌<◌, List, [], ◌∷◌, ◌++◌, length, ◌≤◌, get_or, take, drop, map, ap, sym, subst, ◌∙◌, arith}
use Rattle.std.proofs.Math.ListN.{set}
use Rattle.std.proofs.Math.Seq.{map-set_same}
use Rattle.std.proofs.lemmas.List.{map-set, take_more_set, take_more, length-map, get_or-map, get_or-drop, drop-drop, drop-set-lt, take_all, get_or-set_same}
use Rattle.std.specs.Prelude.{Option}
use Rattle.it_region.specs.declared.types.Candidate.{Candidate}
use Rattle.it_contain.specs.Proposals.{Takes}

-- a box is replaced by one with the same plan
pub kept_at : {B P : Type 0} (plan : B → P) (xs : List B) (i : ℕ) (b d : B) → d ≡ get_or xs i d → plan b ≡ plan d → map plan (set xs i b) ≡ map plan xs
kept_at plan xs i b d at same = map-set_same plan xs i b d (same ∙ ap plan at)

-- the first i boxes have been begun, and one more is
pub begun_more : {B P L : Type 0} (pending : B → L) (plan : B → P) (f : P → L) (xs : List B) (ps : List P) (i : ℕ) (b d : B)
    → i < length xs → map plan xs ≡ ps → d ≡ get_or xs i d → pending b ≡ f (plan d)
    → take i (map pending xs) ≡ take i (map f ps)
    → take (i + 1) (map pending (set xs i b)) ≡ take (i + 1) (map f ps)
begun_more pending plan f xs ps i b d lt is at set_to begun =
    let long : i < length (map pending xs) = omega (arith, length-map xs pending) in
    let same_length = ap length is in
    let enough : i < length ps = omega (arith, length-map xs plan, same_length) in
    let far : i < length (map f ps) = omega (arith, length-map ps f) in
    let its_plan : get_or ps i (plan d) ≡ plan d = ap (λ qs. get_or qs i (plan d)) (sym is) ∙ get_or-map plan xs i d (plan d) lt ∙ ap plan (sym at) in
    let its_list : get_or (map f ps) i (pending b) ≡ pending b = get_or-map f ps i (plan d) (pending b) enough ∙ ap f its_plan ∙ sym set_to in
    ap (take (i + 1)) (map-set pending xs i b) ∙ take_more_set (map pending xs) i (pending b) long
    ∙ ap (λ zs. zs ++ pending b ∷ []) begun ∙ ap (λ z. take i (map f ps) ++ z ∷ []) (sym its_list) ∙ sym (take_more (map f ps) i (pending b) far)

-- box i takes a step, and those after it are as they were
pub later_kept : {B L : Type 0} (pending : B → L) (xs : List B) (i : ℕ) (b : B) → drop (i + 1) (map pending (set xs i b)) ≡ drop (i + 1) (map pending xs)
later_kept pending xs i b = ap (drop (i + 1)) (map-set pending xs i b) ∙ drop-set-lt (i + 1) (map pending xs) i (pending b) (omega arith)

-- two lists that are equal from i on have the same member there
pub member_same : {A : Type 0} (xs ys : List A) (i : ℕ) (d : A) → drop i xs ≡ drop i ys → get_or xs i d ≡ get_or ys i d
member_same xs ys i d same =
    let zero_on : i + 0 ≡ i = omega arith in
    ap (λ k. get_or xs k d) (sym zero_on) ∙ sym (get_or-drop i xs 0 d) ∙ ap (λ zs. get_or zs 0 d) same ∙ get_or-drop i ys 0 d ∙ ap (λ k. get_or ys k d) zero_on

-- the first i plans have learned, and one more does
pub learned_more : {B P : Type 0} (plan : B → P) (f : P → P) (xs : List B) (ps : List P) (i : ℕ) (b d : B)
    → i < length xs → i < length ps → d ≡ get_or xs i d → plan b ≡ f (plan d)
    → drop i (map plan xs) ≡ drop i ps
    → take i (map plan xs) ≡ take i (map f ps)
    → take (i + 1) (map plan (set xs i b)) ≡ take (i + 1) (map f ps)
learned_more plan f xs ps i b d lt enough at learns rest so_far =
    let long : i < length (map plan xs) = omega (arith, length-map xs plan) in
    let far : i < length (map f ps) = omega (arith, length-map ps f) in
    let its_plan : get_or ps i (plan d) ≡ plan d = sym (member_same (map plan xs) ps i (plan d) rest) ∙ get_or-map plan xs i d (plan d) lt ∙ ap plan (sym at) in
    let its_new : get_or (map f ps) i (plan b) ≡ plan b = get_or-map f ps i (plan d) (plan b) enough ∙ ap f its_plan ∙ sym learns in
    ap (take (i + 1)) (map-set plan xs i b) ∙ take_more_set (map plan xs) i (plan b) long
    ∙ ap (λ zs. zs ++ plan b ∷ []) so_far ∙ ap (λ z. take i (map f ps) ++ z ∷ []) (sym its_new) ∙ sym (take_more (map f ps) i (plan b) far)

-- two lists that are equal from i on are equal from i + 1 on
pub rest_more : {A : Type 0} (xs ys : List A) (i : ℕ) → drop i xs ≡ drop i ys → drop (i + 1) xs ≡ drop (i + 1) ys
rest_more xs ys i same = sym (drop-drop 1 i xs) ∙ ap (drop 1) same ∙ drop-drop 1 i ys

-- at the end all have learned
pub all_taken : {A : Type 0} (xs ys : List A) (i : ℕ) → length xs ≤ i → length ys ≤ i → take i xs ≡ take i ys → xs ≡ ys
all_taken xs ys i short few same = sym (take_all i xs short) ∙ same ∙ take_all i ys few

-- the box at i takes the first of its list
pub own_takes : {B : Type 0} (pending : B → List Candidate) (xs : List B) (i : ℕ) (b d : B) (r : Option Candidate)
    → i < length xs → d ≡ get_or xs i d → Takes (pending d) r (pending b)
    → Takes (get_or (map pending xs) i []) r (get_or (map pending (set xs i b)) i [])
own_takes pending xs i b d r lt at takes =
    let long : i < length (map pending xs) = omega (arith, length-map xs pending) in
    let before : pending d ≡ get_or (map pending xs) i [] = ap pending at ∙ sym (get_or-map pending xs i d [] lt) in
    let after : pending b ≡ get_or (map pending (set xs i b)) i [] = sym (get_or-set_same (map pending xs) i (pending b) [] long)
    ∙ ap (λ zs. get_or zs i []) (sym (map-set pending xs i b)) in
    subst (λ z. Takes (get_or (map pending xs) i []) r z) after (subst (λ z. Takes z r (pending b)) before takes)

pub same_length : {B C P : Type 0} (f : B → P) (g : C → P) (xs : List B) (ys : List C) → map f xs ≡ map g ys → length xs ≡ length ys
same_length f g xs ys same = sym (length-map xs f) ∙ ap length same ∙ length-map ys g
