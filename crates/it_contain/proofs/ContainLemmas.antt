-- The list `first` and the lists of boxes, one after the other.
use Rattle.std.proofs.Common.{◌≡◌, ℕ, ◌+◌, ◌-◌, ◌<◌, ◌≤◌, List, [], ◌∷◌, ◌++◌, length, get_or, take, drop, map, refl, ap, sym, subst, ◌∙◌, arith, append_assoc, append-nil}
use Rattle.std.specs.List.{flat_map}
use Rattle.std.proofs.lemmas.List.{take-append-drop, take_more, drop_more, take_all}
use Rattle.std.proofs.lemmas.Grind.{flat_map-append}
use Rattle.it_contain.specs.declared.types.Shape.{Shape}
use Rattle.it_region.specs.declared.types.Candidate.{Candidate}
use Rattle.it_contain.specs.declared.types.Contained.{Contained}
use Rattle.it_contain.specs.declared.types.Contained.TheVariants.{Found, Open}
use Rattle.it_contain.specs.Proposals.{Plan, plan_after}
use Rattle.it_contain.specs.Search.{Goal, Proofs, IsProof, IsFirstProved, IsOpen, SearchEnds, plan_of}
use Rattle.it_contain.specs.SearchSteps.{KeepsLater, joined_lists, lists_of}
use Rattle.it_contain.proofs.BoxLemmas.{member_same}
use Rattle.it_contain.proofs.SearchLemmas.{first_prefix, first_later}
use Rattle.it_contain.proofs.OpenLemmas.{open_more}

plan_is : (first : List Candidate) (shape : Shape) (plans : List Plan) → first ++ joined_lists (lists_of shape plans) ≡ plan_of first plans shape
unfolding plan_of
plan_is first shape plans = ap (λ zs. first ++ zs) (lists_joined plans)
  where
    lists_joined : (ps : List Plan) → joined_lists (lists_of shape ps) ≡ flat_map (λ plan. plan shape []) ps
    lists_joined [] = refl
    lists_joined (p ∷ ps) = ap (λ zs. p shape [] ++ zs) (lists_joined ps)

pub joined_parts : (ls : List (List Candidate)) (i : ℕ) → i < length ls
    → joined_lists ls ≡ joined_lists (take i ls) ++ (get_or ls i [] ++ joined_lists (drop (i + 1) ls))
joined_parts ls i lt =
    ap joined_lists (sym (take-append-drop i ls)) ∙ flat_map-append (λ xs. xs) (take i ls) (drop i ls)
    ∙ ap (λ zs. joined_lists (take i ls) ++ joined_lists zs) (drop_more ls i [] lt)

pub joined_more : (ls : List (List Candidate)) (i : ℕ) → i < length ls → joined_lists (take (i + 1) ls) ≡ joined_lists (take i ls) ++ get_or ls i []
joined_more ls i lt =
    ap joined_lists (take_more ls i [] lt) ∙ flat_map-append (λ xs. xs) (take i ls) (get_or ls i [] ∷ [])
    ∙ ap (λ zs. joined_lists (take i ls) ++ zs) (append-nil (get_or ls i []))

pub found_at_once : (goal : Goal) (tries : ℕ) (first : List Candidate) (shape : Shape) (plans plans_after plans_first : List Plan)
    (c : Candidate) (w : Proofs) (r : Contained)
    → SearchEnds goal tries first plans r plans_after → r ≡ Found c w → plans ≡ plans_first
    → IsFirstProved goal tries (plan_of first plans_first shape) c × IsProof goal c w × (plans_after ≡ map (plan_after c) plans_first)
found_at_once goal tries first shape plans plans_after plans_first c w r ends is same =
    let now : SearchEnds goal tries first plans (Found c w) plans_after = subst (λ z. SearchEnds goal tries first plans z plans_after) is ends in (
      subst (λ zs. IsFirstProved goal tries zs c) (plan_is first shape plans_first)
          (first_prefix goal tries first (joined_lists (lists_of shape plans_first)) c now.0),
      now.1,
      now.2 ∙ ap (map (plan_after c)) same,
    )

pub found_in_box : (goal : Goal) (tries : ℕ) (first : List Candidate) (shape : Shape) (plans plans_after plans_first : List Plan)
    (lists : List (List Candidate)) (i t : ℕ) (c : Candidate) (w : Proofs) (r : Contained)
    → i < length (lists_of shape plans_first) → drop i lists ≡ drop i (lists_of shape plans_first) → plans ≡ plans_first
    → IsOpen goal tries (first ++ joined_lists (take i (lists_of shape plans_first))) t
    → SearchEnds goal (tries - t) (get_or lists i []) plans r plans_after → r ≡ Found c w
    → IsFirstProved goal tries (plan_of first plans_first shape) c × IsProof goal c w × (plans_after ≡ map (plan_after c) plans_first)
found_in_box goal tries first shape plans plans_after plans_first lists i t c w r lt left same o ends is =
    let now : SearchEnds goal (tries - t) (get_or lists i []) plans (Found c w) plans_after = subst
    (λ z. SearchEnds goal (tries - t) (get_or lists i []) plans z plans_after) is ends in
    let own : IsFirstProved goal (tries - t) (get_or (lists_of shape plans_first) i []) c = subst
    (λ zs. IsFirstProved goal (tries - t) zs c) (member_same lists (lists_of shape plans_first) i [] left) now.0 in
    let parts : first ++ joined_lists (lists_of shape plans_first) ≡ (first ++ joined_lists (take i (lists_of shape plans_first)))
    ++ (get_or (lists_of shape plans_first) i [] ++ joined_lists (drop (i + 1) (lists_of shape plans_first))) =
    ap (λ zs. first ++ zs) (joined_parts (lists_of shape plans_first) i lt) ∙ sym (append_assoc first _ _) in
    let all : IsFirstProved goal tries (first ++ joined_lists (lists_of shape plans_first)) c =
    subst (λ zs. IsFirstProved goal tries zs c) (sym parts) (first_later goal tries _ _ t c o
    (first_prefix goal (tries - t) _ (joined_lists (drop (i + 1) (lists_of shape plans_first))) c own)) in
    (subst (λ zs. IsFirstProved goal tries zs c) (plan_is first shape plans_first) all, now.1, now.2 ∙ ap (map (plan_after c)) same)

pub open_at_first : (goal : Goal) (tries : ℕ) (first : List Candidate) (ls : List (List Candidate)) (t : ℕ)
    → IsOpen goal tries first t → IsOpen goal tries (first ++ joined_lists (take 0 ls)) t
open_at_first goal tries first ls t o = subst (λ zs. IsOpen goal tries zs t) (sym (append-nil first)) o

pub open_one_more : (goal : Goal) (tries : ℕ) (first : List Candidate) (ls lists : List (List Candidate)) (i t u : ℕ)
    → i < length ls → drop i lists ≡ drop i ls
    → IsOpen goal tries (first ++ joined_lists (take i ls)) t → IsOpen goal (tries - t) (get_or lists i []) u
    → IsOpen goal tries (first ++ joined_lists (take (i + 1) ls)) (t + u)
open_one_more goal tries first ls lists i t u lt left o p =
    let own : IsOpen goal (tries - t) (get_or ls i []) u = subst (λ zs. IsOpen goal (tries - t) zs u) (member_same lists ls i [] left) p in
    subst (λ zs. IsOpen goal tries zs (t + u)) (append_assoc first (joined_lists (take i ls)) (get_or ls i [])
    ∙ ap (λ zs. first ++ zs) (sym (joined_more ls i lt)))
    (open_more goal tries (first ++ joined_lists (take i ls)) (get_or ls i []) t u o own)

pub open_at_end : (goal : Goal) (tries : ℕ) (first : List Candidate) (shape : Shape) (plans : List Plan) (i t : ℕ)
    → length (lists_of shape plans) ≤ i → IsOpen goal tries (first ++ joined_lists (take i (lists_of shape plans))) t
    → IsOpen goal tries (plan_of first plans shape) t
open_at_end goal tries first shape plans i t few o =
    subst (λ zs. IsOpen goal tries zs t) (plan_is first shape plans) (subst (λ zs. IsOpen goal tries (first ++ joined_lists zs) t)
    (take_all i (lists_of shape plans) few) o)

pub open_within : (goal : Goal) (tries t : ℕ) (xs : List Candidate) → IsOpen goal tries xs t → t ≤ tries
open_within goal tries t xs o = let is = o.tried_is in omega (arith, is)

pub open_end : (goal : Goal) (tries : ℕ) (xs : List Candidate) (plans plans_after : List Plan) (r : Contained) (t : ℕ)
    → SearchEnds goal tries xs plans r plans_after → r ≡ Open t → IsOpen goal tries xs t × (plans_after ≡ plans)
open_end goal tries xs plans plans_after r t ends is = subst (λ z. SearchEnds goal tries xs plans z plans_after) is ends

pub open_keeps_later : (r : Contained) (t : ℕ) (later later_after : List (List Candidate)) → KeepsLater r later later_after → r ≡ Open t → later_after ≡ later
open_keeps_later r t later later_after kept is = subst (λ z. KeepsLater z later later_after) is kept
