-- Steps of the texts of facts.
use Rattle.std.proofs.Common.{◌≡◌, ℕ, ◌+◌, ◌<◌, if◌then◌else◌, List, [], ◌∷◌, ◌++◌, ◌||◌, length, map, drop, get_or, Bool, true, sym, ap, subst, ℤ, ◌∙◌, append_assoc}
use Rattle.std.proofs.lemmas.List.{drop_more}
use Rattle.it_space.specs.declared.spaces.Space.{Space}
use Rattle.it_space.specs.Rows.{point_of}
use Rattle.it_syntax.specs.NamesViews.{NamesView}
use Rattle.it_facts.specs.Points.{Determine, TellsPoint, facts_text}
use Rattle.it_facts.specs.declared.facts.Fact.{Fact}
use Rattle.it_space.proofs.ListLemmas.{drop_item}
use Rattle.it_space.specs.Sets.{has_member}
use Rattle.it_print.specs.Lines.{joined_texts, members_from}
use Rattle.it_print.proofs.LineLemmas.{joined_step}

-- one more name of a set
pub member_step : (separator : List ℕ) (names : List (List ℕ)) (i set : ℕ) (some : Bool) (out : List ℕ) → i < length names
    → (out ++ joined_texts separator some (if has_member set i then get_or names i [] ∷ [] else []))
    ++ joined_texts separator (some || has_member set i) (members_from (i + 1) (drop (i + 1) names) set)
    ≡ out ++ joined_texts separator some (members_from i (drop i names) set)
member_step separator names i set some out h =
    joined_step separator some (has_member set i) (get_or names i []) (members_from (i + 1) (drop (i + 1) names) set) out
    ∙ ap (λ ns. out ++ joined_texts separator some (members_from i ns set)) (sym (drop_more names i [] h))

-- one more item's text
pub item_step : {X : Type 0} (separator : List ℕ) (text : X → List ℕ) (items : List X) (i : ℕ) (x : X) (some : Bool) (out : List ℕ)
    → i < length items → x ≡ get_or items i x
    → (out ++ (if some then separator else []) ++ text x) ++ joined_texts separator true (map text (drop (i + 1) items))
    ≡ out ++ joined_texts separator some (map text (drop i items))
item_step separator text items i x some out h is =
    ap (λ (t : List ℕ). t ++ joined_texts separator true (map text (drop (i + 1) items))) (append_assoc out (if some then separator else []) (text x))
    ∙ append_assoc out ((if some then separator else []) ++ text x) (joined_texts separator true (map text (drop (i + 1) items)))
    ∙ ap (λ xs. out ++ joined_texts separator some (map text xs)) (sym (drop_item items i x h is))

-- the text of facts that determine a point
pub point_by_facts : (v : NamesView) (values : List ℤ) (text : List ℕ) (s : Space) (facts : List Fact)
    → s ≡ record { variables = length v.variables; rates = length v.rates } → Determine s.variables s.rates facts (point_of values)
    → text ≡ facts_text v facts → TellsPoint v values text
point_by_facts v values text s facts e d t = record {
  facts = facts;
  determine = subst
      (λ (z : Space). Determine z.variables z.rates facts (point_of values)) e d;
  text_is = t;
}
