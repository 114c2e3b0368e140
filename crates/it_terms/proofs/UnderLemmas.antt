-- Equations that are true where functions hold.
use Rattle.std.proofs.Common.{◌≡◌, ℕ, ◌+◌, ◌<◌, ◌^◌, ℤ, pos, neg_ℤ, ◌+ℤ◌, ◌-ℤ◌, Bool, true, List, [], length, map, drop, replicate, All, refl, sym, ap, ◌∙◌, subst, arith}
use Rattle.std.proofs.Math.Path.{fun_ext}
use Rattle.std.proofs.lemmas.Int.{ints}
use Rattle.std.proofs.lemmas.List.Elements.{All-replicate, All-weaker}
use Rattle.it_number.specs.Limit.{IsWithin}
use Rattle.it_space.specs.declared.spaces.Space.{Space}
use Rattle.it_problems.specs.declared.problems.Constraint.{Constraint}
use Rattle.it_space.specs.Rows.{Ascends, IsOver, Terms, value}
use Rattle.it_space.specs.Sets.{IsInside}
use Rattle.it_space.specs.Spaces.{size_of}
use Rattle.it_space.specs.Sums.{terms_from}
use Rattle.it_space.proofs.SumLemmas.{row_ascends, row_up_to}
use Rattle.it_polymatroid.specs.Polymatroid.{IsPolymatroid}
use Rattle.it_polymatroid.specs.Certificates.{Form, Generators, IsAllowed, combination}
use Rattle.it_elemental.specs.Generators.{forms_of, of_constraint}
use Rattle.it_closure.specs.declared.dependences.Dependence.{Dependence}
use Rattle.it_closure.specs.Closures.{MeetsDependences}
use Rattle.it_closure.specs.Collapse.{AreDependences, IsCollapseOf, spread_out}
use Rattle.it_closure.proofs.Places.{is_spread_out, place-zero}
use Rattle.it_syntax.specs.declared.types.Sign.TheVariants.{Equal}
use Rattle.it_syntax.specs.Givens.{IsRelationOf}
use Rattle.it_syntax.specs.Meaning.{RelationView, common_denominator, difference_at}
use Rattle.it_print.specs.Lines.{origins_of}
use Rattle.it_problems.specs.declared.problems.Origin.{Origin}
use Rattle.it_syntax.specs.NamesViews.{NamesView}
use Rattle.it_demand.specs.Canonical.{IsRowOf}
use Rattle.it_demand.specs.Coefficients.{dense_form, signed_by}
use Rattle.it_demand.proofs.CoefficientLemmas.{zeros-total}
use Rattle.it_demand.proofs.TermLemmas.{row-value}
use Rattle.it_terms.specs.Tells.{IsRelationText}
use Rattle.it_terms.specs.Proofs.{side_form}
use Rattle.it_terms.specs.Proposals.{ArePrintedFrom, IsProofFrom}
use Rattle.it_terms.specs.Sums.{IsExcess, IsPlus, constraint_value}
use Rattle.it_terms.specs.FunctionProofs.{AreSameUnder, IsProofUnder, IsSaid, TellsProofUnder, by_comment, named_sides_text, sides_text}

-- the row of sums to which all was added
pub record IsRowOfAll (s : Space) (r : RelationView) (negated : Bool) (cs : List Constraint) (ws : List (ℕ × ℤ)) (row : Terms) : Type 0 where
  pub canonical : Ascends 0 row
  pub excess : IsExcess s r negated cs ws row

pub row_of_all : (s : Space) (r : RelationView) (negated : Bool) (cs : List Constraint) (ws : List (ℕ × ℤ)) (difference row : Terms)
    (places : ℕ) (zeros new : List ℤ) → places ≡ size_of s + 1
    → IsRowOf s (λ p. signed_by negated (difference_at s.variables p r)) difference → zeros ≡ replicate places (pos 0)
    → IsPlus zeros new (λ p. value difference p +ℤ combination ws (constraint_value cs p)) → length zeros ≡ places
    → row ≡ terms_from 1 (drop 1 new) → IsRowOfAll s r negated cs ws row
row_of_all s r negated cs ws difference row places zeros new count is none plus counted e = rw e (record {
  canonical = row_ascends new (plus.within (subst (All IsWithin) (sym none) (All-replicate IsWithin places (pos 0) (omega arith))));
  excess = record {
    coordinates = row_up_to new (size_of s) (plus.complete ∙ counted ∙ count);
    same = λ p z. sum_from_zero (value (terms_from 1 (drop 1 new)) p) (dense_form new p) (dense_form zeros p) (value difference p)
        (combination ws (constraint_value cs p))
        (signed_by negated (difference_at s.variables p r))
        (row-value new (terms_from 1 (drop 1 new)) p refl z) (plus.sum p) (ap (λ (xs : List ℤ). dense_form xs p) none ∙ zeros-total 0 places p) (is.same p z);
  };
})
  where
    sum_from_zero : (row new old difference rest signed : ℤ) → row ≡ new → new ≡ old +ℤ (difference +ℤ rest) → old ≡ pos 0
        → difference ≡ signed → row ≡ signed +ℤ rest
    sum_from_zero row new old difference rest signed e f g h = omega (arith, ints, e, f, g, h)

-- a row that collapses to 0 is 0 under the functions
pub nothing_collapsed : (n : ℕ) (ds : List Dependence) (row new : Terms) → IsCollapseOf n ds row new → new ≡ [] → AreSameUnder n ds (value row) (λ p. pos 0)
nothing_collapsed n ds row new c e p z = sym (c p z) ∙ ap (λ (t : Terms). value t p) e

-- an equation whose excess is 0 under functions is a proof where they hold
pub proof_by_excess : (s : Space) (lines : List ℕ) (r : RelationView) (named : List (ℕ × ℤ)) (target : Terms) (cs : List Constraint)
    (ds : List Dependence) (row : Terms) → r.sign ≡ Equal
    → common_denominator r ≡ 1 → IsProofFrom s.variables r target cs → All (IsAllowed (forms_of (map of_constraint cs))) named
    → All (λ l. l < (forms_of (map of_constraint cs)).count) lines → All (IsSaid s.variables (forms_of (map of_constraint cs)) lines) ds
    → IsExcess s r true cs named row → AreSameUnder s.variables ds (value row) (λ p. pos 0)
    → IsProofUnder s.variables lines r named (value target) (forms_of (map of_constraint cs))
proof_by_excess s lines r named target cs ds row equal one proves allowed there said is none = record {
  equality = equal;
  whole = one;
  proves = proves;
  allowed = allowed;
  there = there;
  functions = ds;
  said = said;
  adds_up = λ p z.
      let q = spread_out s.variables ds p in
      nothing_more (side_form s.variables r r.left q) (side_form s.variables r r.right q) (combination named (constraint_value cs q)) (value row q)
      (is.same q (ap p (place-zero s.variables ds) ∙ z)) (none p z);
}
  where
    nothing_more : (left right rest row : ℤ) → row ≡ neg_ℤ (left -ℤ right) +ℤ rest → row ≡ pos 0 → left ≡ right +ℤ rest
    nothing_more left right rest row e f = omega (arith, ints, e, f)

-- what the functions are that constraints say
pub said_are_dependences : (n : ℕ) (g : Generators) (lines : List ℕ) (ds : List Dependence) → All (IsSaid n g lines) ds → AreDependences n ds
said_are_dependences n g lines ds s = record {
  inside = All-weaker (IsSaid n g lines) (λ d. IsInside d.from d.to) (λ d t. t.inside) ds s;
  below = All-weaker (IsSaid n g lines) (λ d. d.to < 2 ^ n) (λ d t. t.below) ds s;
}

-- a map that meets the constraints meets them
said_are_met : (n : ℕ) (g : Generators) (lines : List ℕ) (p : ℕ → ℤ) (ds : List Dependence) → p 0 ≡ pos 0
    → ((i : ℕ) → i < g.count → g.is_equation i ≡ true → g.form i p ≡ pos 0)
    → All (IsSaid n g lines) ds → MeetsDependences ds p
said_are_met n g lines p ds z zeros s = All-weaker (IsSaid n g lines) (λ d. p d.to ≡ p d.from) (λ d t. t.says p z (zeros t.line t.there t.equation)) ds s

-- what is the same under functions is the same at a polymatroid that meets the constraints which say them
pub same_at : (n : ℕ) (g : Generators) (lines : List ℕ) (ds : List Dependence) (f h : Form) (p : ℕ → ℤ) → All (IsSaid n g lines) ds → IsPolymatroid n p
    → ((i : ℕ) → i < g.count → g.is_equation i ≡ true → g.form i p ≡ pos 0) → AreSameUnder n ds f h → f p ≡ h p
same_at n g lines ds f h p said k zeros same =
    let e : spread_out n ds p ≡ p =
    fun_ext (λ c. is_spread_out n ds p (said_are_dependences n g lines ds said) k (said_are_met n g lines p ds k.empty zeros said) c) in
    subst (λ (q : ℕ → ℤ). f q ≡ h q) e (same p k.empty)

-- sides that are such a proof, and the text of them with names
pub told_by_sides : (v : NamesView) (origins : List Origin) (lines : List ℕ) (named : List (ℕ × ℤ)) (target : Form) (g : Generators)
    (s : Space) (r : RelationView) (left right text : List ℕ)
    → s ≡ record { variables = length v.variables; rates = length v.rates } → IsRelationText v (sides_text left right) r
    → IsProofUnder s.variables lines r named target g
    → text ≡ named_sides_text origins named left right → TellsProofUnder v origins lines named target g text
told_by_sides v origins lines named target g s r left right text space is proves e = record {
  relation = r;
  is = record { left = left; right = right; is = is; text_is = e };
  proves = subst (λ (z : Space). IsProofUnder z.variables lines r named target g) space proves;
}

-- a relation of names is one of their space
pub relation_of_space : (v : NamesView) (s : Space) (r : RelationView)
    → s ≡ record { variables = length v.variables; rates = length v.rates } → IsRelationOf (length v.variables) (length v.rates) r
    → IsRelationOf s.variables s.rates r
relation_of_space v s r e h = subst (λ (z : Space). IsRelationOf z.variables z.rates r) (sym e) h

-- a row over the coordinates of names is one over those of their space
pub over_of_space : (v : NamesView) (s : Space) (row : Terms) → s ≡ record { variables = length v.variables; rates = length v.rates }
    → IsOver (size_of (record { variables = length v.variables; rates = length v.rates })) row
    → IsOver (size_of s) row
over_of_space v s row e h = subst (λ (z : Space). IsOver (size_of z) row) (sym e) h

-- both texts with the comment
pub both_printed : (v : NamesView) (target : Form) (cs : List Constraint) (lines : List ℕ) (named none : List (ℕ × ℤ)) (text whole by : List ℕ)
    → TellsProofUnder v (origins_of cs) lines named target (forms_of (map of_constraint cs)) text
    → TellsProofUnder v (origins_of cs) lines none target (forms_of (map of_constraint cs)) whole → none ≡ []
    → by ≡ by_comment (origins_of cs) lines → ArePrintedFrom v target cs lines named text whole by
both_printed v target cs lines named none text whole by text_tells whole_tells e by_is = record {
  text_tells = text_tells;
  whole_tells = subst (λ (ws : List (ℕ × ℤ)). TellsProofUnder v (origins_of cs) lines ws target (forms_of (map of_constraint cs)) whole) e whole_tells;
  by_is = by_is;
}
