use Rattle.std.proofs.Common.{◌≡◌, ◌≤◌, ◌<◌, ℕ, ◌∙◌, ℤ, length, ap, subst, arith, refl}
use Rattle.std.proofs.lemmas.List.{length-map, with_items_is}
use Rattle.it_number.specs.Division.{int_quotient}
use Rattle.it_space.specs.Rows.{Terms}
use Rattle.it_space.specs.Divisors.{content, divided_terms}
use Rattle.it_space.proofs.Contents.{lowest_terms_already, lowest_terms_divided, divided_all, lowest_terms_same, lowest_terms_is}
use Rattle.it_space.proofs.divisors.reduce.Goals as goal

divided_by : (old now new : Terms) (k : ℕ) → now ≡ old → k ≡ content 0 old → new ≡ divided_terms k now → new ≡ divided_terms (content 0 old) old
divided_by old now new k e f g = g ∙ ap (divided_terms k) e ∙ ap (λ n. divided_terms n old) f

pub returns-then-common-gt1 : goal.returns-then-common-gt1
returns-then-common-gt1 c =
    let common : c.content-common.result ≡ content 0 c.args.terms.items = c.content-common.ensures.value ∙ ap (content 0) c.as_slice.ensures.value in
    let above : 1 < content 0 c.args.terms.items = subst (λ (n : ℕ). 1 < n) common c.if-common-gt1.true in
    let is : c.divide.new.terms ≡ divided_terms (content 0 c.args.terms.items) c.args.terms.items = divided_by c.args.terms.items
    c.as_mut_slice.result.now c.divide.new.terms c.content-common.result c.as_mut_slice.ensures.value common c.divide.ensures in
    let whole : length c.divide.new.terms ≡ c.args.terms.len = omega (
      arith,
      ap length is,
      length-map {B = ℕ × ℤ} c.args.terms.items
          (λ (t : ℕ × ℤ). (t.0, int_quotient t.1 (content 0 c.args.terms.items))),
    ) in
    rw (with_items_is c.args.terms c.divide.new.terms whole, is) record {
      canonical = divided_all c.args.terms.items c.requires (omega arith);
      meaning = lowest_terms_divided c.args.terms.items c.requires above;
      lowest_terms = lowest_terms_is c.args.terms.items _ refl;
    }

pub returns-else-common-gt1 : goal.returns-else-common-gt1
returns-else-common-gt1 c =
    let common : c.content-common.result ≡ content 0 c.args.terms.items = c.content-common.ensures.value ∙ ap (content 0) c.as_slice.ensures.value in
    let few : content 0 c.args.terms.items ≤ 1 = subst (λ (n : ℕ). n ≤ 1) common c.if-common-gt1.false in
    record {
      canonical = c.requires;
      meaning = lowest_terms_already c.args.terms.items c.requires few;
      lowest_terms = lowest_terms_same
          c.args.terms.items c.requires few;
    }
