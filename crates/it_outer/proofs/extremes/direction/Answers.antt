use Rattle.std.proofs.Common.{rules, ◌≡◌, ◌++◌, get_or, subst, sym}
use Rattle.std.specs.List.{flat_map}
use Rattle.it_number.specs.Limit.{IsWithin}
use Rattle.it_space.specs.Rows.{IsCanonical, Terms, point_of, single_term}
use Rattle.it_space.proofs.EveryLemmas.{every_of}
use Rattle.it_outer.proofs.OrderLemmas.{flat_done, flat_more, terms_ascend, within_all, within_more}
use Rattle.it_outer.proofs.extremes.direction.Goals as goal

pub loop-at-preserved : goal.loop-at-preserved
loop-at-preserved c =
    let pushed : c.push_some.new.terms.items ≡ c.loop-at.terms.items ++ single_term (get_or c.args.kept.now c.loop-at.at-index 0)
    (point_of c.args.point.now (get_or c.args.kept.now c.loop-at.at-index 0)) = search rules in
    let within : IsWithin (point_of c.args.point.now (get_or c.args.kept.now c.loop-at.at-index 0)) = search rules in record {
      terms = flat_more (λ a. single_term a (point_of c.args.point.now a)) c.args.kept.now c.loop-at.at-index c.loop-at.terms.items
          c.push_some.new.terms.items (flat_map (λ a. single_term a (point_of c.args.point.now a)) c.args.kept.now) c.loop-at-test.true
          pushed c.loop-at.invariant.terms;
      within = within_more (λ a. IsWithin (point_of c.args.point.now a)) c.args.kept.now c.loop-at.at-index
          (get_or c.args.kept.now c.loop-at.at-index 0) c.loop-at-test.true (search rules) within c.loop-at.invariant.within;
    }

pub new-requires : goal.new-requires
new-requires c =
    let whole : c.loop-at.terms.items ≡ flat_map (λ a. single_term a (point_of c.args.point.now a)) c.args.kept.now =
    flat_done (λ a. single_term a (point_of c.args.point.now a)) c.args.kept.now c.loop-at.at-index c.loop-at.terms.items
    (flat_map (λ a. single_term a (point_of c.args.point.now a)) c.args.kept.now) c.loop-at-test.false c.loop-at.invariant.terms in
    subst (λ (ts : Terms). IsCanonical ts) (sym whole) (terms_ascend 0 (point_of c.args.point.now) c.args.kept.now c.requires.ascend
    (every_of (λ a. IsWithin (point_of c.args.point.now a)) c.args.kept.now
    (within_all (λ a. IsWithin (point_of c.args.point.now a)) c.args.kept.now c.loop-at.at-index c.loop-at-test.false
    c.loop-at.invariant.within)))
