use Rattle.std.proofs.Common.{rules, ◌≡◌, ℕ, get_or, sym, ap, ◌∙◌}
use Rattle.std.proofs.lemmas.List.Sorted.{answers_always}
use Rattle.std.proofs.lemmas.Map.Lookups.{exact_unsigned}
use Rattle.it_rational.specs.Rational.{Rational}
use Rattle.it_tableau.specs.SparseRows.{entry_in}
use Rattle.it_tableau.proofs.Searching.{entry_of_term, entry_where_search_fails, ranks_rise}
use Rattle.it_tableau.proofs.sparse_rows.number_in.Goals as goal

pub returns-in-Ok : goal.returns-in-Ok
returns-in-Ok c =
    let p = c.in-Ok.ensures.position (λ t. t.0) (answers_always _ _ _ (λ f a r f' e. search rules)) in
    let t : ℕ × Rational = get_or c.args.terms.now c.in-Ok.i c.index-terms-i.result in
    let same : t.0 ≡ c.args.at = exact_unsigned t.0 c.args.at (p c.index-terms-i.result) in
    sym (entry_of_term 0 c.args.width c.args.terms.now c.in-Ok.i c.index-terms-i.result c.requires c.in-Ok.ensures.bound) ∙ ap (entry_in c.args.terms.now) same

pub returns-in-Err : goal.returns-in-Err
returns-in-Err c =
    c.whole.ensures ∙ sym (entry_where_search_fails c.args.terms.now c.args.at c.in-Err.field-0
    (c.in-Err.ensures.position (λ t. t.0) (answers_always _ _ _ (λ f a r f' e. search rules)) (ranks_rise c.args.width c.args.terms.now c.args.at c.requires)))
