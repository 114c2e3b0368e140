use Rattle.std.proofs.Common.{◌∙◌, sym, ℕ, ap, ap₂, subst, arith}
use Rattle.it_rational.specs.Rational.{Rational}
use Rattle.it_rational.specs.Rational as Q
use Rattle.it_fraction.specs.Fits.{IsNarrow}
use Rattle.it_space.specs.declared.faults.RowFault.TheVariants.{Wide}
use Rattle.it_tableau.specs.Fits.{EntryFits}
use Rattle.it_tableau.specs.Merging.{number_of_term, IsAppended, IsTermSource, MergeFits}
use Rattle.it_tableau.specs.declared.merging.TermSource.TheVariants.{Old, Other, Both}
use Rattle.it_tableau.proofs.Zeros.{any_err}
use Rattle.it_tableau.proofs.MergeSteps.{IsMerging, merge_begins, all_differences_fit, merge_ends, refused_both, refused_by, take_both, take_by, take_old}
use Rattle.it_tableau.proofs.merging.merge.Goals as goal

pub loop-i-init : goal.loop-i-init
loop-i-init c = (
  subst (IsMerging c.args.width c.args.old.now c.args.by.now c.args.q 0 0) (sym c.clear.ensures.items)
      (merge_begins c.args.width c.args.old.now c.args.by.now c.args.q c.requires.old c.requires.by),
  omega arith,
  omega arith,
)

pub loop-i-preserved-in-Old : goal.loop-i-preserved-in-Old
loop-i-preserved-in-Old c =
    let o = c.args.old.now in let b = c.args.by.now in let i = c.loop-i.i in let j = c.loop-i.j in
    let s : IsTermSource o b i j Old = subst (IsTermSource o b i j) c.in-Old.is c.next_source.ensures in (
      take_old c.args.width o b c.args.q i j c.loop-i.buffer.items c.loop-i.invariant.0 c.append.new.terms.items s.0 s.1
          (subst IsNarrow c.term.ensures.value c.term.ensures.narrow)
          (subst (λ (n : ℕ). IsAppended c.loop-i.buffer.items n (number_of_term o i) c.append.new.terms.items) c.column.ensures
          (subst (λ (x : Rational). IsAppended c.loop-i.buffer.items c.column.result x c.append.new.terms.items) c.term.ensures.value
          c.in_ok-append-in-Old.ensures)),
      (let l = s.0 in omega (arith, l)),
      c.loop-i.invariant.2,
    )

pub returns-in_err-negated_product-in-Other-clause-wide : goal.returns-in_err-negated_product-in-Other-clause-wide
returns-in_err-negated_product-in-Other-clause-wide c =
    let o = c.args.old.now in let b = c.args.by.now in let i = c.loop-i.i in let j = c.loop-i.j in
    let s : IsTermSource o b i j Other = subst (IsTermSource o b i j) c.in-Other.is c.next_source.ensures in
    any_err c.from_residual-in_err-negated_product-in-Other.result Wide (¬ (MergeFits o b c.args.q))
    (refused_by c.args.width o b c.args.q i j c.loop-i.buffer.items c.loop-i.invariant.0 s.0
    (subst (λ (y : Rational). ¬ (IsNarrow (Q.times y c.args.q))) c.term-in-Other.ensures.value
    c.in_err-negated_product-in-Other.ensures))

pub loop-i-preserved-in-Other : goal.loop-i-preserved-in-Other
loop-i-preserved-in-Other c =
    let o = c.args.old.now in let b = c.args.by.now in let i = c.loop-i.i in let j = c.loop-i.j in
    let s : IsTermSource o b i j Other = subst (IsTermSource o b i j) c.in-Other.is c.next_source.ensures in
    let v = c.in_ok-negated_product-in-Other.field-0 in (
      take_by c.args.width o b c.args.q i j c.loop-i.buffer.items c.loop-i.invariant.0 c.append-in-Other.new.terms.items v s.0 s.1
          (subst (λ (y : Rational). IsNarrow (Q.times y c.args.q)) c.term-in-Other.ensures.value c.in_ok-negated_product-in-Other.ensures.0)
          (c.in_ok-negated_product-in-Other.ensures.1 ∙ ap (λ (y : Rational). Q.minus (Q.times y c.args.q)) c.term-in-Other.ensures.value)
          (subst (λ (n : ℕ). IsAppended c.loop-i.buffer.items n v c.append-in-Other.new.terms.items) c.column-in-Other.ensures c.in_ok-append-in-Other.ensures),
      c.loop-i.invariant.1,
      (let l = s.0 in omega (arith, l)),
    )

pub returns-in_err-difference-in-Both-clause-wide : goal.returns-in_err-difference-in-Both-clause-wide
returns-in_err-difference-in-Both-clause-wide c =
    let o = c.args.old.now in let b = c.args.by.now in let i = c.loop-i.i in let j = c.loop-i.j in
    let s : IsTermSource o b i j Both = subst (IsTermSource o b i j) c.in-Both.is c.next_source.ensures in
    any_err c.from_residual-in_err-difference-in-Both.result Wide (¬ (MergeFits o b c.args.q))
    (refused_both c.args.width o b c.args.q i j c.loop-i.buffer.items c.loop-i.invariant.0 s.0 s.1 s.2
    (subst (λ (x : Rational). ¬ (EntryFits x (number_of_term b j) c.args.q)) c.term-in-Both.ensures.value
    (subst (λ (y : Rational). ¬ (EntryFits c.term-in-Both.result y c.args.q)) c.term-in-Both-2.ensures.value c.in_err-difference-in-Both.ensures.err)))

pub loop-i-preserved : goal.loop-i-preserved
loop-i-preserved c =
    let o = c.args.old.now in let b = c.args.by.now in let i = c.loop-i.i in let j = c.loop-i.j in
    let s : IsTermSource o b i j Both = subst (IsTermSource o b i j) c.in-Both.is c.next_source.ensures in
    let v = c.in_ok-difference-in-Both.difference in (
      take_both c.args.width o b c.args.q i j c.loop-i.buffer.items c.loop-i.invariant.0 c.append-in-Both.new.terms.items v s.0 s.1 s.2
          (subst (λ (x : Rational). EntryFits x (number_of_term b j) c.args.q) c.term-in-Both.ensures.value
          (subst (λ (y : Rational). EntryFits c.term-in-Both.result y c.args.q) c.term-in-Both-2.ensures.value c.in_ok-difference-in-Both.ensures.ok))
          (c.in_ok-difference-in-Both.ensures.value ∙ ap₂ (λ x y. Q.plus x (Q.minus (Q.times y c.args.q))) c.term-in-Both.ensures.value
          c.term-in-Both-2.ensures.value)
          (subst (λ (n : ℕ). IsAppended c.loop-i.buffer.items n v c.append-in-Both.new.terms.items) c.column-in-Both.ensures c.in_ok-append-in-Both.ensures),
      (let l = s.0 in omega (arith, l)),
      (let l = s.1 in omega (arith, l)),
    )

pub returns-clause-ok : goal.returns-clause-ok
returns-clause-ok c = all_differences_fit c.args.width c.args.old.now c.args.by.now c.args.q c.loop-i.i c.loop-i.j c.loop-i.buffer.items
    c.loop-i.invariant.0 c.if-i-old.false c.if-j-by.false

pub returns-clause-value : goal.returns-clause-value
returns-clause-value c = merge_ends c.args.width c.args.old.now c.args.by.now c.args.q c.loop-i.i c.loop-i.j c.loop-i.buffer.items
    c.loop-i.invariant.0 c.if-i-old.false c.if-j-by.false
