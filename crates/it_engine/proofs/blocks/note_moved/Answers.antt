use Rattle.std.proofs.Common.{rules, ◌≡◌, ◌<◌, ◌≤◌, ℕ, List, length, slice_index_or, subst}
use Rattle.it_engine.proofs.MovedOrder.{noted_in_order, stands_in_order}
use Rattle.it_engine.proofs.blocks.note_moved.Goals as goal

pub returns-then-stands_at-clause-order : goal.returns-then-stands_at-clause-order
returns-then-stands_at-clause-order c = λ height low h.
    let within = subst (λ (xs : List ℕ). c.place_of-place.result ≤ length xs) c.as_slice.ensures.value c.place_of-place.ensures.within in
    let before = subst (λ (xs : List ℕ). (k : ℕ) → k < c.place_of-place.result → slice_index_or xs k 0 < c.args.r) c.as_slice.ensures.value
    c.place_of-place.ensures.before in
    let here = subst (λ (xs : List ℕ). (c.place_of-place.result < length xs) × (slice_index_or xs c.place_of-place.result 0 ≡ c.args.r))
    c.as_slice-2.ensures.value c.if-stands_at.ensures.yes in
    stands_in_order c.args.moved.now height c.args.r c.place_of-place.result c.args.order.now.items c.requires within before h here.0 here.1

pub returns-clause-order : goal.returns-clause-order
returns-clause-order c =
    let within = subst (λ (xs : List ℕ). c.place_of-place.result ≤ length xs) c.as_slice.ensures.value c.place_of-place.ensures.within in
    let before = subst (λ (xs : List ℕ). (k : ℕ) → k < c.place_of-place.result → slice_index_or xs k 0 < c.args.r) c.as_slice.ensures.value
    c.place_of-place.ensures.before in
    let after = subst (λ (xs : List ℕ). c.place_of-place.result < length xs → c.args.r ≤ slice_index_or xs c.place_of-place.result 0)
    c.as_slice.ensures.value c.place_of-place.ensures.after in
    let other = subst (λ (xs : List ℕ). c.place_of-place.result < length xs → ¬ (slice_index_or xs c.place_of-place.result 0 ≡ c.args.r))
    c.as_slice-2.ensures.value c.if-stands_at.ensures.no in
    noted_in_order c.args.moved.now c.args.r c.place_of-place.result c.args.order.now.items c.insert.new.self.items
    c.requires within before after other (search rules)
