-- The coordinates of the rows stay those of the space.
use Rattle.std.proofs.Common.{ℕ, zero, suc, ◌≤◌, ℤ, pos, negsuc, ◌+ℤ◌, List, [], ◌∷◌, ◌++◌, Bool, true, false, nat_eq, nat_lt, All, if◌then◌else◌}
use Rattle.std.specs.List.{AllByRecursion as Every}
use Rattle.it_space.specs.Rows.{Terms, IsOver, single_term}
use Rattle.it_space.specs.Divisors.{content, divided_terms, lowest_terms}
use Rattle.it_space.specs.Cancelling.{times_up, times_down, with_term, row_sum, row_multiple, cancelled_row}
use Rattle.it_eliminate.proofs.MemberLemmas.{every_member, member_every}
use Rattle.it_space.proofs.EveryLemmas.{every_of, all_of}
use Rattle.it_eliminate.proofs.OrderLemmas.{every-with_row}
use Rattle.it_eliminate.proofs.StepLemmas.{results_all}
use Rattle.it_eliminate.specs.Elimination.{with_row, with_lowest_rows, results, next_list, ordered_rows, list_after}

module _ (size : ℕ) where
  abbrev Has : ℕ × ℤ → Type 0
  Has t = (1 ≤ t.0) × (t.0 ≤ size)

  abbrev UpTo : Terms → Type 0
  UpTo ts = Every Has ts

  up_to-single_term : (c : ℕ) (x : ℤ) (ts : Terms) → (1 ≤ c) × (c ≤ size) → UpTo ts → UpTo (single_term c x ++ ts)
  up_to-single_term c (pos zero) ts h a = a
  up_to-single_term c (pos (suc n)) ts h a = (h, a)
  up_to-single_term c (negsuc n) ts h a = (h, a)

  up_to-with_term : (c : ℕ) (x : ℤ) (ts : Terms) → (1 ≤ c) × (c ≤ size) → UpTo ts → UpTo (with_term c x ts)
  up_to-with_term c (pos zero) [] h a = tt
  up_to-with_term c (pos (suc n)) [] h a = (h, tt)
  up_to-with_term c (negsuc n) [] h a = (h, tt)
  up_to-with_term c x (t ∷ ts) h a = by_test (nat_lt c t.0) (nat_eq c t.0) (up_to-with_term c x ts h a.1)
    where
      by_test : (p q : Bool) → UpTo (with_term c x ts) → UpTo (if p then single_term c x ++ t ∷ ts else if q then single_term c (x +ℤ t.1)
          ++ ts else t ∷ with_term c x ts)
      by_test true q ih = up_to-single_term c x (t ∷ ts) h a
      by_test false true ih = up_to-single_term c (x +ℤ t.1) ts h a.1
      by_test false false ih = (a.0, ih)

  up_to-row_sum : (xs ys : Terms) → UpTo xs → UpTo ys → UpTo (row_sum xs ys)
  up_to-row_sum [] ys a b = b
  up_to-row_sum (x ∷ xs) ys a b = up_to-with_term x.0 x.1 (row_sum xs ys) a.0 (up_to-row_sum xs ys a.1 b)

  up_to-row_multiple : (k : ℕ) (ts : Terms) → UpTo ts → UpTo (row_multiple k ts)
  up_to-row_multiple k [] a = tt
  up_to-row_multiple k (t ∷ ts) a = (a.0, up_to-row_multiple k ts a.1)

  up_to-cancelled_row : (at : ℕ) (up down : Terms) → UpTo up → UpTo down → UpTo (cancelled_row at up down)
  unfolding cancelled_row
  up_to-cancelled_row at up down a b = up_to-row_sum (row_multiple (times_up at up down) up) (row_multiple (times_down at up down) down)
      (up_to-row_multiple (times_up at up down) up a) (up_to-row_multiple (times_down at up down) down b)

  up_to-lowest_terms : (ts : Terms) → UpTo ts → UpTo (lowest_terms ts)
  unfolding lowest_terms
  up_to-lowest_terms ts a = divided_up_to (content 0 ts) ts a
    where
      divided_up_to : (k : ℕ) (ts : Terms) → UpTo ts → UpTo (divided_terms k ts)
      divided_up_to k [] a = tt
      divided_up_to k (t ∷ ts) a = (a.0, divided_up_to k ts a.1)

  up_to-with_lowest_rows : (before rows : List Terms) → Every UpTo before → Every UpTo rows → Every UpTo (with_lowest_rows before rows)
  up_to-with_lowest_rows before [] a b = a
  up_to-with_lowest_rows before (row ∷ rows) a b = up_to-with_lowest_rows (with_row before (lowest_terms row)) rows
      (every-with_row UpTo before (lowest_terms row) (up_to-lowest_terms row b.0) a) b.1

  up_to-next : (at : ℕ) (rows : List Terms) → Every UpTo rows → Every UpTo (next_list at rows)
  up_to-next at rows a = up_to-with_lowest_rows [] (results at rows) tt
      (member_every UpTo (results at rows) (results_all UpTo at rows (λ row m e. every_member UpTo rows row a m)
      (λ up down m n h k. up_to-cancelled_row at up down (every_member UpTo rows up a m) (every_member UpTo rows down a n))))

  up_to-after : (ats : List ℕ) (rows : List Terms) → Every UpTo rows → Every UpTo (list_after ats rows)
  up_to-after [] rows a = a
  up_to-after (at ∷ ats) rows a = up_to-after ats (next_list at rows) (up_to-next at rows a)

  to_each : (rows : List Terms) → All (IsOver size) rows → Every UpTo rows
  to_each rows a = each_row_up_to rows (every_of (IsOver size) rows a)
    where
      each_row_up_to : (rows : List Terms) → Every (IsOver size) rows → Every UpTo rows
      each_row_up_to [] a = tt
      each_row_up_to (r ∷ rows) a = (every_of Has r a.0, each_row_up_to rows a.1)

  to_all : (rows : List Terms) → Every UpTo rows → All (IsOver size) rows
  to_all rows a = all_of (IsOver size) rows (all_rows_up_to rows a)
    where
      all_rows_up_to : (rows : List Terms) → Every UpTo rows → Every (IsOver size) rows
      all_rows_up_to [] a = tt
      all_rows_up_to (r ∷ rows) a = (all_of Has r a.0, all_rows_up_to rows a.1)

  pub projection_up_to : (ats : List ℕ) (rows : List Terms) → All (IsOver size) rows → All (IsOver size) (list_after ats (ordered_rows rows))
  projection_up_to ats rows a = to_all (list_after ats (ordered_rows rows))
      (up_to-after ats (ordered_rows rows) (up_to-with_lowest_rows [] rows tt (to_each rows a)))
