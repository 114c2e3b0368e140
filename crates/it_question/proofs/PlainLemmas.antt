-- Where a line ends, and what is read of it.
use Rattle.std.proofs.Common.{◌≡◌, ℕ, zero, suc, ◌-◌, ◌<◌, ◌≤◌, ◌==◌, Bool, true, false, not, cond, List, [], ◌∷◌, ◌++◌, length, take, drop, take_all, refl, sym, ap, ◌∙◌, arith}
use Rattle.it_syntax.specs.Spelling.{AreAll, Stops}
use Rattle.it_syntax.specs.Prefixes.{IsLongestRun}
use Rattle.it_syntax.proofs.RunLemmas.{all_more, stops_at, stops_end}
use Rattle.it_question.specs.Lines.{in_front, split_lines, without_return, before_comment}
use Rattle.it_question.specs.ReaderSteps.{is_other}

pub ruleset run_lemmas = (all_more, stops_at, stops_end)

is_same : (a b : Bool) → not a ≡ b → a ≡ not b
is_same true false e = refl
is_same false true e = refl
is_same true true e = absurd cc
is_same false false e = absurd cc

-- what stands before the first comment
pub before_comment_is : (line : List ℕ) (n : ℕ) → IsLongestRun (is_other 35) line n → before_comment line ≡ take n line
unfolding is_other
before_comment_is line n r = by_list line n r.all r.stops
  where
    by_list : (line : List ℕ) (n : ℕ) → AreAll (is_other 35) (take n line) → Stops (is_other 35) (drop n line) → before_comment line ≡ take n line
    by_list [] zero all stops = refl
    by_list [] (suc n) all stops = refl
    by_list (b ∷ line) zero all stops = ap (λ (t : Bool). cond t [] (b ∷ before_comment line)) (is_same (b == 35) false stops)
    by_list (b ∷ line) (suc n) all stops = ap (λ (t : Bool). cond t [] (b ∷ before_comment line)) (is_same (b == 35) true all.0)
        ∙ ap (λ (t : List ℕ). b ∷ t) (by_list line n all.1 stops)

-- a line with its line feed, and the bytes after it
pub split_at_feed : (bytes : List ℕ) (n : ℕ) (b : ℕ) (after : List ℕ) → AreAll (is_other 10) (take n bytes)
    → Stops (is_other 10) (drop n bytes) → drop n bytes ≡ b ∷ after → split_lines bytes ≡ take n bytes ∷ split_lines after
unfolding is_other
split_at_feed [] zero b after all stops e = absurd cc
split_at_feed [] (suc n) b after all stops e = absurd cc
split_at_feed (c ∷ bytes) zero b after all stops e =
    ap (λ (t : Bool). cond t ([] ∷ split_lines bytes) (in_front c (split_lines bytes))) (is_same (c == 10) false stops)
    ∙ ap (λ (t : List ℕ). [] ∷ split_lines (drop 1 t)) e
split_at_feed (c ∷ bytes) (suc n) b after all stops e =
    ap (λ (t : Bool). cond t ([] ∷ split_lines bytes) (in_front c (split_lines bytes))) (is_same (c == 10) true all.0)
    ∙ ap (in_front c) (split_at_feed bytes n b after all.1 stops e)

-- a last line without one
pub split_at_end : (bytes : List ℕ) (n : ℕ) → AreAll (is_other 10) (take n bytes) → drop n bytes ≡ [] → 1 ≤ length bytes → split_lines bytes ≡ take n bytes ∷ []
unfolding is_other
split_at_end [] n all e some = absurd (omega arith)
split_at_end (c ∷ bytes) zero all e some = absurd cc
split_at_end (c ∷ []) (suc zero) all e some = ap (λ (t : Bool). cond t ([] ∷ []) (in_front c [])) (is_same (c == 10) true all.0)
split_at_end (c ∷ []) (suc (suc n)) all e some = ap (λ (t : Bool). cond t ([] ∷ []) (in_front c [])) (is_same (c == 10) true all.0)
split_at_end (c ∷ d ∷ bytes) (suc n) all e some = ap (λ (t : Bool). cond t ([] ∷ split_lines (d ∷ bytes))
    (in_front c (split_lines (d ∷ bytes)))) (is_same (c == 10) true all.0)
    ∙ ap (in_front c) (split_at_end (d ∷ bytes) n all.1 e (omega arith))

-- a last carriage return, and a line without one
pub return_dropped : (prefix : List ℕ) → without_return (prefix ++ 13 ∷ []) ≡ prefix
return_dropped [] = refl
return_dropped (b ∷ []) = refl
return_dropped (b ∷ c ∷ prefix) = ap (λ (t : List ℕ). b ∷ t) (return_dropped (c ∷ prefix))

pub no_return_kept : (prefix : List ℕ) (b : ℕ) → (b == 13) ≡ false → without_return (prefix ++ b ∷ []) ≡ prefix ++ b ∷ []
no_return_kept [] b e = ap (λ (t : Bool). cond t [] (b ∷ [])) e
no_return_kept (c ∷ []) b e = ap (λ (t : List ℕ). c ∷ t) (no_return_kept [] b e)
no_return_kept (c ∷ d ∷ prefix) b e = ap (λ (t : List ℕ). c ∷ t) (no_return_kept (d ∷ prefix) b e)

-- the first of these lines, as a slice is cut
pub cut_at_feed : (bytes prefix rest : List ℕ) (n : ℕ) → IsLongestRun (is_other 10) bytes n → prefix ≡ take n bytes → rest ≡ drop n bytes
    → 1 ≤ length rest → split_lines bytes ≡ prefix ∷ split_lines (take (length rest - 1) (drop 1 rest))
cut_at_feed bytes prefix [] n r f e some = absurd (omega arith)
cut_at_feed bytes prefix (b ∷ rest) n r f e some =
    let all : take (suc (length rest) - 1) rest ≡ rest = take_all (suc (length rest) - 1) rest (omega arith) in
    split_at_feed bytes n b rest r.all r.stops (sym e) ∙ ap (λ (t : List ℕ). t ∷ split_lines rest) (sym f)
    ∙ ap (λ (t : List ℕ). prefix ∷ split_lines t) (sym all)

pub cut_at_end : (bytes prefix rest : List ℕ) (n : ℕ) → IsLongestRun (is_other 10) bytes n → prefix ≡ take n bytes → rest ≡ drop n bytes
    → length rest < 1 → 1 ≤ length bytes → split_lines bytes ≡ prefix ∷ split_lines rest
cut_at_end bytes prefix [] n r f e none some = split_at_end bytes n r.all (sym e) some ∙ ap (λ (t : List ℕ). t ∷ []) (sym f)
cut_at_end bytes prefix (b ∷ rest) n r f e none some = absurd (omega arith)
