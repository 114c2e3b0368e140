-- What is written of an output in part is a prefix of a whole output: in a mode where each item has a right reply in each state, and in
-- mode `bench`.
use Rattle.std.proofs.Common.{◌≡◌, ℕ, ◌+◌, inl, inr, List, [], ◌∷◌, ◌++◌, length, ◌⊎◌, refl, sym, ap, subst, ◌∙◌, arith, append_assoc, append-nil}
use Rattle.it_outside.specs.Traffic.{IsPrefix}
use Rattle.it_contain.specs.Proposals.{Plan}
use Rattle.it_answer.specs.declared.types.Budgets.{Budgets}
use Rattle.it_report.specs.Meaning.{EachLineIsJudged}
use Rattle.it_cli.specs.Counts.{IsBenchLine}
use Rattle.it_cli.specs.Laws.{CountsArePrefix, VerdictsArePrefix}
use Rattle.it_cli.specs.Modes.{FirstOutput, Mode, OutputInPart, WholeOutput}
use Rattle.it_cli.specs.Outputs.{bench_mode, check_mode}
use Rattle.it_cli.specs.Right.{budgets_of, limits_of_names}
use Rattle.it_cli.specs.declared.status.Status.{Status}
use Rattle.it_cli.specs.declared.status.Status.TheVariants.{Done}
use Rattle.it_cli.proofs.ReplyLemmas.{RepliesFrom}

-- ---- a mode where each item has a right reply in each state

module _ (m : Mode) (each : (s : List m.Reply) (x : m.Item) → (reply : m.Reply) × m.IsRight s x reply) where
  some_replies : (k : ℕ) (s : List m.Reply) (xs : List m.Item) → (t : List m.Reply) × (out : List ℕ) × RepliesFrom m k s xs t out
  some_replies k s [] = (s, [], (refl, refl))
  some_replies k s (x ∷ xs) =
      let reply = each s x in
      let rest = some_replies (k + 1) (s ++ reply.0 ∷ []) xs in
      (rest.0, m.text k x reply.0 ++ rest.1, (reply.0, rest.1, reply.1, rest.2, refl))

  replies_join : (k n : ℕ) (s t u : List m.Reply) (xs ys : List m.Item) (out more : List ℕ) → n ≡ k + length xs → RepliesFrom m k s xs t out
      → RepliesFrom m n t ys u more → RepliesFrom m k s (xs ++ ys) u (out ++ more)
  replies_join k n s t u [] ys out more e (same, none) later =
      subst (λ (o : List ℕ). RepliesFrom m k s ys u (o ++ more)) (sym none)
      (subst (λ (v : List m.Reply). RepliesFrom m k v ys u more) same (subst (λ (i : ℕ). RepliesFrom m i t ys u more)
      (let first : n ≡ k = omega (arith, e) in first) later))
  replies_join k n s t u (x ∷ xs) ys out more e (reply, rest, right, groups, is) later = (
    reply,
    rest ++ more,
    right,
    replies_join (k + 1) n (s ++ reply ∷ []) t u xs ys rest more
        (let next : n ≡ (k + 1) + length xs = omega (arith, e) in next) groups later,
    ap (λ o. o ++ more) is
        ∙ append_assoc (m.text k x reply) rest more,
  )

  -- a prefix of a whole output
  abbrev IsPrefixOfWhole : List ℕ → List ℕ → Type 0
  IsPrefixOfWhole bytes out = (whole : List ℕ) × (status : Status) × WholeOutput m bytes whole status × IsPrefix out whole

  first_is_prefix : (bytes out : List ℕ) → (later : List m.Item) × FirstOutput m later bytes out → IsPrefixOfWhole bytes out
  first_is_prefix bytes out (later, o) =
      let rest = some_replies (1 + length o.items) o.replies later in (
        out ++ rest.1,
        m.status rest.0,
        record {
          items = o.items ++ later;
          asked = o.asked;
          replies = rest.0;
          written = replies_join 1
              (1 + length o.items) [] o.replies rest.0 o.items later out rest.1 refl o.written rest.2;
          is = refl;
        },
        (rest.1, refl),
      )

  part_is_prefix : (bytes out : List ℕ) → OutputInPart m bytes out → IsPrefixOfWhole bytes out
  part_is_prefix bytes out o =
      let later = some_replies (length o.first.items + 1 + 1) (o.first.replies ++ o.reply ∷ []) o.later in
      let text = m.text (length o.first.items + 1) o.next o.reply in (
        o.whole ++ (text ++ later.1),
        m.status later.0,
        record {
          items = o.first.items ++ o.next ∷ o.later;
          asked = o.first.asked;
          replies = later.0;
          written = replies_join 1 (length o.first.items + 1) [] o.first.replies later.0 o.first.items (o.next ∷ o.later) o.whole
              (text ++ later.1) (omega arith) o.first.written (o.reply, later.1, o.right, later.2, refl);
          is = refl;
        },
        (
          o.prefix.0 ++ later.1,
          ap (λ t. o.whole ++ (t ++ later.1)) o.prefix.1 ∙ ap (λ t. o.whole ++ t) (append_assoc o.part o.prefix.0 later.1)
              ∙ sym (append_assoc o.whole o.part (o.prefix.0 ++ later.1)) ∙ ap (λ t. t ++ (o.prefix.0 ++ later.1)) (sym o.is),
        ),
      )

pub verdicts_are_prefix : EachLineIsJudged → VerdictsArePrefix
verdicts_are_prefix each plans names bytes out (inl first) = first_is_prefix (check_mode (limits_of_names names))
    (λ s line. let judged = (each (limits_of_names names) 1 line).2 in (judged.verdict, judged.is)) bytes out first
verdicts_are_prefix each plans names bytes out (inr part) = part_is_prefix (check_mode (limits_of_names names))
    (λ s line. let judged = (each (limits_of_names names) 1 line).2 in (judged.verdict, judged.is)) bytes out part

-- ---- the line of counts

none_follow : {X : Type 0} (xs ys : List X) (y : X) → xs ++ y ∷ ys ≡ [] → ⊥
none_follow [] ys y e = cc
none_follow (x ∷ xs) ys y e = cc

module _ (budgets : Budgets) (plans : List Plan) (seed count : ℕ) (bytes : List ℕ) where
  counts_whole : (line : List ℕ) → IsBenchLine budgets plans seed count line → WholeOutput (bench_mode budgets plans seed count) bytes line Done
  counts_whole line is = record { items = tt ∷ []; asked = refl; replies = line ∷ []; written = (line, [], is, (refl, refl), sym (append-nil line)); is = refl }

  -- what the replies to the first of the items are
  by_items : (items later : List (Unit {0})) (state : List (List ℕ)) (out : List ℕ) → items ++ later ≡ tt ∷ []
      → RepliesFrom (bench_mode budgets plans seed count) 1 [] items state out
      → (out ≡ []) ⊎ IsBenchLine budgets plans seed count out
  by_items [] later state out e (same, none) = inl none
  by_items (x ∷ []) later state out e (line, rest, is, (same, none), joined) =
      inr (subst (IsBenchLine budgets plans seed count) (sym (joined ∙ ap (λ r. line ++ r) none ∙ append-nil line)) is)
  by_items (x ∷ y ∷ xs) later state out e replies = absurd (none_follow [] (xs ++ later) y (let tail : y ∷ xs ++ later ≡ [] = cc in tail))

  by_first_items : (items later : List (Unit {0})) (next : Unit {0}) (state : List (List ℕ)) (whole : List ℕ)
      → items ++ next ∷ later ≡ tt ∷ [] → RepliesFrom (bench_mode budgets plans seed count) 1 [] items state whole
      → whole ≡ []
  by_first_items [] later next state whole e (same, none) = none
  by_first_items (x ∷ xs) later next state whole e replies = absurd (none_follow xs later next (let tail : xs ++ next ∷ later ≡ [] = cc in tail))

pub counts_are_prefix : CountsArePrefix
counts_are_prefix plans seed count run pivots rows tries bytes out = (
  λ o. (
    o.reply,
    Done,
    counts_whole (budgets_of run pivots rows tries) plans seed count bytes o.reply o.right,
    (
      o.prefix.0,
      o.prefix.1 ∙ ap (λ t. t ++ o.prefix.0) (sym
          (o.is ∙ ap (λ w. w ++ o.part) (by_first_items (budgets_of run pivots rows tries) plans seed count bytes o.first.items o.later o.next
          o.first.replies o.whole o.first.asked o.first.written))),
    ),
  ),
  λ o. elim (by_items (budgets_of run pivots rows tries) plans seed count bytes o.1.items o.0 o.1.replies out o.1.asked o.1.written) [
    | inl nothing ↦ inl nothing
    | inr is ↦ inr (out, Done, counts_whole (budgets_of run pivots rows tries) plans seed count bytes out is, ([], sym (append-nil out)))
  ],
)
