-- Groups of lines that are written one after the other: the invariant of the loop that writes them, and its steps.
use Rattle.std.proofs.Common.{◌≡◌, ℕ, suc, ◌+◌, ◌<◌, ◌≤◌, List, [], ◌∷◌, ◌++◌, length, take, get_or, Option, refl, sym, ap, subst, ◌∙◌, arith, append_assoc, append-nil}
use Rattle.std.proofs.lemmas.Grind.{take_at_read}
use Rattle.std.proofs.lemmas.List.{take_all, length-take-le}
use Rattle.it_outside.specs.Groups.{Groups}
use Rattle.it_outside.specs.Traffic.{Gains}
use Rattle.it_outside.proofs.Moved.{Gains-trans, Gains-nil}

module _ {Q A S : Type 0} (right : S → Q → A → Type 0) (after : S → Q → A → S) (text : ℕ → Q → A → List ℕ) where
  -- one group more
  Groups-append : (k : ℕ) (s : S) (qs : List Q) (t : S) (out : List ℕ) (q : Q) (a : A) (bytes : List ℕ) → Groups right after text k s qs t out → right t q a
      → bytes ≡ text (k + length qs) q a → Groups right after text k s (qs ++ q ∷ []) (after t q a) (out ++ bytes)
  Groups-append k s [] t out q a bytes (same, none) is_right is = (
    a,
    [],
    subst (λ x. right x q a) same is_right,
    (ap (λ x. after x q a) same, refl),
    ap (λ o. o ++ bytes) none ∙ is ∙ ap (λ n. text n q a) (let e : k + 0 ≡ k = omega arith in e) ∙ sym (append-nil (text k q a)),
  )
  Groups-append k s (x ∷ xs) t out q a bytes (b, rest, first, groups, joined) is_right is = (
    b,
    rest ++ bytes,
    first,
    Groups-append (k + 1) (after s x b) xs t rest q a bytes groups is_right
        (is ∙ ap (λ n. text n q a) (let e : k + suc (length xs) ≡ (k + 1) + length xs = omega arith in e)),
    ap (λ o. o ++ bytes) joined ∙ append_assoc (text k x b) rest bytes,
  )

  -- the groups of the first i items are written, and the state after them is t
  pub record UnderWay (old new : Option (List ℕ)) (s : S) (qs : List Q) (i : ℕ) (t : S) : Type 0 where
    pub out : List ℕ
    pub few : i ≤ length qs
    pub groups : Groups right after text 1 s (take i qs) t out
    pub wrote : Gains old new out

  -- before the first item
  pub under_way_first : (a : Option (List ℕ)) (s : S) (qs : List Q) → UnderWay a a s qs 0 s
  under_way_first a s qs = record { out = []; few = omega arith; groups = (refl, refl); wrote = Gains-nil a }

  -- after one group more
  pub under_way_more : (a b c : Option (List ℕ)) (s : S) (qs : List Q) (i : ℕ) (t : S) (q : Q) (answer : A) (bytes : List ℕ) → UnderWay a b s qs i t
      → i < length qs → get_or qs i q ≡ q → right t q answer → bytes ≡ text (i + 1) q answer → Gains b c bytes
      → UnderWay a c s qs (i + 1) (after t q answer)
  under_way_more a b c s qs i t q answer bytes u within read is_right is wrote = record {
    out = u.out ++ bytes;
    few = omega arith;
    groups = subst (λ ys. Groups right after text 1 s ys (after t q answer) (u.out ++ bytes))
        (sym ((take_at_read qs i q within).1 ∙ ap (λ y. take i qs ++ y ∷ []) read))
        (Groups-append 1 s (take i qs) t u.out q answer bytes u.groups is_right
        (is ∙ ap (λ n. text n q answer) (let e : i + 1 ≡ 1 + length (take i qs) = omega (arith, length-take-le i qs u.few) in e)));
    wrote = Gains-trans a b c u.out bytes u.wrote wrote;
  }

  -- all is written
  pub under_way_done : (a b : Option (List ℕ)) (s : S) (qs : List Q) (i : ℕ) (t : S) → (u : UnderWay a b s qs i t) → length qs ≤ i
      → Groups right after text 1 s qs t u.out
  under_way_done a b s qs i t u all = subst (λ ys. Groups right after text 1 s ys t u.out) (take_all i qs all) u.groups
