-- The loop over the items of a mode: the groups of it_outside, at right replies.
use Rattle.std.proofs.Common.{◌≡◌, ℕ, ◌+◌, ◌<◌, ◌≤◌, List, [], ◌∷◌, ◌++◌, ◌||◌, Bool, true, false, length, take, drop, get_or, Option, refl, sym, ap, subst, ◌∙◌, arith}
use Rattle.std.specs.List.{list_any}
use Rattle.std.proofs.lemmas.List.Folds.{list_any-append}
use Rattle.std.proofs.lemmas.List.{drop_more, length-take-le, take-append-drop}
use Rattle.it_outside.specs.Traffic.{Gains, TookPrefix, IsPrefix}
use Rattle.it_outside.specs.Groups.{Groups}
use Rattle.it_outside.proofs.GroupLemmas.{UnderWay, under_way_first, under_way_more, under_way_done}
use Rattle.it_outside.proofs.Moved.{Gains-trans}
use Rattle.it_cli.specs.InnerEnds.{WroteFirst, WroteInPart, WroteWhole}
use Rattle.it_cli.specs.Modes.{Mode}

-- whether one of some replies is such, after one more
pub any_more : {X : Type 0} (p : X → Bool) (xs : List X) (x : X) → list_any p (xs ++ x ∷ []) ≡ (list_any p xs || p x)
any_more p xs x = list_any-append p xs (x ∷ []) ∙ ap (λ b. list_any p xs || b) (or_false (p x))
  where
    or_false : (b : Bool) → (b || false) ≡ b
    or_false true = refl
    or_false false = refl

module _ (m : Mode) where
  -- the earlier replies with one more
  abbrev with_reply : List m.Reply → m.Item → m.Reply → List m.Reply
  with_reply earlier item reply = earlier ++ reply ∷ []

  -- the replies from number k on, after these earlier ones
  abbrev pub RepliesFrom : ℕ → List m.Reply → List m.Item → List m.Reply → List ℕ → Type 0
  RepliesFrom k earlier items replies out = Groups m.IsRight with_reply m.text k earlier items replies out

  -- these are the replies to the first i items, and they are written
  abbrev pub Replied : Option (List ℕ) → Option (List ℕ) → List m.Item → ℕ → List m.Reply → Type 0
  Replied old new items i s = UnderWay m.IsRight with_reply m.text old new [] items i s

  pub none_replied : (a : Option (List ℕ)) (items : List m.Item) → Replied a a items 0 []
  none_replied a items = under_way_first m.IsRight with_reply m.text a [] items

  pub replies_more : (a b c : Option (List ℕ)) (items : List m.Item) (i : ℕ) (s : List m.Reply) (x : m.Item) (reply : m.Reply)
      (text piece : List ℕ) → Replied a b items i s → i < length items → get_or items i x ≡ x
      → m.IsRight s x reply → text ≡ m.text (i + 1) x reply → piece ≡ text → Gains b c piece → Replied a c items (i + 1) (s ++ reply ∷ [])
  replies_more a b c items i s x reply text piece w h read right is same wrote =
      under_way_more m.IsRight with_reply m.text a b c [] items i s x reply text w h read right is (subst (Gains b c) same wrote)

  pub all_replied : (a b : Option (List ℕ)) (bytes : List ℕ) (items : List m.Item) (i : ℕ) (s : List m.Reply) → m.Asks bytes items
      → Replied a b items i s → length items ≤ i → WroteWhole m a b bytes (m.status s)
  all_replied a b bytes items i s asked w h = record {
    out = w.out;
    output = record { items = items; asked = asked; replies = s; written = under_way_done m.IsRight with_reply m.text a b [] items i s w h; is = refl };
    wrote = w.wrote;
  }

  pub first_replied : (a b : Option (List ℕ)) (bytes : List ℕ) (items : List m.Item) (i : ℕ) (s : List m.Reply) → m.Asks bytes items
      → Replied a b items i s → WroteFirst m a b bytes
  first_replied a b bytes items i s asked w = record {
    out = w.out;
    output = (
      drop i items,
      record {
        items = take i items;
        asked = subst (m.Asks bytes)
            (sym (take-append-drop i items)) asked;
        replies = s;
        written = w.groups;
      },
    );
    wrote = w.wrote;
  }

  pub replies_stop : (a b c : Option (List ℕ)) (bytes : List ℕ) (items : List m.Item) (i : ℕ) (s : List m.Reply) (x : m.Item)
      (reply : m.Reply) (text piece : List ℕ) → m.Asks bytes items → Replied a b items i s → i < length items
      → get_or items i x ≡ x → m.IsRight s x reply → text ≡ m.text (i + 1) x reply → piece ≡ text → TookPrefix b c piece → WroteInPart m a c bytes
  replies_stop a b c bytes items i s x reply text piece asked w h read right is same took = record {
    out = w.out ++ took.part;
    output = record {
      next = x;
      later = drop (i + 1) items;
      whole = w.out;
      first = record { items = take i items; asked = subst (m.Asks bytes) (sym cut) asked; replies = s; written = w.groups };
      reply = reply;
      right = right;
      part = took.part;
      prefix = subst (IsPrefix took.part) (same ∙ is
          ∙ ap (λ n. m.text n x reply) (let e : i + 1 ≡ length (take i items) + 1 = omega (arith, length-take-le i items w.few) in e))
          took.prefix;
      is = refl;
    };
    wrote = Gains-trans a b c w.out took.part w.wrote took.taken;
  }
    where
      cut : take i items ++ x ∷ drop (i + 1) items ≡ items
      cut = ap (λ ys. take i items ++ ys) (sym (drop_more items i x h ∙ ap (λ y. y ∷ drop (i + 1) items) read)) ∙ take-append-drop i items
