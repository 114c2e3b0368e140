-- The loop over a report's lines: the replies of a mode that goes line by line.
use Rattle.std.proofs.Common.{◌≡◌, ℕ, ◌+◌, ◌<◌, ◌≤◌, List, [], ◌∷◌, ◌++◌, length, drop, get_or, Bool, true, false, ◌||◌, ◌==◌, Option, sym, ap, ap₂, subst, refl, ◌∙◌, arith}
use Rattle.std.proofs.lemmas.Bool.{eqb-true}
use Rattle.std.proofs.lemmas.List.{drop_more, length-drop, nil_from_length}
use Rattle.std.specs.List.{list_any}
use Rattle.it_outside.specs.Traffic.{Gains, TookPrefix}
use Rattle.it_question.specs.Lines.{split_lines}
use Rattle.it_cli.specs.LineModes.{IsReplied, LineMode, mode_of_lines}
use Rattle.it_cli.specs.Outputs.{verdict_status}
use Rattle.it_cli.specs.InnerEnds.{EndOfBytes, WroteFirst, WroteInPart, WroteWhole}
use Rattle.it_cli.specs.declared.status.Status.{Status}
use Rattle.it_cli.proofs.ReplyLemmas.{Replied, all_replied, any_more, first_replied, replies_more, replies_stop}

heads_and_tails : {X : Type 0} (x y : X) (xs ys : List X) → x ∷ xs ≡ y ∷ ys → (x ≡ y) × (xs ≡ ys)
heads_and_tails x y xs ys e = ((let same : x ≡ y = cc in same), (let same : xs ≡ ys = cc in same))

-- the item of number k, and what is left after it
item_of_drop : {X : Type 0} (k : ℕ) (xs ys : List X) (y : X) → drop k xs ≡ y ∷ ys → (k < length xs) × (get_or xs k y ≡ y) × (drop (k + 1) xs ≡ ys)
item_of_drop k xs ys y e =
    let within : k < length xs = omega (arith, sym (length-drop k xs) ∙ ap length e) in
    let same = heads_and_tails (get_or xs k y) y (drop (k + 1) xs) ys (sym (drop_more xs k y within) ∙ e) in
    (within, same.0, same.1)

none_left : {X : Type 0} (k : ℕ) (xs : List X) → drop k xs ≡ [] → length xs ≤ k
none_left k xs e = omega (arith, sym (length-drop k xs) ∙ ap length e)

module _ (m : LineMode) where
  -- the replies to the first k lines are written, and these bytes are left
  pub record IsUnderWay (old new : Option (List ℕ)) (bytes rest : List ℕ) (k : ℕ) (some_invalid : Bool) : Type 0 where
    pub replies : List m.Reply
    pub written : Replied (mode_of_lines m) old new (split_lines bytes) k replies
    pub told : list_any m.is_invalid replies ≡ some_invalid
    pub rest_is : drop k (split_lines bytes) ≡ split_lines rest
    pub counted : k + length rest ≤ length bytes

  pub one_more : (a b c : Option (List ℕ)) (bytes rest line after : List ℕ) (k : ℕ) (some_invalid invalid : Bool) (text piece : List ℕ)
      → IsUnderWay a b bytes rest k some_invalid → split_lines rest ≡ line ∷ split_lines after → length after < length rest
      → IsReplied m (k + 1) line text invalid → piece ≡ text → Gains b c piece → IsUnderWay a c bytes after (k + 1) (some_invalid || invalid)
  one_more a b c bytes rest line after k some_invalid invalid text piece h split shorter replied same wrote =
      let next = item_of_drop k (split_lines bytes) (split_lines after) line (h.rest_is ∙ split) in record {
        replies = h.replies ++ replied.reply ∷ [];
        written = replies_more (mode_of_lines m) a b c (split_lines bytes) k h.replies line replied.reply text piece h.written next.0 next.1
            replied.right replied.text_is same wrote;
        told = any_more m.is_invalid h.replies replied.reply ∙ ap₂ (λ x y. x || y) h.told (sym replied.invalid_is);
        rest_is = next.2;
        counted = omega (arith, h.counted);
      }

  pub stops : (a b c : Option (List ℕ)) (bytes rest line after : List ℕ) (k : ℕ) (some_invalid invalid : Bool) (text piece : List ℕ)
      → IsUnderWay a b bytes rest k some_invalid → split_lines rest ≡ line ∷ split_lines after
      → IsReplied m (k + 1) line text invalid → piece ≡ text → TookPrefix b c piece → WroteInPart (mode_of_lines m) a c bytes
  stops a b c bytes rest line after k some_invalid invalid text piece h split replied same took =
      let next = item_of_drop k (split_lines bytes) (split_lines after) line (h.rest_is ∙ split) in
      replies_stop (mode_of_lines m) a b c bytes (split_lines bytes) k h.replies line replied.reply text piece refl h.written next.0 next.1
      replied.right replied.text_is same took

  pub first_ones : (a b : Option (List ℕ)) (bytes rest : List ℕ) (k : ℕ) (some_invalid : Bool)
      → IsUnderWay a b bytes rest k some_invalid → WroteFirst (mode_of_lines m) a b bytes
  first_ones a b bytes rest k some_invalid h = first_replied (mode_of_lines m) a b bytes (split_lines bytes) k h.replies refl h.written

  pub all : (a b : Option (List ℕ)) (bytes rest : List ℕ) (k : ℕ) (some_invalid : Bool) → true ≡ (length rest == 0)
      → IsUnderWay a b bytes rest k some_invalid → WroteWhole (mode_of_lines m) a b bytes (verdict_status some_invalid)
  all a b bytes rest k some_invalid none h = subst (λ (i : Bool). WroteWhole (mode_of_lines m) a b bytes (verdict_status i)) h.told
      (all_replied (mode_of_lines m) a b bytes (split_lines bytes) k h.replies refl h.written
      (none_left k (split_lines bytes) (h.rest_is ∙ ap split_lines (nil_from_length rest (eqb-true (length rest) 0 (sym none))))))

  pub status_ends : (a b : Option (List ℕ)) (before now : ℕ) (bytes : List ℕ) (some_invalid : Bool) (s : Status)
      → s ≡ verdict_status some_invalid → now ≡ before → WroteWhole (mode_of_lines m) a b bytes (verdict_status some_invalid)
      → EndOfBytes (mode_of_lines m) a b before now bytes s
  status_ends a b before now bytes true s is stayed h = subst (EndOfBytes (mode_of_lines m) a b before now bytes) (sym is) (stayed, h)
  status_ends a b before now bytes false s is stayed h = subst (EndOfBytes (mode_of_lines m) a b before now bytes) (sym is) (stayed, h)
