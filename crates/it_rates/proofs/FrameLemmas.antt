-- The frame in which the hull of a question's rays is made is one, and the rates that stay are kept in it.
use Rattle.std.proofs.Common.{◌≡◌, ◌≤◌, ℕ, List, length, ap₂, sym, subst, ◌∙◌, arith}
use Rattle.it_space.specs.declared.spaces.Space.{Space}
use Rattle.it_space.specs.Spaces.{IsSpace}
use Rattle.it_question.specs.Limits.{AreRatesOf, IsQuestion}
use Rattle.it_question.specs.Questions.{BodyView}
use Rattle.it_demand.specs.QuestionSpaces.{space_of}
use Rattle.it_hull.specs.KeptRates.{kept_coordinates}
use Rattle.it_hull.proofs.KeptLemmas.{first_away, kept_rates as kept_within_rates}
use Rattle.it_spans.specs.declared.types.Frame.{Frame}
use Rattle.it_spans.specs.Theorems.{AreKept, IsFrame}
use Rattle.it_rates.specs.Asked.{gone_rates, kept_rates}
use Rattle.it_rates.specs.Frames.{frame_in, hull_frame}

module _ (rows : ℕ) (q : BodyView) (k : IsQuestion q) (few_rows : rows ≤ 65535) (gone_are : AreRatesOf (length q.names.rates) (gone_rates q.verb)) where
  own_space : IsSpace (space_of q.names)
  own_space = record { some = k.some; few = omega (arith, k.few); few_rates = k.few_rates }

  pub is_frame : IsFrame (hull_frame rows q)
  is_frame = record { space = own_space; spare = gone_are.within 0 0 (omega (arith, gone_are.some)); few_rows = few_rows }

  pub are_kept : AreKept (hull_frame rows q) (kept_rates q (gone_rates q.verb))
  are_kept = record { rates = kept_within_rates (space_of q.names) (gone_rates q.verb); away = first_away (space_of q.names) (gone_rates q.verb) gone_are.some }

  -- the frame and the rates that the code has are these
  module _ (s : Space) (gone kept : List ℕ) (space : s ≡ space_of q.names) (asked : gone ≡ gone_rates q.verb) (stay : kept ≡ kept_coordinates s gone) where
    pub same_frame : frame_in rows s gone ≡ hull_frame rows q
    same_frame = ap₂ (λ (x : Space) (g : List ℕ). frame_in rows x g) space asked

    pub same_kept : kept ≡ kept_rates q (gone_rates q.verb)
    same_kept = stay ∙ ap₂ (λ (x : Space) (g : List ℕ). kept_coordinates x g) space asked

    pub own_frame : IsFrame (frame_in rows s gone)
    own_frame = subst (λ (f : Frame). IsFrame f) (sym same_frame) is_frame

    pub own_kept : AreKept (frame_in rows s gone) kept
    own_kept = subst (λ (f : Frame). AreKept f kept) (sym same_frame) (subst (λ (ks : List ℕ). AreKept (hull_frame rows q) ks) (sym same_kept) are_kept)
