use Rattle.std.proofs.Common.{◌≡◌, map, drop}
use Rattle.it_tell.specs.Settings.{no_options, with_words}
use Rattle.it_tell.proofs.settings.with_words.Given as goal

abbrev pub invariant-loop-word : goal.invariant-loop-word
invariant-loop-word l = with_words l.options (map (λ w. w.now) (drop l.word-index l.words)) ≡ with_words no_options (map (λ w. w.now) l.words)
