-- The lines of questions that can't have the copies that are asked for.
use Rattle.std.specs.Prelude.{ℕ, List, [], ◌++◌, codes, decimal}
use Rattle.it_copy.specs.declared.types.CopyFault.{CopyFault}
use Rattle.it_copy.specs.declared.types.CopyFault.TheVariants.{Memory, Verb, Copy, Many, Large}

-- why the question can't have the copies; no words for `Memory`, which is no such reason
abbrev pub misfit_words : CopyFault → List ℕ
misfit_words Memory = []
misfit_words Verb = codes "verb"
misfit_words (Copy line) = codes "copy " ++ decimal line
misfit_words Many = codes "many"
misfit_words Large = codes "large"

-- the line of question k
unfoldable pub misfit_line : ℕ → CopyFault → List ℕ
misfit_line k fault = decimal k ++ codes " misfit " ++ misfit_words fault ++ codes "\n"
