-- The words of Shannon's information measures, which are no names.
use Rattle.std.specs.Prelude.{ℕ, Bool, List, ◌||◌, bytes_eq, codes}

-- whether the word stands for an entropy or a mutual information
abbrev pub is_measure : List ℕ → Bool
is_measure w = bytes_eq w (codes "H") || bytes_eq w (codes "I")
