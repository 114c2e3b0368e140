-- No public clause cites this module: the faults that errors of clap mean.
use Rattle.std.specs.Prelude.{◌≡◌}
use Rattle.clap.specs.declared.error.kind.ErrorKind.{ErrorKind}
use Rattle.clap.specs.declared.error.kind.ErrorKind.TheVariants as kinds
use Rattle.it_settings.specs.declared.types.WordsFault.{WordsFault}
use Rattle.it_settings.specs.declared.types.WordsFault.TheVariants.{Usage, Memory}

-- an error of kind OutOfMemory means Memory, and every other that the words have no reading
abbrev pub IsFaultOf : ErrorKind → WordsFault → Type 0
IsFaultOf kind Usage = kind ≡ kinds.OutOfMemory → ⊥
IsFaultOf kind Memory = kind ≡ kinds.OutOfMemory
