-- The shape of a proposal.
use Rattle.std.specs.Prelude.{◌≡◌, length}
use Rattle.it_space.specs.declared.spaces.Space.{Space}
use Rattle.it_space.specs.Spaces.{size_of}
use Rattle.it_quick.specs.declared.proposing.Proposal.{Proposal}
use Rattle.it_quick.specs.declared.proposing.Proposal.TheVariants as proposals

-- a proposed point has a value for each coordinate of the space
abbrev pub IsOfSpace : Space → Proposal → Type 0
IsOfSpace space (proposals.Yes certificate) = Unit {0}
IsOfSpace space (proposals.No point) = length point ≡ size_of space
