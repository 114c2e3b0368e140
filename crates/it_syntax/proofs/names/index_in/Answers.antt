use Rattle.std.proofs.Common.{◌∙◌, sym}
use Rattle.std.specs.Prelude.{bytes_eq}
use Rattle.it_syntax.proofs.NameLemmas.{position_map}
use Rattle.it_syntax.proofs.names.index_in.Goals as goal

pub returns-in_err-get_index_of-clause-index : goal.returns-in_err-get_index_of-clause-index
returns-in_err-get_index_of-clause-index c = c.from_residual.ensures ∙ c.in_err-get_index_of.ensures.index
    ∙ sym (position_map (bytes_eq c.args.name.now) c.args.names.now.keys)

pub returns-clause-index : goal.returns-clause-index
returns-clause-index c = c.in_ok-get_index_of.ensures.index ∙ sym (position_map (bytes_eq c.args.name.now) c.args.names.now.keys)
