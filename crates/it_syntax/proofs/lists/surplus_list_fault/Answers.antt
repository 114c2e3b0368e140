use Rattle.std.proofs.Common.{}
use Rattle.it_syntax.specs.Scopes.{env_of}
use Rattle.it_syntax.proofs.NameLists.{surplus_stops}
use Rattle.it_syntax.proofs.lists.surplus_list_fault.Goals as goal

pub returns-in-Err : goal.returns-in-Err
returns-in-Err c = surplus_stops (env_of c.args.names.now) _ _ c.in-Err.stop c.in-Err.ensures.gives
