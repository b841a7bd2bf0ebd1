-- The table, by the sixteen pairs of techniques.
use Rattle.orders.proofs.Techniques.{at_least_table}
use Rattle.orders.proofs.technique.at_least_table.Goals as goal

pub returns : goal.returns
returns c m n t u p q = at_least_table m n t u p q
