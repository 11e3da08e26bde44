-- The template is that of the operator's condition, over the ends of the node.
use Rattle.text.proofs.SortLaws.{template_fills}
use Rattle.text.proofs.ends.template_of.Goals as goal

pub returns-clause-text : goal.returns-clause-text
returns-clause-text c = λ w g t nd h a. template_fills w g nd h a c.is_kind-a.ensures c.is_kind-b.ensures c.temporal_sql.ensures.text
