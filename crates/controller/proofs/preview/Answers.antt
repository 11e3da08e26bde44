-- `controller::preview` meets its contract: what `text::preview` answers at the controller's limits.
use Rattle.controller.proofs.preview.Goals as goal

pub returns : goal.returns
returns c = c.preview.ensures
