-- `card::follow::Row::is_idle` meets its contract: the rule of a row from m up.
use Rattle.card.proofs.Formed.{row-idle}
use Rattle.card.proofs.follow.Row.is_idle.Goals as goal

pub returns : goal.returns
returns c m n q l = row-idle m n q c.args.self.exit c.args.self.first l
