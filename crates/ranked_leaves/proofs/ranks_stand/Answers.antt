use Rattle.ranked_leaves.proofs.Bridge.{bridge}
use Rattle.ranked_leaves.proofs.ranks_stand.Goals as goal

pub returns : goal.returns
returns g c = bridge g.K.Equivalent.order g.met.K.Equivalent.lawful
