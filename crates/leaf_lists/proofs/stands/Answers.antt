use Rattle.leaf_lists.proofs.Bridge.{bridge}
use Rattle.leaf_lists.proofs.stands.Goals as goal

pub returns : goal.returns
returns g c = bridge g.K.Equivalent.order g.met.K.Equivalent.lawful
