use Rattle.lists.proofs.Laws.{law}
use Rattle.lists.proofs.law.Goals as goal

pub returns : goal.returns
returns g c = law g.K.Equivalent.order g.met.K.Equivalent.lawful g.row.S.Denot
