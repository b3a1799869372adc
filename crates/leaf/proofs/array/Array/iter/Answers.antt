use Rattle.leaf.proofs.Wholes.{whole_out}
use Rattle.leaf.proofs.array.Array.iter.Goals as goal

pub returns : goal.returns
returns c =
    let apart = (whole_out c.args.self.now.whole).apart in
    let e = c.with_metadata.ensures in
    record { given = e.given; forward = e.forward apart; backward = e.backward apart }
