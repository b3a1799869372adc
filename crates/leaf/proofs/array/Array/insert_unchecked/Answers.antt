use Rattle.std.proofs.Common.{rules}
use Rattle.leaf.proofs.Files.{Given, pushed_whole}
use Rattle.leaf.proofs.array.Array.insert_unchecked.Goals as goal

pub invariant_of-self : goal.invariant_of-self
invariant_of-self g c =
    let is : Given c.args.self.now c.args.metadata c.unwrap_or_else-word.result = search rules in
    record { whole = rw c.take_use.ensures.bitmap (∣ pushed_whole c.args.self.now c.args.metadata c.unwrap_or_else-word.result c.requires.room c.requires.fits is ∣₁) }
