use Rattle.std.proofs.Common.{sym, refl, ◌∙◌}
use Rattle.std.proofs.lemmas.Bool.{cond-false, ne_eqb}
use Rattle.leaf.proofs.Wholes.{made_same, whole_out, whole_struck, retired_word}
use Rattle.leaf.proofs.array.Array.remove_unchecked.Goals as goal

pub invariant_of-self : goal.invariant_of-self
invariant_of-self c = record { whole = ∣ whole_struck (whole_out c.args.self.now.whole) c.args.pos _ c.requires c.cleared-self.ensures ∣₁ }

pub returns-else-self-eq-RETIRED : goal.returns-else-self-eq-RETIRED
returns-else-self-eq-RETIRED c =
    let e = c.cleared-self.ensures in
    let w = whole_struck (whole_out c.args.self.now.whole) c.args.pos _ c.requires e in
    record {
      answer = sym (cond-false _ _ _ (ne_eqb _ 4 (λ f. c.if-self-eq-RETIRED.false (retired_word w (e.flags ∙ f)))));
      state = made_same e.ranks refl e.flags;
    }
