-- The bridge of the ranks, gathered.
use Rattle.keys.specs.Orders.{Order, Ordered}
use Rattle.leaf.specs.Rules.{state_of}
use Rattle.ranked_leaves.specs.RanksStand.{RanksStand}
use Rattle.ranked_leaves.proofs.Ranked.{plain_in, plain_anew, plain_taken, plain_cleared, numbered_push}
use Rattle.ranked_leaves.proofs.Ranks.{length_ranked}
use Rattle.ranked_leaves.proofs.Changes.{ranked_file, ranked_strike}
use Rattle.ranked_leaves.proofs.Anew.{sorted_anew, pinned_of, words_of}
use Rattle.ranked_leaves.proofs.Pushes.{ranked_push}

pub bridge : {K V : Type 0} (O : Order K) → Ordered O → RanksStand V O
bridge O L = record {
  counts = λ a slots n. record {
    unranked = plain_in (state_of a) slots;
    uses_ranked = length_ranked a slots n;
    push_ranked = ranked_push a slots n;
    pinned = pinned_of a slots n;
  };
  agrees = λ a slots n so. record { file_ranked = ranked_file O L a slots n so; strike_ranked = ranked_strike O L a slots n so };
  anew_sorted = sorted_anew O;
  plain_anew = plain_anew;
  plain_taken = plain_taken O;
  plain_cleared = plain_cleared O;
  numbered_push = numbered_push;
  words = words_of;
}
