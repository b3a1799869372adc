-- The bridge, gathered.
use Rattle.std.proofs.Common.{◌≡◌, ℕ, zero, suc, List, [], get_or, replicate, sym, refl, ap, subst, arith}
use Rattle.keys.specs.Orders.{Order, Ordered}
use Rattle.leaf.specs.Calls.{fresh}
use Rattle.leaf.specs.Rules.{state_of}
use Rattle.leaf.specs.Slots.{Sorted}
use Rattle.leaf.specs.declared.array.Array.{Array}
use Rattle.leaf.specs.declared.data_block.Slot.{Slot}
use Rattle.leaf_lists.specs.Stands.{leaf_in, Becomes, Stands}
use Rattle.leaf_lists.proofs.Counts.{length_of, lives_of, none_of, retires_of}
use Rattle.leaf_lists.proofs.Looks.{look_of}
use Rattle.leaf_lists.proofs.Changes.{file_of, strike_of}
use Rattle.leaf_lists.proofs.Orders.{order_of, ascending_of}
use Rattle.leaf_lists.proofs.Pushes.{push_of}
use Rattle.leaf_lists.proofs.Rises.{rises_of, full_of}

none_live : (m p : ℕ) → get_or {A = ℕ} (replicate m 0) p 0 ≡ 0
none_live zero p = refl
none_live (suc m) zero = refl
none_live (suc m) (suc p) = none_live m p

fresh_of : {K V : Type 0} (O : Order K) (a : Array) (slots : List (Slot K V)) → state_of a ≡ fresh → Becomes O a slots []
fresh_of O a slots e = record {
  leaf = ap (λ s. leaf_in s slots) e;
  sorted = subst (λ s. Sorted O s.ranks slots) (sym e) (λ p q x y ep eq l r. absurd (omega (arith, none_live 15 p)));
}

pub bridge : {K V : Type 0} (O : Order K) → Ordered O → Stands V O
bridge O L = record {
  fresh = fresh_of O;
  counts = λ a slots n. record { uses = length_of a slots n; lives = lives_of a slots n; none = none_of a slots n; retires = retires_of a slots n };
  agrees = λ a slots n so. record {
    look = look_of O L a slots n so;
    order = order_of O L a slots n so;
    ascending = ascending_of O L a slots n so;
    file = file_of O L a slots n so;
    push = push_of O L a slots n so;
    strike = strike_of O L a slots n so;
    rising = rises_of O L a slots n so;
    full = full_of O L a slots n so;
  };
}
