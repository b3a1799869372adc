-- The cases of a test, of a filing, of a replacement and of a strike.
use Rattle.std.proofs.Common.{◌≡◌, ℕ, Bool, true, false, cond, refl, ap, ◌∙◌}
use mathlib.Core.Option.{Option, some, none}
use Rattle.keys.specs.declared.refusal.Refusal.TheVariants.{Duplicate, Full, NotStruck}
use Rattle.keys.specs.Orders.{Order}
use Rattle.lists.specs.Leaves.{Entry, Leaf, placed}
use Rattle.lists.specs.Rows.{Row, bounded}
use Rattle.lists.specs.Nodes.{Node, gone, sheet, Done, refusing, fitted, filing, replace, held, unless_held, file, killed, settled, strike_held, strike}
use Rattle.lists.specs.Histories.{Outcome}
use Rattle.lists.specs.Law.{agreed}

pub by_cond : {A : Type 0} (P : A → Type 0) (b : Bool) {x y : A} → (b ≡ true → P x) → (b ≡ false → P y) → P (cond b x y)
by_cond P true t f = t refl
by_cond P false t f = f refl

by_option : {A B : Type 0} (P : B → Type 0) (f : Option A → B) (o : Option A) → (o ≡ none → P (f none)) → ((x : A) → o ≡ some x → P (f (some x))) → P (f o)
by_option P f none n s = n refl
by_option P f (some x) n s = s x refl

-- what a call makes of the node, and its answer
abbrev pub done_by : {K V : Type 0} → Outcome K V → Done K V
done_by o = record { node = o.state.node; answer = o.answer }

module _ {K V : Type 0} (O : Order K) (P : Node K V → Done K V → Type 0) where
  pub by_replace : (e : Entry K V) → P gone (refusing gone Full) → ((r : Row K (Leaf K V)) (used : ℕ) (closed : Bool) → P (sheet r used closed) (filing O (placed O e) (fitted O e r used closed) r used closed)) → (n : Node K V) → P n (replace O e n)
  by_replace e none_left fits gone = none_left
  by_replace e none_left fits (sheet r used closed) = fits r used closed

  pub by_file :
      (e : Entry K V)
      → P gone (refusing gone Full)
      → ((r : Row K (Leaf K V)) (used : ℕ) (closed : Bool) (x : Entry K V) → held O (placed O e) r ≡ some x → P (sheet r used closed) (refusing (sheet r used closed) Duplicate))
      → ((r : Row K (Leaf K V)) (used : ℕ) (closed : Bool) → held O (placed O e) r ≡ none → P (sheet r used closed) (replace O e (sheet r used closed)))
      → (n : Node K V) → P n (file O e n)
  by_file e none_left twice fits gone = none_left
  by_file e none_left twice fits (sheet r used closed) =
      let n : Node K V = sheet r used closed in
      by_option (P n) (λ o. unless_held O o n (replace O e n)) (held O (placed O e) r) (fits r used closed) (twice r used closed)

  pub by_strike :
      (p : O.Place) (says : V → Bool)
      → P gone (refusing gone NotStruck)
      → ((r : Row K (Leaf K V)) (used : ℕ) (closed : Bool) → agreed O says (held O p r) ≡ false → P (sheet r used closed) (refusing (sheet r used closed) NotStruck))
      → ((r : Row K (Leaf K V)) (used : ℕ) (closed : Bool) (e : Entry K V) → held O p r ≡ some e → says e.value ≡ true → P (sheet r used closed) (settled O (bounded r) (killed O p r) used closed))
      → (n : Node K V) → P n (strike O p says n)
  by_strike p says none_left spared taken gone = none_left
  by_strike p says none_left spared taken (sheet r used closed) =
      by_option (P (sheet r used closed)) (λ o. strike_held O o p says r used closed) (held O p r) (λ h. spared r used closed (ap (agreed O says) h))
      (λ e h. by_cond (P (sheet r used closed)) (says e.value) (taken r used closed e h) (λ f. spared r used closed (ap (agreed O says) h ∙ f)))
