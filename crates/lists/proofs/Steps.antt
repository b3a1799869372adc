-- What each call does to what stands in a node.
use Rattle.std.proofs.Common.{◌≡◌, ℕ, suc, Bool, true, false, not, ◌&&◌, ltb, ◌⊎◌, ◌↔◌, List, [], ◌∷◌, sym, refl, ap, ◌∙◌, inl, inr, arith}
use mathlib.Core.Option.{Option, some, none}
use Rattle.keys.specs.declared.refusal.Refusal.TheVariants.{Duplicate, Full, NotStruck}
use Rattle.keys.specs.Orders.{Order, Ordered, within}
use Rattle.lists.specs.Leaves.{Entry, Leaf, lives, empty, spent, placed, lookup}
use Rattle.lists.specs.Rows.{Row, edge, child, Change, one, two, no_room, bounded, target, at_edge}
use Rattle.lists.specs.Nodes.{child_places, Node, gone, sheet, Answer, filed, struck, began, gave, refused, Done, fitted, filing, held, told, killed, settled}
use Rattle.lists.specs.Nodes as nodes
use Rattle.lists.specs.Walks.{walkable}
use Rattle.lists.specs.Histories.{State, Call, file, replace, strike, find, begin, move, turned_away, refusal_for, given, does, accepted, retires, left}
use Rattle.lists.specs.Law.{agreed}
use Rattle.lists.proofs.Cases.{by_cond, by_replace, by_file, by_strike, done_by}
use Rattle.lists.proofs.Looks.{Apart, meets_self}
use Rattle.lists.proofs.Fits.{Suits, fit_suits}
use Rattle.lists.proofs.Rows.{look, Good, look_target, Put, one_put, two_put, killed_put, empty_look}

module _ {K V : Type 0} where
  pub not_gone : (r : Row K (Leaf K V)) (used : ℕ) (closed : Bool) → sheet r used closed ≡ gone → ⊥
  not_gone r used closed h = grind arith

  -- only a strike that answers Retired makes a node go
  abbrev Ends : Node K V → Done K V → Type 0
  Ends n d = (d.node ≡ gone) ↔ ((n ≡ gone) ⊎ (retires d.answer ≡ true))

  same_ends : (n : Node K V) (a : Answer K V) → retires a ≡ false → Ends n (record { node = n; answer = a })
  same_ends n a q = (inl, λ k. elim k [ inl g ↦ g | inr t ↦ absurd (grind arith) ])

  sheet_ends : (r s : Row K (Leaf K V)) (u v : ℕ) (c d : Bool) (a : Answer K V) → retires a ≡ false → Ends (sheet r u c) (record { node = sheet s v d; answer = a })
  sheet_ends r s u v c d a q = ((λ g. absurd (not_gone s v d g)), λ k. elim k [ inl g ↦ absurd (not_gone r u c g) | inr t ↦ absurd (grind arith) ])

module _ {K V : Type 0} (O : Order K) (L : Ordered O) where
  abbrev pub node_look : O.Place → Node K V → Option (Entry K V)
  node_look p gone = none
  node_look p (sheet r used closed) = look O L p r

  abbrev pub NodeGood : Node K V → Type 0
  NodeGood gone = Unit {0}
  NodeGood (sheet r used closed) = Good O L r

  -- some entry stands in the node
  abbrev pub Held : Node K V → Type 0
  Held n = (q : O.Place) × (e : Entry K V) × (node_look q n ≡ some e)

  -- what a call does to what stands
  pub record Steps (c : Call K V O.Place) (n : Node K V) (d : Done K V) : Type 0 where
    pub looks : (p : O.Place) → node_look p d.node ≡ left O p c d.answer (node_look p n)
    pub good : NodeGood d.node
    pub ends : Ends n d
    pub keeps : accepted d.answer ≡ false → d.node ≡ n

  -- a call that leaves the node as it was
  quiet_steps : (c : Call K V O.Place) (n : Node K V) (a : Answer K V) → NodeGood n → ((p : O.Place) (o : Option (Entry K V)) → left O p c a o ≡ o) → retires a ≡ false → Steps c n (record { node = n; answer = a })
  quiet_steps c n a g same q = record { looks = λ p. sym (same p (node_look p n)); good = g; ends = same_ends n a q; keeps = λ _. refl }

  filing_steps : (e : Entry K V) (c : Change K (Leaf K V)) (r : Row K (Leaf K V)) (used : ℕ) (closed : Bool) → Good O L r → Suits O L (placed O e) (some e) (target O (placed O e) r) c → Steps (replace e) (sheet r used closed) (filing O (placed O e) c r used closed)
  filing_steps e (one m k) r used closed g s =
      let t = one_put O L (placed O e) (some e) m k r g s in
      record { looks = t.looks; good = t.good; ends = sheet_ends r _ used used closed closed (filed k) refl; keeps = λ k. absurd (grind arith) }
  filing_steps e (two low x high k) r used closed g s =
      let t = two_put O L (placed O e) (some e) low x high k r g s in
      record { looks = t.looks; good = t.good; ends = sheet_ends r _ used (suc used) closed closed (filed k) refl; keeps = λ k. absurd (grind arith) }
  filing_steps e no_room r used closed g s = quiet_steps (replace e) (sheet r used closed) (refused Full) g (λ p o. refl) refl

  target_apart : (p : O.Place) (r : Row K (Leaf K V)) → Good O L r → Apart O L (lives (target O p r))
  target_apart p (edge l) g = g
  target_apart p (child b l r) g = by_cond (λ (m : Leaf K V). Apart O L (lives m)) (within O b p) (λ _. g.0.leafy.apart) (λ _. target_apart p r g.1)

  pub fitted_suits : (e : Entry K V) (r : Row K (Leaf K V)) (used : ℕ) (closed : Bool) → Good O L r → Suits O L (placed O e) (some e) (target O (placed O e) r) (fitted O e r used closed)
  fitted_suits e r used closed g =
      let p : O.Place = placed O e in
      fit_suits O L e (at_edge O p r) (ltb used child_places && not closed) (target O p r) (target_apart p r g)

  replace_steps : (e : Entry K V) (n : Node K V) → NodeGood n → Steps (replace e) n (nodes.replace O e n)
  replace_steps e =
      by_replace O (λ n d. NodeGood n → Steps (replace e) n d) e (λ g. quiet_steps (replace e) gone (refused Full) g (λ p o. refl) refl)
      (λ r used closed g. filing_steps e (fitted O e r used closed) r used closed g (fitted_suits e r used closed g))

  file_steps : (e : Entry K V) (n : Node K V) → NodeGood n → Steps (file e) n (nodes.file O e n)
  file_steps e =
      by_file O (λ n d. NodeGood n → Steps (file e) n d) e (λ g. quiet_steps (file e) gone (refused Full) g (λ p o. refl) refl)
      (λ r used closed x _ g. quiet_steps (file e) (sheet r used closed) (refused Duplicate) g (λ p o. refl) refl)
      (λ r used closed _ g. let s = replace_steps e (sheet r used closed) g in record { looks = s.looks; good = s.good; ends = s.ends; keeps = s.keeps })

  pub first_look : (es : List (Entry K V)) → empty es ≡ false → (e : Entry K V) × (lookup O (placed O e) es ≡ some e)
  first_look [] h = absurd (grind arith)
  first_look (x ∷ xs) h = (x, (let s = meets_self O L (placed O x) in grind arith))

  -- how a strike that took an entry ends: the node goes and the answer is Retired, or the node holds something still
  abbrev Settling : Done K V → Type 0
  Settling d = ((d.answer ≡ struck true) × (d.node ≡ gone)) ⊎ ((d.answer ≡ struck false) × Held d.node)

  record Settles (s : Row K (Leaf K V)) (d : Done K V) : Type 0 where
    looks : (p : O.Place) → node_look p d.node ≡ look O L p s
    good : NodeGood d.node
    ends : Settling d

  settled_settles : (had : Bool) (s : Row K (Leaf K V)) (used : ℕ) (closed : Bool) → Good O L s → Settles s (settled O had s used closed)
  settled_settles had (edge l) used closed g =
      by_cond (Settles (edge l)) (spent l)
      (λ h. record { looks = λ p. sym (empty_look O L p (lives l) h); good = tt; ends = inl (refl, refl) })
      (λ h. let f = first_look (lives l) h in record { looks = λ p. refl; good = g; ends = inr (refl, (placed O f.0, f.0, f.1)) })
  settled_settles had (child b l r) used closed g =
      let f = first_look (lives l) g.0.leafy.some_live in
      record { looks = λ p. refl; good = g; ends = inr (refl, (placed O f.0, f.0, (let k = f.1 in grind arith))) }

  -- A strike is accepted if the condition agrees to what stands. It retires a node that held something, or one that held something does so still.
  pub record Struck (p : O.Place) (says : V → Bool) (n : Node K V) (d : Done K V) : Type 0 where
    pub steps : Steps (strike p says) n d
    pub asks : accepted d.answer ≡ agreed O says (node_look p n)
    pub ends : ((d.answer ≡ struck true) × (d.node ≡ gone) × Held n) ⊎ ((retires d.answer ≡ false) × (Held n → Held d.node))

  spared : (p : O.Place) (says : V → Bool) (n : Node K V) → NodeGood n → agreed O says (node_look p n) ≡ false → Struck p says n (record { node = n; answer = refused NotStruck })
  spared p says n g no-yes = record {
    steps = quiet_steps (strike p says) n (refused NotStruck) g (λ q o. refl) refl;
    asks = sym no-yes;
    ends = inr (refl, λ h. h);
  }

  taken : (p : O.Place) (says : V → Bool) (e : Entry K V) (r s : Row K (Leaf K V)) (used : ℕ) (closed : Bool) (d : Done K V) → look O L p r ≡ some e → says e.value ≡ true → Put O L p none r s → Settles s d → Struck p says (sheet r used closed) d
  taken p says e r s used closed d at agrees put t =
      let took : accepted d.answer ≡ true = elim t.ends [ inl x ↦ ap accepted x.0 | inr y ↦ ap accepted y.0 ] in
      record {
        steps = record {
          looks = λ q. let a = t.looks q in let b = put.looks q in grind arith;
          good = t.good;
          ends = elim t.ends [
            | inl x ↦ ((λ _. inr (ap retires x.0)), λ _. x.1)
            | inr y ↦ ((λ k. absurd (gone_empty d.node k y.1)), λ k. elim k [ inl g ↦ absurd (not_gone r used closed g) | inr q ↦ (let z = ap retires y.0 in absurd (grind arith)) ])
          ];
          keeps = λ k. absurd (grind arith);
        };
        asks = took ∙ sym (ap (agreed O says) at ∙ agrees);
        ends = elim t.ends [ inl x ↦ inl (x.0, x.1, (p, e, at)) | inr y ↦ inr (ap retires y.0, λ _. y.1) ];
      }
    where
      gone_empty : (m : Node K V) → m ≡ gone → Held m → ⊥
      gone_empty gone k some-held = let x = some-held.2 in grind arith
      gone_empty (sheet _ _ _) k some-held = grind arith

  pub strike_struck : (p : O.Place) (says : V → Bool) (n : Node K V) → NodeGood n → Struck p says n (nodes.strike O p says n)
  strike_struck p says =
      by_strike O (λ n d. NodeGood n → Struck p says n d) p says (λ g. spared p says gone g refl)
      (λ r used closed f g. spared p says (sheet r used closed) g (ap (agreed O says) (sym (look_target O L p r g)) ∙ f))
      (λ r used closed e at t g.
      let put = killed_put O L p r g in
      taken p says e r (killed O p r) used closed (settled O (bounded r) (killed O p r) used closed) (sym (look_target O L p r g) ∙ at) t put (settled_settles (bounded r) (killed O p r) used closed put.good))

  find_quiet : (p : O.Place) (n : Node K V) → retires (nodes.find O p n) ≡ false
  find_quiet p gone = refl
  find_quiet p (sheet r used closed) = elim (held O p r) as (λ o. retires (told O o) ≡ false) [ none ↦ refl | some e ↦ refl ]

  pub does_steps : (c : Call K V O.Place) (s : State K V) → NodeGood s.node → Steps c s.node (done_by (does O c s))
  does_steps (file e) s g = file_steps e s.node g
  does_steps (replace e) s g = replace_steps e s.node g
  does_steps (strike p says) s g = (strike_struck p says s.node g).steps
  does_steps (find p) s g = quiet_steps (find p) s.node (nodes.find O p s.node) g (λ q o. refl) (find_quiet p s.node)
  does_steps (begin d) s g = quiet_steps (begin d) s.node (began (walkable s.node)) g (λ q o. refl) refl
  does_steps (move m) s g = quiet_steps (move m) s.node (gave (given O m s.node s.walk)) g (λ q o. refl) refl
  does_steps (turned_away f) s g = quiet_steps (turned_away f) s.node (refused (refusal_for f)) g (λ q o. refl) refl
