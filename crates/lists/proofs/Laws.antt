-- Every history is lawful.
use Rattle.std.proofs.Common.{◌≡◌, ℕ, Bool, true, ◌↔◌, List, [], ◌∷◌, reverse, sym, refl, ap, ◌∙◌, subst, ap₂, inl, inr, arith}
use mathlib.Core.List.{Memᴰ}
use mathlib.Core.Option.{Option, some, none}
use Rattle.keys.specs.declared.refusal.Refusal.TheVariants.{Duplicate, NotFound}
use Rattle.keys.specs.Orders.{Order, Ordered}
use Rattle.lists.specs.Leaves.{Entry, Leaf, placed, lookup}
use Rattle.lists.specs.Rows.{Row, Change, one, two, no_room}
use Rattle.lists.specs.Nodes.{Node, gone, sheet, Answer, began, refused, filing, held, told}
use Rattle.lists.specs.Nodes as nodes
use Rattle.lists.specs.Walks.{Direction, forth, back, Move, route, walked, walkable}
use Rattle.lists.specs.Histories.{Walk, State, Call, file, replace, strike, find, begin, move, turned_away, given, does, Past, state_after, history, Ran, opened, called, accepted, Over, left, standing}
use Rattle.lists.specs.Law.{Stands, Alive, Exactly, agreed, Tells, Right, AllRight, InOrder, Lawful, looks, Law}
use Rattle.lists.proofs.Cases.{by_file}
use Rattle.lists.proofs.Costs.{NodeSmall, paid_for, cheap, few}
use Rattle.lists.proofs.Looks.{look_member, member_look, look_place}
use Rattle.lists.proofs.Same.{same_ascending}
use Rattle.lists.proofs.Walks.{all_of, full_all, all_back, gives_there, reverse_there}
use Rattle.lists.proofs.Rows.{look, look_target, row_forth, look_forth, up_forth, full_forth, full_back}
use Rattle.lists.proofs.Steps.{not_gone, node_look, NodeGood, Held, does_steps, strike_struck}
use Rattle.lists.proofs.Bounds.{target_least, Bounded, does_bounded}

module _ {K V : Type 0} (O : Order K) (L : Ordered O) where
  -- a node and the history that led to it: what stands in the one stands in the other
  record Tied (h : Past V O) (n : Node K V) : Type 0 where
    good : NodeGood O L n
    stands : (p : O.Place) → standing O p h ≡ node_look O L p n
    over : Over h ↔ (n ≡ gone)

  tied_next : (c : Call K V O.Place) (h : Past V O) (s : State K V) → Tied h s.node → Tied (record { call = c; answer = (does O c s).answer } ∷ h) (does O c s).state.node
  tied_next c h s t =
      let d = does_steps O L c s t.good in
      record {
        good = d.good;
        stands = λ p. ap (left O p c (does O c s).answer) (t.stands p) ∙ sym (d.looks p);
        over = (
          (λ o. elim o [ inl r ↦ d.ends.1 (inr r) | inr k ↦ d.ends.1 (inl (t.over.0 k)) ]),
          λ g. elim (d.ends.0 g) [ inl k ↦ inr (t.over.1 k) | inr r ↦ inl r ],
        );
      }

  -- the full walks
  forth_exactly : (h : Past V O) (n : Node K V) → Tied h n → Exactly O h (walked O forth n)
  forth_exactly h gone t = record { ascend = tt; stand = λ e m. elim m [ ]; all = λ e s. let k = t.stands (placed O e) in absurd (grind arith) }
  forth_exactly h (sheet r used closed) t = subst (Exactly O h) (sym (full_forth O L r)) (
      let up = up_forth O L r t.good in
      record {
        ascend = up;
        stand = λ e m. t.stands (placed O e) ∙ sym (look_forth O L (placed O e) r) ∙ member_look O L m up;
        all = λ e s. look_member O L (placed O e) (row_forth O L r) e (look_forth O L (placed O e) r ∙ sym (t.stands (placed O e)) ∙ s);
      })

  back_is : (n : Node K V) → walked O back n ≡ reverse (walked O forth n)
  back_is gone = refl
  back_is (sheet r used closed) = full_back O L r

  -- what a walk comes by stands
  forth_stands : (h : Past V O) (n : Node K V) → Tied h n → (e : Entry K V) → Memᴰ e (all_of (route O forth n)) → Stands O h e
  forth_stands h n t e m = (forth_exactly h n t).stand e (subst (Memᴰ e) (sym (full_all (route O forth n))) m)

  route_stands : (h : Past V O) (n : Node K V) → Tied h n → (d : Direction) (e : Entry K V) → Memᴰ e (all_of (route O d n)) → Stands O h e
  route_stands h n t forth e m = forth_stands h n t e m
  route_stands h gone t back e m = elim m [ ]
  route_stands h (sheet r used closed) t back e m =
      let ls : List (List (Entry K V)) = route O forth (sheet r used closed) in
      forth_stands h (sheet r used closed) t e (reverse_there (all_of ls) (subst (Memᴰ e) (all_back ls) m))

  given_stands : (h : Past V O) (n : Node K V) → Tied h n → (m : Move) (w : Option Walk) (e : Entry K V) → given O m n w ≡ some e → Stands O h e
  given_stands h n t m none e k = absurd (grind arith)
  given_stands h n t m (some w) e k = route_stands h n t w.direction e (gives_there m (route O w.direction n) w.cursor e k)

  -- each answer is right
  filing_new : (p : O.Place) (c : Change K (Leaf K V)) (r : Row K (Leaf K V)) (used : ℕ) (closed : Bool) → (filing O p c r used closed).answer ≡ refused Duplicate → ⊥
  filing_new p (one m k) r used closed h = grind arith
  filing_new p (two low x high k) r used closed h = grind arith
  filing_new p no_room r used closed h = grind arith

  -- a node is not gone in a history that has not ended
  not_over : {h : Past V O} {r : Row K (Leaf K V)} {used : ℕ} {closed : Bool} {X : Type 0} → Tied h (sheet r used closed) → Over h → X
  not_over {r = r} {used = used} {closed = closed} t k = absurd (not_gone r used closed (t.over.0 k))

  held_is : (p : O.Place) {h : Past V O} {r : Row K (Leaf K V)} {used : ℕ} {closed : Bool} → Tied h (sheet r used closed) → held O p r ≡ standing O p h
  held_is p {r = r} t = look_target O L p r t.good ∙ sym (t.stands p)

  file_right : (e : Entry K V) (h : Past V O) (n : Node K V) → Tied h n → Right O h (file e) (nodes.file O e n).answer
  file_right e h =
      by_file O (λ n d. Tied h n → Right O h (file e) d.answer) e
      (λ t. (((λ k. absurd (grind arith)), (λ x. let s = t.stands (placed O e) in let y = x.1 in absurd (grind arith))), λ _. refl))
      (λ r used closed x at t. (((λ _. (x, sym (held_is (placed O e) t) ∙ at)), (λ _. refl)), not_over t))
      (λ r used closed at t. (((λ k. absurd (filing_new (placed O e) _ r used closed k)), (λ x. let s = held_is (placed O e) t in let y = x.1 in absurd (grind arith))), not_over t))

  replace_right : (e : Entry K V) (h : Past V O) (n : Node K V) → Tied h n → Right O h (replace e) (nodes.replace O e n).answer
  replace_right e h gone t = λ _. refl
  replace_right e h (sheet r used closed) t = not_over t

  told_right : (o : Option (Entry K V)) → Tells O o (told O o)
  told_right none = refl
  told_right (some e) = refl

  find_right : (p : O.Place) (h : Past V O) (n : Node K V) → Tied h n → Right O h (find p) (nodes.find O p n)
  find_right p h gone t = (subst (λ o. Tells O o (refused NotFound)) (sym (t.stands p)) refl, λ _. refl)
  find_right p h (sheet r used closed) t = (subst (λ o. Tells O o (told O (held O p r))) (held_is p t) (told_right (held O p r)), not_over t)

  begin_right : (d : Direction) (h : Past V O) (n : Node K V) → Tied h n → Right O h (begin d) (began (walkable n))
  begin_right d h gone t = ((λ _. t.over.1 refl), λ _. refl)
  begin_right d h (sheet r used closed) t = ((λ k. absurd (grind arith)), not_over t)

  alive_held : (h : Past V O) (n : Node K V) → Tied h n → Held O L n → Alive O h
  alive_held h gone t k = let e = k.2 in absurd (grind arith)
  alive_held h (sheet r used closed) t k =
      let e = k.1 in
      let place : k.0 ≡ placed O e = look_place O L k.0 (row_forth O L r) e (look_forth O L k.0 r ∙ k.2) in
      (e, (t.stands (placed O e) ∙ subst (λ q. look O L q r ≡ some e) place k.2))

  held_alive : (h : Past V O) (n : Node K V) → Tied h n → Alive O h → Held O L n
  held_alive h n t a = (placed O a.0, a.0, sym (t.stands (placed O a.0)) ∙ a.1)

  strike_right : (p : O.Place) (says : V → Bool) (h : Past V O) (s : State K V) → Tied h s.node → Right O h (strike p says) (nodes.strike O p says s.node).answer
  strike_right p says h s t =
      let k = strike_struck O L p says s.node t.good in
      let u = tied_next (strike p says) h s t in (
        k.asks ∙ ap (agreed O says) (sym (t.stands p)),
        elim k.ends [
          | inl x ↦ ((λ _. (alive_held h s.node t x.2, λ a. let l = subst (Held O L) x.1 (held_alive _ _ u a) in let y = l.2 in grind arith)), (λ _. x.0))
          | inr y ↦ ((λ r. let l = y.0 in absurd (grind arith)), (λ b. absurd (b.1 (alive_held _ _ u (y.1 (held_alive h s.node t b.0))))))
        ],
      )

  right : (c : Call K V O.Place) (h : Past V O) (s : State K V) → Tied h s.node → Right O h c (does O c s).answer
  right (file e) h s t = file_right e h s.node t
  right (replace e) h s t = replace_right e h s.node t
  right (strike p says) h s t = strike_right p says h s t
  right (find p) h s t = find_right p h s.node t
  right (begin d) h s t = begin_right d h s.node t
  right (move m) h s t = λ e k. given_stands h s.node t m s.walk e (cc)
  right (turned_away f) h s t = refl

  -- of lists of calls
  record Sound (h : Past V O) (n : Node K V) : Type 0 where
    tied : Tied h n
    answers : AllRight O h
    bounded : Bounded O L n

  sound : (cs : List (Call K V O.Place)) → Sound (history O cs) (state_after O cs).node
  sound [] = record { tied = record { good = tt; stands = λ p. refl; over = ((λ k. absurd k), λ k. absurd (not_gone _ _ _ k)) }; answers = tt; bounded = (tt, omega arith) }
  sound (c ∷ cs) =
      let s = sound cs in
      record {
        tied = tied_next c (history O cs) (state_after O cs) s.tied;
        answers = (right c (history O cs) (state_after O cs) s.tied, s.answers);
        bounded = does_bounded O L c (state_after O cs) s.tied.good s.bounded;
      }

  in_order : (n : Node K V) → Bounded O L n → NodeSmall n → InOrder O n
  in_order gone b u = tt
  in_order (sheet r used closed) b u = record { aims = λ p. target_least O p r b.0; rising = b.0; fewer = b.1; few = u.1; small = u.0 }

  pub lawful : (cs : List (Call K V O.Place)) → Lawful O (history O cs) (state_after O cs)
  lawful cs =
      let s = sound cs in
      record {
        forward = forth_exactly (history O cs) (state_after O cs).node s.tied;
        backward = back_is (state_after O cs).node;
        answers = s.answers;
        cheap = cheap O cs;
        few = few O cs;
        in_order = in_order (state_after O cs).node s.bounded (paid_for O cs).small;
      }

  looks_node : (c : Call K V O.Place) (s : State K V) → looks O c ≡ true → (does O c s).state.node ≡ s.node
  looks_node (file e) s k = absurd (grind arith)
  looks_node (replace e) s k = absurd (grind arith)
  looks_node (strike p says) s k = absurd (grind arith)
  looks_node (find p) s k = refl
  looks_node (begin d) s k = refl
  looks_node (move m) s k = refl
  looks_node (turned_away f) s k = refl

  -- what stands makes one list
  exactly_look : (h : Past V O) (xs ys : List (Entry K V)) → Exactly O h xs → Exactly O h ys → (p : O.Place) (e : Entry K V) → lookup O p xs ≡ some e → lookup O p ys ≡ some e
  exactly_look h xs ys x y p e k = rw (look_place O L p xs e k) (member_look O L (y.all e (x.stand e (look_member O L p xs e k))) y.ascend)

  only_one : (h : Past V O) (xs ys : List (Entry K V)) → Exactly O h xs → Exactly O h ys → xs ≡ ys
  only_one h xs ys x y = same_ascending O L xs ys x.ascend y.ascend (λ k. same (O.place k) (lookup O (O.place k) xs) (lookup O (O.place k) ys) refl refl)
    where
      same : (p : O.Place) (a b : Option (Entry K V)) → lookup O p xs ≡ a → lookup O p ys ≡ b → lookup O p xs ≡ lookup O p ys
      same p none none i j = i ∙ sym j
      same p (some e) b i j = i ∙ sym (exactly_look h xs ys x y p e i)
      same p none (some e) i j = exactly_look h ys xs y x p e j ∙ sym j

  -- A history of whatever stands for a node and a walk is one of a list of calls.
  record Called {S : Type 0} (of : S → State K V) (s : S) (h : Past V O) : Type 0 where
    calls : List (Call K V O.Place)
    past : history O calls ≡ h
    state : state_after O calls ≡ of s

  ran_called : {S : Type 0} {of : S → State K V} {s : S} {h : Past V O} → Ran O of s h → Called of s h
  ran_called (opened f) = record { calls = []; past = refl; state = sym f }
  ran_called {of = of} (called {x = x} r k) =
      let w = ran_called r in
      let c = x.call in
      record {
        calls = c ∷ w.calls;
        past = ap₂ (λ (b : Answer K V) (p : Past V O). record { call = c; answer = b } ∷ p) (ap (λ (s : State K V). (does O c s).answer) w.state ∙ sym k.answer) w.past;
        state = ap (λ (s : State K V). (does O c s).state) w.state ∙ sym k.state;
      }

  pub law : (S : Type 0) → Law V O S
  law S = record {
    reached = λ of s h r. let w = ran_called r in subst (λ t. Lawful O h t) w.state (subst (λ p. Lawful O p (state_after O w.calls)) w.past (lawful w.calls));
    idle = λ of s t h x r k i.
        let w = ran_called r in
        let good : NodeGood O L (of s).node = subst (λ (m : State K V). NodeGood O L m.node) w.state (sound w.calls).tied.good in
        ap (λ (m : State K V). m.node) k.state ∙ elim i [
          | inl a ↦ looks_node x.call (of s) a
          | inr b ↦ (does_steps O L x.call (of s) good).keeps (ap accepted (sym k.answer) ∙ b)
        ];
    calls = lawful;
    only = only_one;
  }
