-- What is read from words keeps the limits. Assumes nothing.
use Rattle.std.proofs.Common.{◌≡◌, ℕ, zero, suc, ◌+◌, ◌-◌, ◌<◌, ◌≤◌, Bool, true, false, cond, ◌&&◌, T, eqb, leb, ◌⊎◌, List, [], ◌∷◌, ◌++◌, length, sym, refl, ap, ◌∙◌, subst, inl, inr, arith, eqb→eq, leb→le, length-append}
use mathlib.Core.Option.{Option, none, some}
use lib.Dec.{nleb→lt, not_T, leb-suc-zero, eqb-suc-suc}
use Rattle.model.specs.Lists.{Has, any, count}
use Rattle.model.specs.Scheme.{Attribute, Occurrence, Rule, Step, Production, Scheme}
use Rattle.model.specs.Scheme as Made
use Rattle.model.specs.Formed.{Limited}
use Rattle.model.specs.Words.{Form, kind, fields, Next, kinds, Sofar, at_first, begun, after_children, after_arguments, one_less, closed, numbered_side, with_argument, taken, objection, Read, scheme, stopped, finished, accepted, read_from, read}
use Rattle.model.proofs.Common.ListFacts.{some_none, and_l, and_r, or_l, or_r, true_of, false_of, either_way, count_like}
use Rattle.model.proofs.Words.Accepts.{Accepted, accepted_of}
use Rattle.model.proofs.Words.ReadForm.{early, active, Good, taken_good, first_good, last_or, body_active, child_active, argument_active, stopped-scheme, scheme-same}
use Rattle.model.proofs.Words.RoundTrip.{Shape, some_visits, taken_said}

-- a limit that is not passed
under_limit : (m n : ℕ) → (T (leb m n) → ⊥) → n < m
under_limit m n f = nleb→lt m n (not_T (leb m n) f)

one_longer {ℓ} : {A : Type ℓ} (xs : List A) (x : A) (m : ℕ) → length xs < m → length (xs ++ (x ∷ [])) ≤ m
one_longer xs x m h = let e = length-append xs (x ∷ []) in omega arith

-- each rule has at most three arguments, also once the last has got n more
abbrev Argued : List Rule → ℕ → Type 0
Argued [] n = Unit {0}
Argued (r ∷ []) n = length r.arguments + n ≤ 3
Argued (r ∷ y ∷ rs) n = (length r.arguments ≤ 3) × Argued (y ∷ rs) n

argued_has : (rs : List Rule) (n k : ℕ) (r : Rule) → Argued rs n → Has rs k r → length r.arguments ≤ 3
argued_has [] n k r a h = absurd (some_none r h)
argued_has (y ∷ []) n zero r a h = let e : y ≡ r = cc in subst (λ (z : Rule). length z.arguments ≤ 3) e (omega arith)
argued_has (y ∷ []) n (suc k) r a h = absurd (some_none r h)
argued_has (y ∷ z ∷ rs) n zero r a h = let e : y ≡ r = cc in subst (λ (w : Rule). length w.arguments ≤ 3) e a.0
argued_has (y ∷ z ∷ rs) n (suc k) r a h = argued_has (z ∷ rs) n k r a.1 h

argued_rule : (rs : List Rule) (r : Rule) (c : ℕ) → r.arguments ≡ [] → c ≤ 3 → Argued rs 0 → Argued (rs ++ (r ∷ [])) c
argued_rule [] r c e l a = subst (λ (z : List Occurrence). length z + c ≤ 3) (sym e) (omega arith)
argued_rule (y ∷ []) r c e l a = (omega arith, argued_rule [] r c e l tt)
argued_rule (y ∷ z ∷ rs) r c e l a = (a.0, argued_rule (z ∷ rs) r c e l a.1)

argued_argument : (o : Occurrence) (rs : List Rule) (n : ℕ) → Argued rs (suc n) → Argued (with_argument o rs) n
argued_argument o [] n a = tt
argued_argument o (r ∷ []) n a = let e = length-append r.arguments (o ∷ []) in omega arith
argued_argument o (r ∷ y ∷ []) n a = (a.0, argued_argument o (y ∷ []) n a.1)
argued_argument o (r ∷ y ∷ z ∷ rs) n a = (a.0, argued_argument o (y ∷ z ∷ rs) n a.1)

grown_length : (o : Occurrence) (rs : List Rule) → length (with_argument o rs) ≡ length rs
grown_length o [] = refl
grown_length o (r ∷ []) = refl
grown_length o (r ∷ y ∷ rs) = ap suc (grown_length o (y ∷ rs))

grown_number : (o : Occurrence) (rs : List Rule) (k : ℕ) (r' : Rule) → Has (with_argument o rs) k r' → (r : Rule) × Has rs k r × (r.number ≡ r'.number)
grown_number o [] k r' h = absurd (some_none r' h)
grown_number o (r ∷ []) zero r' h = (r, refl, cc)
grown_number o (r ∷ []) (suc k) r' h = absurd (some_none r' h)
grown_number o (r ∷ y ∷ rs) zero r' h = (r, refl, cc)
grown_number o (r ∷ y ∷ rs) (suc k) r' h = grown_number o (y ∷ rs) k r' h

-- the limits of a production, where c children and n arguments of the last rule are still to come
record LimitedAt (c n : ℕ) (p : Production) : Type 0 where
  children_few : length p.children + c ≤ 6
  rules_few : length p.rules ≤ 32
  steps_few : length p.steps ≤ 64
  arguments_few : Argued p.rules n
  numbers_small : (k : ℕ) (r : Rule) → Has p.rules k r → r.number ≤ 255

abbrev children-left : Next → ℕ
children-left Next.first_symbol = 0
children-left Next.symbols = 0
children-left (Next.children n) = n
children-left Next.rules = 0
children-left (Next.arguments n) = 0
children-left Next.steps = 0
children-left Next.nothing = 0

abbrev arguments-left : Next → ℕ
arguments-left Next.first_symbol = 0
arguments-left Next.symbols = 0
arguments-left (Next.children n) = 0
arguments-left Next.rules = 0
arguments-left (Next.arguments n) = n
arguments-left Next.steps = 0
arguments-left Next.nothing = 0

record Bounded (q : Sofar) : Type 0 where
  symbols_few : length q.visits ≤ 32
  attributes_few : length q.attributes ≤ 128
  of_symbol_few : (x : ℕ) → count (λ (b : Attribute). eqb b.symbol x) q.attributes ≤ 16
  whole_few : length q.whole ≤ 64
  room : T (active q.next) → suc (length q.whole) ≤ 64
  whole-limited : (n : ℕ) (p : Production) → Has q.whole n p → (c k : ℕ) × LimitedAt c k p
  current-limited : T (active q.next) → LimitedAt (children-left q.next) (arguments-left q.next) q.current

count_more {ℓ} : {A : Type ℓ} (f : A → Bool) (xs : List A) (b : A) (m : ℕ) → count f xs ≤ m → (T (f b) → count f xs < m) → count f (xs ++ (b ∷ [])) ≤ m
count_more f xs b m h k = go (either_way (f b))
  where
    hit : (ys : List _) → f b ≡ true → count f (ys ++ (b ∷ [])) ≡ suc (count f ys)
    hit [] e = rw e
    hit (y ∷ ys) e = step (f y) (hit ys e)
      where
        step : (c : Bool) → count f (ys ++ (b ∷ [])) ≡ suc (count f ys) → cond c (suc (count f (ys ++ (b ∷ [])))) (count f (ys ++ (b ∷ []))) ≡ suc (cond c (suc (count f ys)) (count f ys))
        step true ih = ap suc ih
        step false ih = ih

    miss : (ys : List _) → f b ≡ false → count f (ys ++ (b ∷ [])) ≡ count f ys
    miss [] e = rw e
    miss (y ∷ ys) e = ap (λ (c : ℕ). cond (f y) (suc c) c) (miss ys e)

    go : T (f b) ⊎ (T (f b) → ⊥) → count f (xs ++ (b ∷ [])) ≤ m
    go (inl t) = let e = hit xs (true_of (f b) t) in let l = k t in omega arith
    go (inr t) = let e = miss xs (false_of (f b) t) in omega arith

argued_less : (rs : List Rule) (n : ℕ) → Argued rs n → Argued rs 0
argued_less [] n a = tt
argued_less (r ∷ []) n a = omega arith
argued_less (r ∷ y ∷ rs) n a = (a.0, argued_less (y ∷ rs) n a.1)

relaxed : (c n : ℕ) (p : Production) → LimitedAt c n p → LimitedAt 0 0 p
relaxed c n p l = record {
  children_few = let h = l.children_few in omega arith;
  rules_few = l.rules_few;
  steps_few = l.steps_few;
  arguments_few = argued_less p.rules n l.arguments_few;
  numbers_small = l.numbers_small;
}

left-after_children : (c : ℕ) → (children-left (after_children c) ≡ c) × (arguments-left (after_children c) ≡ 0)
left-after_children zero = (refl, refl)
left-after_children (suc c) = (refl, refl)

left-after_arguments : (c : ℕ) → (children-left (after_arguments c) ≡ 0) × (arguments-left (after_arguments c) ≡ c)
left-after_arguments zero = (refl, refl)
left-after_arguments (suc c) = (refl, refl)

module _ (p : Production) where
  limited_child : (x : ℕ) (nx : Next) → Shape nx p → T (any (eqb 4) (kinds nx)) → LimitedAt (children-left nx) (arguments-left nx) p →
      LimitedAt (children-left (one_less nx)) (arguments-left (one_less nx)) (record { left = p.left; children = p.children ++ (x ∷ []); rules = p.rules; steps = p.steps })
  limited_child x Next.first_symbol shape h l = absurd h
  limited_child x Next.symbols shape h l = absurd h
  limited_child x (Next.children n) shape h l = record {
    children_few = let e = (left-after_children (n - 1)).0 in let one : 1 ≤ n = shape.0 in let d = length-append p.children (x ∷ []) in let b = l.children_few in omega arith;
    rules_few = l.rules_few;
    steps_few = l.steps_few;
    arguments_few = subst (λ (z : ℕ). Argued p.rules z) (sym (left-after_children (n - 1)).1) l.arguments_few;
    numbers_small = l.numbers_small;
  }
  limited_child x Next.rules shape h l = absurd h
  limited_child x (Next.arguments n) shape h l = absurd h
  limited_child x Next.steps shape h l = absurd h
  limited_child x Next.nothing shape h l = absurd h

  limited_argument : (o : Occurrence) (nx : Next) → Shape nx p → T (any (eqb 6) (kinds nx)) → LimitedAt (children-left nx) (arguments-left nx) p →
      LimitedAt (children-left (one_less nx)) (arguments-left (one_less nx)) (record { left = p.left; children = p.children; rules = with_argument o p.rules; steps = p.steps })
  limited_argument o Next.first_symbol shape h l = absurd h
  limited_argument o Next.symbols shape h l = absurd h
  limited_argument o (Next.children n) shape h l = absurd h
  limited_argument o Next.rules shape h l = absurd h
  limited_argument o (Next.arguments n) shape h l = record {
    children_few = let e = (left-after_arguments (n - 1)).0 in let b = l.children_few in omega arith;
    rules_few = let e = grown_length o p.rules in let b = l.rules_few in omega arith;
    steps_few = l.steps_few;
    arguments_few = subst (λ (z : ℕ). Argued (with_argument o p.rules) z) (sym (left-after_arguments (n - 1)).1) (argued_argument o p.rules (n - 1) (subst (λ (z : ℕ). Argued p.rules z) (let one : 1 ≤ n = shape.0 in omega arith) l.arguments_few));
    numbers_small = λ k r h. let g = grown_number o p.rules k r h in subst (λ (z : ℕ). z ≤ 255) g.2 (l.numbers_small k g.0 g.1);
  }
  limited_argument o Next.steps shape h l = absurd h
  limited_argument o Next.nothing shape h l = absurd h

  limited-rule : (r : Rule) (c : ℕ) → r.arguments ≡ [] → c ≤ 3 → r.number ≤ 255 → length p.rules < 32 → LimitedAt 0 0 p →
      LimitedAt (children-left (after_arguments c)) (arguments-left (after_arguments c)) (record { left = p.left; children = p.children; rules = p.rules ++ (r ∷ []); steps = p.steps })
  limited-rule r c e few small room l = record {
    children_few = let d = (left-after_arguments c).0 in let b = l.children_few in omega arith;
    rules_few = one_longer p.rules r 32 room;
    steps_few = l.steps_few;
    arguments_few = subst (λ (z : ℕ). Argued (p.rules ++ (r ∷ [])) z) (sym (left-after_arguments c).1) (argued_rule p.rules r c e few l.arguments_few);
    numbers_small = λ k x h. numbers k x (last_or p.rules r k x h);
  }
    where
      numbers : (k : ℕ) (x : Rule) → Has p.rules k x ⊎ (r ≡ x) → x.number ≤ 255
      numbers k x (inl h) = l.numbers_small k x h
      numbers k x (inr d) = subst (λ (z : Rule). z.number ≤ 255) d small

  limited_step : (st : Step) → length p.steps < 64 → LimitedAt 0 0 p → LimitedAt 0 0 (record { left = p.left; children = p.children; rules = p.rules; steps = p.steps ++ (st ∷ []) })
  limited_step st room l = record { children_few = l.children_few; rules_few = l.rules_few; steps_few = one_longer p.steps st 64 room; arguments_few = l.arguments_few; numbers_small = l.numbers_small }

module _ (q : Sofar) (good : Good q) (shape : Shape q.next q.current) (bounded : Bounded q) where
  Current : Next → Type 0
  Current nx = LimitedAt (children-left nx) (arguments-left nx) q.current

  closed_limited : (m : ℕ) → T (any (eqb m) (kinds q.next)) → (n : ℕ) (p : Production) → Has (closed q) n p → (c k : ℕ) × LimitedAt c k p
  unfolding Current
  closed_limited m w n p h = go q.next w bounded.current-limited h
    where
      both : LimitedAt 0 0 q.current → Has (cond (leb (suc (length q.whole)) 0) q.whole (q.whole ++ (q.current ∷ []))) n p → (c k : ℕ) × LimitedAt c k p
      both l h = pick (last_or q.whole q.current n p (subst (λ (z : Bool). Has (cond z q.whole (q.whole ++ (q.current ∷ []))) n p) (leb-suc-zero (length q.whole)) h))
        where
          pick : Has q.whole n p ⊎ (q.current ≡ p) → (c k : ℕ) × LimitedAt c k p
          pick (inl g) = bounded.whole-limited n p g
          pick (inr e) = (0, 0, subst (λ (z : Production). LimitedAt 0 0 z) e l)

      go : (nx : Next) → T (any (eqb m) (kinds nx)) → (T (active nx) → Current nx) → Has (cond (leb (begun q nx) 0) q.whole (q.whole ++ (q.current ∷ []))) n p → (c k : ℕ) × LimitedAt c k p
      go Next.first_symbol w f h = bounded.whole-limited n p h
      go Next.symbols w f h = bounded.whole-limited n p h
      go (Next.children c) w f h = both (relaxed c 0 q.current (f tt)) h
      go Next.rules w f h = both (f tt) h
      go (Next.arguments c) w f h = both (relaxed 0 c q.current (f tt)) h
      go Next.steps w f h = both (f tt) h
      go Next.nothing w f h = absurd w

  closed_length : (nx : Next) → (T (early nx) → q.whole ≡ []) → T (any (eqb 3) (kinds nx)) ⊎ T (any (eqb 15) (kinds nx)) → (T (active nx) → suc (length q.whole) ≤ 64) → (length (cond (leb (begun q nx) 0) q.whole (q.whole ++ (q.current ∷ []))) ≡ begun q nx) × (begun q nx ≤ 64)
  closed_length nx e w f = go nx e w f
    where
      both : (length (cond (leb (suc (length q.whole)) 0) q.whole (q.whole ++ (q.current ∷ []))) ≡ suc (length q.whole))
      both = ap (λ (z : Bool). length (cond z q.whole (q.whole ++ (q.current ∷ [])))) (leb-suc-zero (length q.whole)) ∙ length-append q.whole (q.current ∷ []) ∙ omega arith

      none_of : T false ⊎ T false → ⊥
      none_of (inl h) = h
      none_of (inr h) = h

      go : (nx : Next) → (T (early nx) → q.whole ≡ []) → T (any (eqb 3) (kinds nx)) ⊎ T (any (eqb 15) (kinds nx)) → (T (active nx) → suc (length q.whole) ≤ 64) → (length (cond (leb (begun q nx) 0) q.whole (q.whole ++ (q.current ∷ []))) ≡ begun q nx) × (begun q nx ≤ 64)
      go Next.first_symbol e w f = (ap length (e tt), omega arith)
      go Next.symbols e w f = (ap length (e tt), omega arith)
      go (Next.children c) e w f = (both, f tt)
      go Next.rules e w f = (both, f tt)
      go (Next.arguments c) e w f = (both, f tt)
      go Next.steps e w f = (both, f tt)
      go Next.nothing e w f = absurd (none_of w)

  now : T (active q.next) → LimitedAt 0 0 q.current
  now h = relaxed (children-left q.next) (arguments-left q.next) q.current (bounded.current-limited h)

  same-symbol : (n a x : ℕ) → 1 ≤ n → x ≡ n - 1 → eqb a x ≡ eqb (suc a) n
  same-symbol zero a x h e = absurd (omega arith)
  same-symbol (suc n) a x h e = ap (λ (z : ℕ). eqb a z) (omega arith) ∙ sym (eqb-suc-suc a n)

  with_step_bounded : (st : Step) → T (active q.next) → length q.current.steps < 64 → Bounded (record {
    visits = q.visits;
    attributes = q.attributes;
    whole = q.whole;
    current = record { left = q.current.left; children = q.current.children; rules = q.current.rules; steps = q.current.steps ++ (st ∷ []) };
    next = Next.steps;
  })
  with_step_bounded st going under = record {
    symbols_few = bounded.symbols_few;
    attributes_few = bounded.attributes_few;
    of_symbol_few = bounded.of_symbol_few;
    whole_few = bounded.whole_few;
    room = λ _. bounded.room going;
    whole-limited = bounded.whole-limited;
    current-limited = λ _. limited_step q.current st under (now going);
  }

  taken_bounded : (w : ℕ) (f : Form) → Accepted q w f → Bounded (taken q f)
  taken_bounded w (Form.symbol v) a = record {
    symbols_few = one_longer q.visits v 32 (under_limit 32 (length q.visits) a.within_limit);
    attributes_few = bounded.attributes_few;
    of_symbol_few = bounded.of_symbol_few;
    whole_few = bounded.whole_few;
    room = λ h. absurd h;
    whole-limited = bounded.whole-limited;
    current-limited = λ h. absurd h;
  }
  taken_bounded w (Form.attribute d j) a = record {
    symbols_few = bounded.symbols_few;
    attributes_few = one_longer q.attributes b 128 (under_limit 128 (length q.attributes) (λ h. a.within_limit (or_r (leb 16 (count (λ (c : Attribute). eqb (suc c.symbol) (length q.visits)) q.attributes)) (leb 128 (length q.attributes)) h)));
    of_symbol_few = λ x. count_more (λ (c : Attribute). eqb c.symbol x) q.attributes b 16 (bounded.of_symbol_few x) (λ h.
        let at : x ≡ length q.visits - 1 = sym (eqb→eq (length q.visits - 1) x h) in
        let like = count_like (λ (c : Attribute). eqb c.symbol x) (λ (c : Attribute). eqb (suc c.symbol) (length q.visits)) q.attributes (λ c. same-symbol (length q.visits) c.symbol x some_yet at) in
        let few = under_limit 16 (count (λ (c : Attribute). eqb (suc c.symbol) (length q.visits)) q.attributes) (λ g. a.within_limit (or_l (leb 16 (count (λ (c : Attribute). eqb (suc c.symbol) (length q.visits)) q.attributes)) (leb 128 (length q.attributes)) g)) in
        omega arith);
    whole_few = bounded.whole_few;
    room = λ h. absurd h;
    whole-limited = bounded.whole-limited;
    current-limited = λ h. absurd h;
  }
    where
      b : Attribute
      b = record { symbol = length q.visits - 1; side = numbered_side d; visit = j }

      some_yet : 1 ≤ length q.visits
      some_yet = some_visits j q.visits a.there
  taken_bounded w (Form.production x c) a = record {
    symbols_few = bounded.symbols_few;
    attributes_few = bounded.attributes_few;
    of_symbol_few = bounded.of_symbol_few;
    whole_few = let l = closed_length q.next good.none_yet (inl a.awaited) bounded.room in omega (arith, l.0, l.1);
    room = λ _. let l = closed_length q.next good.none_yet (inl a.awaited) bounded.room in let u = under_limit 64 (begun q q.next) a.within_limit in omega (arith, l.0, u);
    whole-limited = closed_limited 3 a.awaited;
    current-limited = λ _. record {
      children_few = let e = (left-after_children c).0 in let b = leb→le c 6 (and_r (leb 0 c) (leb c 6) (and_r (leb 0 x && leb x 255) (leb 0 c && leb c 6) a.ranged)) in omega arith;
      rules_few = omega arith;
      steps_few = omega arith;
      arguments_few = tt;
      numbers_small = λ k r h. absurd (some_none r h);
    };
  }
  taken_bounded w (Form.child x) a = record {
    symbols_few = bounded.symbols_few;
    attributes_few = bounded.attributes_few;
    of_symbol_few = bounded.of_symbol_few;
    whole_few = bounded.whole_few;
    room = λ _. bounded.room (child_active q.next a.awaited).0;
    whole-limited = bounded.whole-limited;
    current-limited = λ _. limited_child q.current x q.next shape a.awaited (bounded.current-limited (child_active q.next a.awaited).0);
  }
  taken_bounded w (Form.rule n k b c) a = record {
    symbols_few = bounded.symbols_few;
    attributes_few = bounded.attributes_few;
    of_symbol_few = bounded.of_symbol_few;
    whole_few = bounded.whole_few;
    room = λ _. bounded.room going;
    whole-limited = bounded.whole-limited;
    current-limited = λ _. limited-rule q.current (record { number = n; target = record { position = k; attribute = b }; arguments = [] }) c refl
        (leb→le c 3 (and_r (leb 0 c) (leb c 3) (and_r (leb 0 b && leb b 255) (leb 0 c && leb c 3) (and_r (leb 0 k && leb k 6) _ (and_r (leb 0 n && leb n 255) _ a.ranged)))))
        (leb→le n 255 (and_r (leb 0 n) (leb n 255) (and_l (leb 0 n && leb n 255) _ a.ranged)))
        (under_limit 32 (length q.current.rules) a.within_limit) (now going);
  }
    where
      going : T (active q.next)
      going = body_active 5 refl refl refl q.next a.awaited
  taken_bounded w (Form.argument k b) a = record {
    symbols_few = bounded.symbols_few;
    attributes_few = bounded.attributes_few;
    of_symbol_few = bounded.of_symbol_few;
    whole_few = bounded.whole_few;
    room = λ _. bounded.room (argument_active q.next a.awaited).0;
    whole-limited = bounded.whole-limited;
    current-limited = λ _. limited_argument q.current (record { position = k; attribute = b }) q.next shape a.awaited (bounded.current-limited (argument_active q.next a.awaited).0);
  }
  taken_bounded w (Form.eval r) a = with_step_bounded (Made.eval r) (body_active 7 refl refl refl q.next a.awaited) (under_limit 64 (length q.current.steps) a.within_limit)
  taken_bounded w (Form.visit k j) a = with_step_bounded (Made.visit k j) (body_active 8 refl refl refl q.next a.awaited) (under_limit 64 (length q.current.steps) a.within_limit)
  taken_bounded w (Form.leave i) a = with_step_bounded (Made.leave i) (body_active 9 refl refl refl q.next a.awaited) (under_limit 64 (length q.current.steps) a.within_limit)
  taken_bounded w Form.end a = record {
    symbols_few = bounded.symbols_few;
    attributes_few = bounded.attributes_few;
    of_symbol_few = bounded.of_symbol_few;
    whole_few = let l = closed_length q.next good.none_yet (inr a.awaited) bounded.room in omega (arith, l.0, l.1);
    room = λ h. absurd h;
    whole-limited = closed_limited 15 a.awaited;
    current-limited = λ h. absurd h;
  }

first_bounded : Bounded at_first
first_bounded = record {
  symbols_few = omega arith;
  attributes_few = omega arith;
  of_symbol_few = λ x. omega arith;
  whole_few = omega arith;
  room = λ h. absurd h;
  whole-limited = λ n p h. absurd (some_none p h);
  current-limited = λ h. absurd h;
}

bounded_limited : (q : Sofar) → Bounded q → Limited (record { visits = q.visits; attributes = q.attributes; productions = q.whole })
bounded_limited q b = record {
  few_symbols = b.symbols_few;
  few_attributes = b.attributes_few;
  few_of_symbol = b.of_symbol_few;
  few_productions = b.whole_few;
  few_children = λ n p h. let l = b.whole-limited n p h in let m = l.2.children_few in omega arith;
  few_rules = λ n p h. (b.whole-limited n p h).2.rules_few;
  few_steps = λ n p h. (b.whole-limited n p h).2.steps_few;
  few_arguments = λ n k p r h g. let l = b.whole-limited n p h in argued_has p.rules l.1 k r l.2.arguments_few g;
  rule_numbered = λ n k p r h g. (b.whole-limited n p h).2.numbers_small k r g;
}

reads_bounded : (ws : List ℕ) (i : ℕ) (q : Sofar) (s : Scheme) → Good q → Shape q.next q.current → Bounded q → read_from ws i q ≡ scheme s → Limited s
reads_bounded [] i q s good shape bounded e = go (finished q.next) e
  where
    go : (b : Bool) → cond b (scheme (record { visits = q.visits; attributes = q.attributes; productions = q.whole })) (stopped 3 i) ≡ scheme s → Limited s
    go true e = subst (λ (z : Scheme). Limited z) (scheme-same _ s e) (bounded_limited q bounded)
    go false e = absurd (stopped-scheme 3 i s e)
reads_bounded (w ∷ ws) i q s good shape bounded e = go (λ q' good' shape' bounded' e'. reads_bounded ws (suc i) q' s good' shape' bounded' e') (objection q w) refl e
  where
    go : ((q' : Sofar) → Good q' → Shape q'.next q'.current → Bounded q' → read_from ws (suc i) q' ≡ scheme s → Limited s) → (o : Option ℕ) → objection q w ≡ o → elim o as (λ _. Read) [ none ↦ read_from ws (suc i) (accepted q (fields (kind w) w)) | some n ↦ stopped n i ] ≡ scheme s → Limited s
    go later none h e =
        let f = accepted_of q w h in
        later (taken q f.0) (taken_good q good w f.0 f.1) (taken_said q good shape w f.0 f.1).1 (taken_bounded q good shape bounded w f.0 f.1)
        (subst (λ (o : Option Form). read_from ws (suc i) (accepted q o) ≡ scheme s) f.1.form_is e)
    go later (some n) h e = absurd (stopped-scheme n i s e)

-- a scheme that is read from words keeps the limits
pub read-limited : (ws : List ℕ) (s : Scheme) → read ws ≡ scheme s → Limited s
read-limited ws s e = reads_bounded ws 0 at_first s first_good tt first_bounded e
