-- The test on the spans of an attribute tells exactly whether they stack.
use Rattle.std.proofs.Common.{◌≡◌, ℕ, ◌+◌, ◌*◌, ◌<◌, ◌≤◌, Bool, true, not, ◌&&◌, ◌||◌, T, ltb, leb, ◌⊎◌, List, sym, ap, subst, inl, inr, arith, le→leb, eqb→eq, ltb→lt, lt→ltb, leb→le, T_not}
use lib.Dec.{eqb_refl, not_T}
use Rattle.model.specs.Lists.{Has, every, places}
use Rattle.model.specs.Scheme.{Attribute, Step, eval, visit, leave, Production, Scheme}
use Rattle.model.specs.Sequences.{is_visit_of, section}
use Rattle.model.specs.Spans.{Span, spans, open_during, in_one_section, nested, on_top, stacks_in, stacks}
use Rattle.model.specs.Conditions.{In, OpenAt, StackLike}
use Rattle.model.proofs.Common.ListFacts.{true_of, of_true, either_way, or_split, or_l, or_r, and_mk, and_l, and_r, places_find, places_has}
use Rattle.model.proofs.Common.Basics.{eq→eqb}
use Rattle.model.proofs.Spans.Lists.{every-has, has-every}

-- one span, or two, and the test

open_told : (m : ℕ) (x : Span) → T (open_during m x) → OpenAt m x
open_told m x h = (leb→le x.opens m (and_l (leb x.opens m) (ltb m x.closes) h), ltb→lt m x.closes (and_r (leb x.opens m) (ltb m x.closes) h))

open_tested : (m : ℕ) (x : Span) → OpenAt m x → T (open_during m x)
open_tested m x h = and_mk (leb x.opens m) (ltb m x.closes) (le→leb x.opens m h.0) (lt→ltb m x.closes h.1)

nested_told : (x y : Span) → T (nested x y) → x.opens < y.opens → (x.closes < y.opens) ⊎ (y.closes ≤ x.closes)
nested_told x y h l = first (or_split (not (ltb x.opens y.opens)) (ltb x.closes y.opens || leb y.closes x.closes) h)
  where
    second : T (ltb x.closes y.opens) ⊎ T (leb y.closes x.closes) → (x.closes < y.opens) ⊎ (y.closes ≤ x.closes)
    second (inl h) = inl (ltb→lt x.closes y.opens h)
    second (inr h) = inr (leb→le y.closes x.closes h)

    first : T (not (ltb x.opens y.opens)) ⊎ T (ltb x.closes y.opens || leb y.closes x.closes) → (x.closes < y.opens) ⊎ (y.closes ≤ x.closes)
    first (inl h) = absurd (T_not (ltb x.opens y.opens) h (lt→ltb x.opens y.opens l))
    first (inr h) = second (or_split (ltb x.closes y.opens) (leb y.closes x.closes) h)

nested_tested : (x y : Span) → (x.opens < y.opens → (x.closes < y.opens) ⊎ (y.closes ≤ x.closes)) → T (nested x y)
nested_tested x y h = first (either_way (ltb x.opens y.opens))
  where
    second : (x.closes < y.opens) ⊎ (y.closes ≤ x.closes) → T (ltb x.closes y.opens || leb y.closes x.closes)
    second (inl l) = or_l (ltb x.closes y.opens) (leb y.closes x.closes) (lt→ltb x.closes y.opens l)
    second (inr l) = or_r (ltb x.closes y.opens) (leb y.closes x.closes) (le→leb y.closes x.closes l)

    first : T (ltb x.opens y.opens) ⊎ (T (ltb x.opens y.opens) → ⊥) → T (nested x y)
    first (inl l) = or_r (not (ltb x.opens y.opens)) (ltb x.closes y.opens || leb y.closes x.closes) (second (h (ltb→lt x.opens y.opens l)))
    first (inr n) = or_l (not (ltb x.opens y.opens)) (ltb x.closes y.opens || leb y.closes x.closes) (not_T (ltb x.opens y.opens) n)

on_top_told : (x y : Span) (t : ℕ) → T (on_top x y t) → OpenAt (3 * t) x → x.opens < y.opens → OpenAt (3 * t) y → ⊥
on_top_told x y t h o l q =
    T_not (open_during (3 * t) x && (ltb x.opens y.opens && open_during (3 * t) y)) h
    (and_mk (open_during (3 * t) x) (ltb x.opens y.opens && open_during (3 * t) y) (open_tested (3 * t) x o)
    (and_mk (ltb x.opens y.opens) (open_during (3 * t) y) (lt→ltb x.opens y.opens l) (open_tested (3 * t) y q)))

on_top_tested : (x y : Span) (t : ℕ) → (OpenAt (3 * t) x → x.opens < y.opens → OpenAt (3 * t) y → ⊥) → T (on_top x y t)
on_top_tested x y t h = not_T (open_during (3 * t) x && (ltb x.opens y.opens && open_during (3 * t) y)) (λ k.
    let r = and_r (open_during (3 * t) x) (ltb x.opens y.opens && open_during (3 * t) y) k in
    h (open_told (3 * t) x (and_l (open_during (3 * t) x) (ltb x.opens y.opens && open_during (3 * t) y) k))
    (ltb→lt x.opens y.opens (and_l (ltb x.opens y.opens) (open_during (3 * t) y) r))
    (open_told (3 * t) y (and_r (ltb x.opens y.opens) (open_during (3 * t) y) r)))

-- the VISITs of a child

visit_found : (c : ℕ) (st : Step) → T (is_visit_of c st) → (j : ℕ) × (st ≡ visit c j)
visit_found c (eval r) h = absurd h
visit_found c (visit k j) h = (j, ap (λ (i : ℕ). visit i j) (sym (eqb→eq c k h)))
visit_found c (leave i) h = absurd h

module _ (p : Production) (xs : List Span) where
  abbrev all_in_one : Bool
  all_in_one = every (in_one_section p) xs

  abbrev all_nested : Bool
  all_nested = every (λ x. every (nested x) xs) xs

  abbrev all_on_top : Bool
  all_on_top = every (λ x. every (λ y. every (on_top x y) (places (is_visit_of x.child) 0 p.steps)) xs) xs

  top_at : (x y : Span) (t j : ℕ) → T all_on_top → In x xs → In y xs → Has p.steps t (visit x.child j) → T (on_top x y t)
  top_at x y t j h m n v =
      let f : Step → Bool = is_visit_of x.child in
      let r = places_has f 0 p.steps t (visit x.child j) v (eqb_refl x.child) in
      let e : 0 + t ≡ t = omega arith in
      let k = every-has (λ x. every (λ y. every (on_top x y) (places (is_visit_of x.child) 0 p.steps)) xs) xs m.0 x h m.1 in
      let g = every-has (λ y. every (on_top x y) (places f 0 p.steps)) xs n.0 y k n.1 in
      every-has (on_top x y) (places f 0 p.steps) r.0 t g (subst (λ (i : ℕ). Has (places f 0 p.steps) r.0 i) e r.1)

  at_top : ((x y : Span) (t j : ℕ) → In x xs → In y xs → Has p.steps t (visit x.child j) → T (on_top x y t)) → T all_on_top
  at_top h =
      has-every (λ x. every (λ y. every (on_top x y) (places (is_visit_of x.child) 0 p.steps)) xs) xs (λ i x m.
      has-every (λ y. every (on_top x y) (places (is_visit_of x.child) 0 p.steps)) xs (λ k y n.
      has-every (on_top x y) (places (is_visit_of x.child) 0 p.steps) (λ q t o. at x y i k q t m n o)))
    where
      at : (x y : Span) (i k q t : ℕ) → Has xs i x → Has xs k y → Has (places (is_visit_of x.child) 0 p.steps) q t → T (on_top x y t)
      at x y i k q t m n o =
          let r = places_find (is_visit_of x.child) 0 p.steps q t o in
          let v = visit_found x.child r.1 r.4 in
          let e : r.0 ≡ t = omega arith in
          let g : Has p.steps t r.1 = subst (λ (u : ℕ). Has p.steps u r.1) e r.3 in
          h x y t v.0 (i, m) (k, n) (subst (λ (st : Step). Has p.steps t st) v.1 g)

-- one production

told : (s : Scheme) (a : ℕ) (b : Attribute) (p : Production) → T (stacks_in s a b p) → StackLike s a b p
told s a b p h = record {
  one_section = λ x m. eqb→eq (section p x.opens_at) (section p x.closes_at) (every-has (in_one_section p) xs m.0 x one m.1);
  nested = λ x y m n. nested_told x y (every-has (nested x) xs n.0 y (every-has (λ x. every (nested x) xs) xs m.0 x nest m.1) n.1);
  on_top = λ x y t j m n v. on_top_told x y t (top_at p xs x y t j top m n v);
}
  where
    xs : List Span
    xs = spans s a b p

    one : T (all_in_one p xs)
    one = and_l (all_in_one p xs) (all_nested p xs && all_on_top p xs) h

    rest : T (all_nested p xs && all_on_top p xs)
    rest = and_r (all_in_one p xs) (all_nested p xs && all_on_top p xs) h

    nest : T (all_nested p xs)
    nest = and_l (all_nested p xs) (all_on_top p xs) rest

    top : T (all_on_top p xs)
    top = and_r (all_nested p xs) (all_on_top p xs) rest

tested : (s : Scheme) (a : ℕ) (b : Attribute) (p : Production) → StackLike s a b p → T (stacks_in s a b p)
tested s a b p h = and_mk (all_in_one p xs) (all_nested p xs && all_on_top p xs) one (and_mk (all_nested p xs) (all_on_top p xs) nest top)
  where
    xs : List Span
    xs = spans s a b p

    one : T (all_in_one p xs)
    one = has-every (in_one_section p) xs (λ i x m. eq→eqb (section p x.opens_at) (section p x.closes_at) (h.one_section x (i, m)))

    nest : T (all_nested p xs)
    nest = has-every (λ x. every (nested x) xs) xs (λ i x m. has-every (nested x) xs (λ k y n. nested_tested x y (h.nested x y (i, m) (k, n))))

    top : T (all_on_top p xs)
    top = at_top p xs (λ x y t j m n v. on_top_tested x y t (h.on_top x y t j m n v))

-- every production

pub stacks_told : (s : Scheme) (a : ℕ) (b : Attribute) → stacks s a b ≡ true → (n : ℕ) (p : Production) → Has s.productions n p → StackLike s a b p
stacks_told s a b e n p h = told s a b p (every-has (stacks_in s a b) s.productions n p (of_true (stacks s a b) e) h)

pub stacks_tested : (s : Scheme) (a : ℕ) (b : Attribute) → ((n : ℕ) (p : Production) → Has s.productions n p → StackLike s a b p) → stacks s a b ≡ true
stacks_tested s a b h = true_of (stacks s a b) (has-every (stacks_in s a b) s.productions (λ n p m. tested s a b p (h n p m)))
