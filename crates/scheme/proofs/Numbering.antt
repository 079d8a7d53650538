-- The numbers of steps at a position, in a row. Assumes nothing.
use Rattle.std.proofs.Common.{◌≡◌, ℕ, zero, suc, ◌+◌, ◌-◌, ◌<◌, Bool, true, false, cond, eqb, List, [], ◌∷◌, ◌++◌, map, reverse, length, take, Some, None, Decides, sym, refl, ap, ◌∙◌, add-one, arith}
use mathlib.Core.Option.{Option, none, some}
use lib.Dec.{eqb-suc-zero}
use lib.ListN.{get_elem?}
use Rattle.std.specs.declared.option.Option as Code
use Rattle.std.specs.Option.{MatchOption}
use Rattle.std.proofs.lemmas.Bool.{lt-ltb}
use Rattle.model.specs.Lists.{Has, count, from_on}
use Rattle.model.specs.Scheme.{Step, eval, visit, leave, Production, Scheme, symbol_at}
use Rattle.model.specs.Lawful.{Sequenced}
use Rattle.model.specs.Sequences.{is_leave}
use Rattle.model.proofs.Common.ListFacts.{some_none, some_same, true_of, has-below, has_at, reverse_last}
use Rattle.model.proofs.Common.Basics.{last_has}
use Rattle.grammar.specs.Views.{option_of, same}
use Rattle.std.specs.List.{filter_map, cons_option, range_with_len}
use Rattle.std.proofs.lemmas.Bool.Decides.{Decides-like}
use Rattle.scheme.specs.Numbers.{numbers, number_at, InSequence}

-- one step more
abbrev listed : Option ℕ → List ℕ
listed none = []
listed (some j) = j ∷ []

numbers_none : (k : ℕ) → numbers k [] ≡ []
numbers_none zero = refl
numbers_none (suc k) = refl

numbers_first : (k : ℕ) (t : Step) (ts : List Step) → numbers k (t ∷ ts) ≡ listed (number_at k t) ++ numbers k ts
numbers_first zero (eval r) ts = refl
numbers_first zero (visit c j) ts = refl
numbers_first zero (leave i) ts = refl
numbers_first (suc k) (eval r) ts = refl
numbers_first (suc k) (visit c j) ts = rw (lt-ltb 0 (suc k) (omega arith)) (go (eqb (suc k) c))
  where
    go : (b : Bool) → cond b (j ∷ numbers (suc k) ts) (numbers (suc k) ts) ≡ listed (cond b (some j) none) ++ numbers (suc k) ts
    go true = refl
    go false = refl
numbers_first (suc k) (leave i) ts = rw (eqb-suc-zero k) refl

-- the code's word for a number that may be absent
abbrev pub number_from : Option ℕ → Code.Option ℕ
number_from none = None
number_from (some j) = Some j

pub is_number_from : (o : Code.Option ℕ) (m : Option ℕ) → option_of same o ≡ m → o ≡ number_from m
is_number_from None m e = ap number_from e
is_number_from (Some v) m e = ap number_from e

-- the numbers of the steps, as the code picks them
pub numbers_picked : {X : Type 0} (g : X → Step) (k : ℕ) (xs : List X) → filter_map (λ x. number_from (number_at k (g x))) xs ≡ numbers k (map g xs)
numbers_picked g k [] = sym (numbers_none k)
numbers_picked g k (x ∷ xs) = go (number_at k (g x)) (numbers_picked g k xs) ∙ sym (numbers_first k (g x) (map g xs))
  where
    go : (m : Option ℕ) → filter_map (λ x. number_from (number_at k (g x))) xs ≡ numbers k (map g xs) → cons_option (number_from m) (filter_map (λ x. number_from (number_at k (g x))) xs) ≡ listed m ++ numbers k (map g xs)
    go none e = e
    go (some j) e = ap (λ (ns : List ℕ). j ∷ ns) e

pub range_from_on : (a n : ℕ) → range_with_len a n ≡ from_on a n
range_from_on a zero = refl
range_from_on a (suc n) = ap (λ (ns : List ℕ). a ∷ ns) (range_from_on (a + 1) n ∙ ap (λ (m : ℕ). from_on m n) (add-one a))

-- the last of a list passes the test
module _ {Y : Type 0} (f : Y → Bool) where
  first_passes : (ys : List Y) (y : Y) → Has ys 0 y → f y ≡ true → count f (take 1 ys) ≡ 1
  first_passes [] y h t = absurd (some_none y h)
  first_passes (z ∷ zs) y h t = rw (ap f (some_same z y h) ∙ t) refl

  last_first : (ys : List Y) (b : ℕ) (y : Y) → Has ys b y → suc b ≡ length ys → Has (reverse ys) 0 y
  last_first [] b y h l = absurd (some_none y h)
  last_first (z ∷ zs) b y h l = let e : length zs ≡ b = omega arith in reverse_last z zs ∙ ap (get_elem? (z ∷ zs)) e ∙ h

  pub last_passes : (ys : List Y) (i : ℕ) (y : Y) (b : Bool) → i ≡ length ys - 1 → Has ys i y → b ≡ f y → Decides b (count f (take 1 (reverse ys)) ≡ 1)
  last_passes ys i y b e h t = ((λ u. first_passes (reverse ys) y (last_first ys i y h size) (sym t ∙ u)), λ c. t ∙ true_of (f y) (last_has f ys i c h size))
    where
      size : suc i ≡ length ys
      size = let l = has-below ys i y h in omega arith

  pub none_passes : (ys : List Y) (i : ℕ) → i ≡ length ys - 1 → get_elem? ys i ≡ none → count f (take 1 (reverse ys)) ≡ 1 → ⊥
  none_passes [] i e n c = omega (arith, c)
  none_passes (z ∷ zs) i e n c = let r = has_at (z ∷ zs) i (omega arith) in some_none r.0 (sym n ∙ r.1)

-- one position, whose symbol and whose symbol's last visit the code looks up
module _ (s : Scheme) (p : Production) {X : Type 0} (f : X → ℕ) where
  pub in_sequence_by : {Q : ℕ → Type 0} {R : X → Type 0} (k : ℕ) (m : Code.Option ℕ) (o : Code.Option X) (r : Bool) → option_of same m ≡ symbol_at p k → MatchOption m (o ≡ None) Q → ((x : ℕ) → Q x → option_of f o ≡ get_elem? s.visits x) → MatchOption o (r ≡ true) R → ((v : X) → R v → Decides r (numbers k p.steps ≡ from_on 1 (f v))) → Decides r (InSequence s p k)
  in_sequence_by k None o r e h visits h' rising = (λ _ x v g. absurd (some_none x (e ∙ g)), λ _. rw h at h')
  in_sequence_by k (Some x) None r e h visits h' rising = (λ _ y v g u. let same_x = some_same x y (e ∙ g) in absurd (some_none v (visits x h ∙ ap (get_elem? s.visits) same_x ∙ u)), λ _. h')
  in_sequence_by k (Some x) (Some v) r e h visits h' rising = (
    (λ t y w g u. (rising v h').0 t ∙ ap (from_on 1) (some_same (f v) w (visits x h ∙ ap (get_elem? s.visits) (some_same x y (e ∙ g)) ∙ u))),
    (λ q. (rising v h').1 (q x (f v) (sym e) (sym (visits x h)))),
  )

-- all positions, and the end
module _ (s : Scheme) (p : Production) where
  parts_sequenced : count is_leave (take 1 (reverse p.steps)) ≡ 1 → ((k : ℕ) → k < suc (length p.children) → InSequence s p k) → Sequenced s p
  parts_sequenced e a = record {
    children_visited = λ k x v h m. let l = has-below p.children k x h in a (suc k) (omega arith) x v h m;
    left_sections = λ v m. a 0 (omega arith) p.left v refl m;
    ends_with_leave = e;
  }

  at_each : Sequenced s p → (k : ℕ) → InSequence s p k
  at_each q zero x v h m = q.left_sections v (ap (get_elem? s.visits) (some_same p.left x h) ∙ m)
  at_each q (suc k) x v h m = q.children_visited k x v h m

  pub sequenced_by : (r : Bool) → count is_leave (take 1 (reverse p.steps)) ≡ 1 → Decides r ((k : ℕ) → k < suc (length p.children) → InSequence s p k) → Decides r (Sequenced s p)
  sequenced_by r e d = Decides-like r (λ h. parts_sequenced e h) (λ q k l. at_each q k) d
