-- What a chain answers where each call of its closure decides a fact. Assumes nothing.
use Rattle.std.proofs.Common.{◌≡◌, ℕ, zero, suc, ◌+◌, ◌-◌, ◌<◌, ◌≤◌, Bool, true, false, List, [], ◌∷◌, map, length, get_or, Decides, Some, None, Option, sym, refl, ap, ◌∙◌, ◌⊎◌, inl, inr, subst, add-zero, zero-add, arith}
use Rattle.std.specs.Bool.{MatchBool, ⊤}
use Rattle.std.specs.Fn.{Called}
use Rattle.std.specs.Iterator.{YieldsThen, AlwaysYields}
use Rattle.std.specs.List.{FoldsTo, AllWithin, HoldsAt, range_with_len, enumerate_from}
use Rattle.std.specs.declared.ops.Range.{Range}
use Rattle.std.specs.declared.ops.RangeInclusive.{RangeInclusive}
use Rattle.std.specs.Range.{range_inclusive_len, range_inclusive_start, range_inclusive_end, range_inclusive_exhausted}
use Rattle.std.proofs.iter.runs.Sources.{nat_range_inclusive_steps}
use Rattle.std.proofs.iter.Yields.{nat_range_steps}
use Rattle.std.specs.Option.{MatchOption}
use Rattle.std.proofs.lemmas.Iterator.{YieldsList, cases_from_all, YieldsList-from_range}
use Rattle.std.proofs.lemmas.Bool.{both_ways, cases_Bool, cases_lt}
use Rattle.std.proofs.lemmas.List.FromFn.{length-enumerate_from, get_or-enumerate_from}
use Rattle.std.proofs.lemmas.Bool.Decides.{Decides-like}
use Rattle.model.specs.Lists.{Has}
use Rattle.scheme.specs.Checked.{FirstFailing}
use Rattle.model.proofs.Common.ListFacts.{some_none, some_same}
use mathlib.Core.Option.{none, some}
use mathlib.Core.Option as Plain
use Rattle.grammar.specs.Views.{option_of}
use denote.Param.Members.{Mut}

-- Q holds of each thing at its place
abbrev pub Each : {B : Type 0} → (ℕ → B → Type 0) → List B → Type 0
Each {B} Q xs = (k : ℕ) (x : B) → Has xs k x → Q k x

module _ {B : Type 0} (P : B → Type 0) where
  found : (xs : List B) (k : ℕ) (x : B) → Has xs k x → (k < length xs) × (get_or xs k x ≡ x)
  found [] k x h = absurd (some_none x h)
  found (y ∷ ys) zero x h = (omega arith, cc)
  found (y ∷ ys) (suc k) x h = let r = found ys k x h in (omega arith, r.1)

  there : (xs : List B) (k : ℕ) → k < length xs → (x : B) × Has xs k x × ((d : B) → get_or xs k d ≡ x)
  there [] k l = absurd (omega arith)
  there (y ∷ ys) zero l = (y, refl, λ d. refl)
  there (y ∷ ys) (suc k) l = there ys k (omega arith)

  by_places : (r : Bool) (xs : List B) → MatchBool r (AllWithin P xs 0 (length xs)) ((k : ℕ) × (k < length xs) × HoldsAt (λ x. P x → ⊥) xs k) → Decides r (Each (λ _. P) xs)
  by_places true xs m = (λ _ k x h. let e = found xs k x h in subst P e.1 (m k x (omega arith) e.0), λ _. refl)
  by_places false xs m = (λ z. absurd (both_ways false refl z), λ each. let e = there xs m.0 m.1 in absurd (m.2 e.0 (subst P (sym (e.2 e.0)) (each m.0 e.0 e.1))))

  pub decides_each : {S A F : Type 0} {steps : S → Option A → S → Type 0} {v : A → B} {g : Mut F (A × Unit {0}) Bool} {s : S} {all : List B} (u : S) (f : F) (r : Bool) → (xs : List A) × (o : Option A) × (j : F) × YieldsThen steps s xs o u × FoldsTo (λ p x q. Called g p (x, tt) true q) f xs j × MatchOption o (r ≡ true) (λ x. (r ≡ false) × ((h : F) × Called g j (x, tt) false h)) → YieldsList steps v s all → ((x : A) (b : Bool) (q : F) → Called g f (x, tt) b q → (q ≡ f) × Decides b (P (v x))) → Decides r (Each (λ _. P) all)
  decides_each {all = all} u f r ran road each = by_places r all (cases_from_all u f r P (λ x. P x → ⊥) ran road (λ x q k. let h = each x true q k in (h.0, h.1.0 refl)) (λ x q k p. let h = each x false q k in both_ways false refl (h.1.1 p)))

-- the same of what stands for the things
module _ {X Y : Type 0} (g : X → Y) where
  mapped : (Q : ℕ → Y → Type 0) (xs : List X) → Each (λ k x. Q k (g x)) xs → Each Q (map g xs)
  mapped Q [] h k y e = absurd (some_none y e)
  mapped Q (x ∷ xs) h zero y e = subst (Q 0) (some_same (g x) y e) (h 0 x refl)
  mapped Q (x ∷ xs) h (suc k) y e = mapped (λ i. Q (suc i)) xs (λ i z f. h (suc i) z f) k y e

  unmapped : (Q : ℕ → Y → Type 0) (xs : List X) → Each Q (map g xs) → Each (λ k x. Q k (g x)) xs
  unmapped Q [] h k x e = absurd (some_none x e)
  unmapped Q (z ∷ xs) h zero x e = h 0 (g x) (ap (λ (y : X). some (g y)) (some_same z x e))
  unmapped Q (z ∷ xs) h (suc k) x e = unmapped (λ i. Q (suc i)) xs (λ i y f. h (suc i) y f) k x e

  pub decides_mapped : (Q : ℕ → Y → Type 0) (xs : List X) (r : Bool) → Decides r (Each (λ k x. Q k (g x)) xs) → Decides r (Each Q (map g xs))
  decides_mapped Q xs r d = Decides-like r (mapped Q xs) (unmapped Q xs) d

-- the same of the things with their places beside them
module _ {X : Type 0} where
  placed : (Q : ℕ → X → Type 0) (n : ℕ) (xs : List X) → Each (λ _ e. Q e.0 e.1) (enumerate_from n xs) → Each (λ k x. Q (n + k) x) xs
  placed Q n [] h k x e = absurd (some_none x e)
  placed Q n (y ∷ ys) h zero x e = subst (λ (m : ℕ). Q m x) (sym (add-zero n)) (subst (Q n) (some_same y x e) (h 0 (n, y) refl))
  placed Q n (y ∷ ys) h (suc k) x e = subst (λ (m : ℕ). Q m x) (omega arith) (placed Q (n + 1) ys (λ i z f. h (suc i) z f) k x e)

  unplaced : (Q : ℕ → X → Type 0) (n : ℕ) (xs : List X) → Each (λ k x. Q (n + k) x) xs → Each (λ _ e. Q e.0 e.1) (enumerate_from n xs)
  unplaced Q n [] h k x e = absurd (some_none x e)
  unplaced Q n (y ∷ ys) h zero x e = subst (λ (z : ℕ × X). Q z.0 z.1) (some_same (n, y) x e) (subst (λ (m : ℕ). Q m y) (add-zero n) (h 0 y refl))
  unplaced Q n (y ∷ ys) h (suc k) x e = unplaced Q (n + 1) ys (λ i z f. subst (λ (m : ℕ). Q m z) (omega arith) (h (suc i) z f)) k x e

  pub decides_placed : (Q : ℕ → X → Type 0) (xs : List X) (r : Bool) → Decides r (Each (λ _ e. Q e.0 e.1) (enumerate_from 0 xs)) → Decides r (Each Q xs)
  decides_placed Q xs r d = Decides-like r (λ h k x e. subst (λ (m : ℕ). Q m x) (zero-add k) (placed Q 0 xs h k x e)) (λ h. unplaced Q 0 xs (λ k x e. subst (λ (m : ℕ). Q m x) (sym (zero-add k)) (h k x e))) d

-- the same of the numbers from 0
counted : (a n k : ℕ) → k < n → Has (range_with_len a n) k (a + k)
counted a zero k l = absurd (omega arith)
counted a (suc n) zero l = ap some (sym (add-zero a))
counted a (suc n) (suc k) l = counted (a + 1) n k (omega arith) ∙ ap some (let e : a + 1 + k ≡ a + suc k = omega arith in e)

counts : (a n k x : ℕ) → Has (range_with_len a n) k x → (k < n) × (x ≡ a + k)
counts a zero k x h = let z : ◌≡◌ {A = ℕ} 0 1 = cc in absurd (omega arith)
counts a (suc n) zero x h = let e : a ≡ x = cc in (omega arith, omega arith)
counts a (suc n) (suc k) x h = let r = counts (a + 1) n k x h in (omega (arith, r.0), omega (arith, r.1))

each_below : (P : ℕ → Type 0) (n : ℕ) (r : Bool) → Decides r (Each (λ _. P) (range_with_len 0 n)) → Decides r ((k : ℕ) → k < n → P k)
each_below P n r d = (λ e k l. d.0 e k k (subst (Has (range_with_len 0 n) k) (zero-add k) (counted 0 n k l)), λ h. d.1 (λ k x g. let c = counts 0 n k x g in h x (omega (arith, c.0, c.1))))

pub decides_below : {F : Type 0} {g : Mut F (ℕ × Unit {0}) Bool} (P : ℕ → Type 0) (n : ℕ) (b : ℕ) (u : Range ℕ) (f : F) (r : Bool) → (xs : List ℕ) × (o : Option ℕ) × (j : F) × YieldsThen nat_range_steps (record { start = 0; end = b }) xs o u × FoldsTo (λ p x q. Called g p (x, tt) true q) f xs j × MatchOption o (r ≡ true) (λ x. (r ≡ false) × ((h : F) × Called g j (x, tt) false h)) → b ≡ n → ((x : ℕ) (b : Bool) (q : F) → Called g f (x, tt) b q → (q ≡ f) × Decides b (P x)) → Decides r ((k : ℕ) → k < n → P k)
decides_below P n b u f r ran e each = each_below P n r (decides_each P u f r ran (YieldsList-from_range 0 b n refl (omega arith)) each)

-- ---- an answer of the code that may be nothing, of which the model's word is m
module _ {X Y : Type 0} (g : X → Y) {Q : X → Type 0} {P : Type 0} where
  pub decides_some : (o : Option X) (m : Plain.Option Y) (r : Bool) → option_of g o ≡ m → MatchOption o (r ≡ false) Q → (m ≡ none → P → ⊥) → ((x : X) → m ≡ some (g x) → Q x → Decides r P) → Decides r P
  decides_some None m r e h absent there = (λ t. absurd (both_ways r h t), λ p. absurd (absent (sym e) p))
  decides_some (Some x) m r e h absent there = there x (sym e) h

-- ---- the numbers up to one
abbrev left_of : RangeInclusive ℕ → ℕ
left_of s = range_inclusive_len (λ x y. y - x) (range_inclusive_start s) (range_inclusive_end s) (range_inclusive_exhausted s)

unspent : (s : RangeInclusive ℕ) (n : ℕ) → left_of s ≡ suc n → range_inclusive_exhausted s ≡ false
unspent s n e = go (cases_Bool (range_inclusive_exhausted s))
  where
    go : (range_inclusive_exhausted s ≡ true) ⊎ (range_inclusive_exhausted s ≡ false) → range_inclusive_exhausted s ≡ false
    go (inl t) = let z = ap (range_inclusive_len (λ x y. y - x) (range_inclusive_start s) (range_inclusive_end s)) t in absurd (omega (arith, e, z))
    go (inr t) = t

each_left : (n a : ℕ) (s : RangeInclusive ℕ) → left_of s ≡ n → (range_inclusive_exhausted s ≡ false → range_inclusive_start s ≡ a) → AlwaysYields nat_range_inclusive_steps (λ x. x) s (range_with_len a n)
each_left zero a s e f = λ x j h. omega (arith, h.1.1, e)
each_left (suc n) a s e f = (λ j h. omega (arith, h.1.0, e), λ x j h. (h.1.0 ∙ f (unspent s n e), each_left n (a + 1) j (omega (arith, h.1.1, e)) (λ z. h.1.2 z ∙ ap (λ (m : ℕ). m + 1) (f (unspent s n e)))))

YieldsList-from_through : (a n : ℕ) (s : RangeInclusive ℕ) → left_of s ≡ n → range_inclusive_start s ≡ a → YieldsList nat_range_inclusive_steps (λ x. x) s (range_with_len a n)
YieldsList-from_through a n s e z = record { runs = each_left n a s e (λ _. z) }

-- from 1 up to n
pub YieldsList-from_one : (n : ℕ) (s : RangeInclusive ℕ) → range_inclusive_start s ≡ 1 → range_inclusive_end s ≡ n → range_inclusive_exhausted s ≡ false → YieldsList nat_range_inclusive_steps (λ x. x) s (range_with_len 1 n)
YieldsList-from_one n s a b c = YieldsList-from_through 1 n s (rw (a, b, c) (omega arith)) a

pub decides_through : {F : Type 0} {g : Mut F (ℕ × Unit {0}) Bool} (P : ℕ → Type 0) (n : ℕ) (s u : RangeInclusive ℕ) (f : F) (r : Bool) → (xs : List ℕ) × (o : Option ℕ) × (j : F) × YieldsThen nat_range_inclusive_steps s xs o u × FoldsTo (λ p x q. Called g p (x, tt) true q) f xs j × MatchOption o (r ≡ true) (λ x. (r ≡ false) × ((h : F) × Called g j (x, tt) false h)) → range_inclusive_start s ≡ 0 → range_inclusive_end s ≡ n → range_inclusive_exhausted s ≡ false → ((x : ℕ) (b : Bool) (q : F) → Called g f (x, tt) b q → (q ≡ f) × Decides b (P x)) → Decides r ((k : ℕ) → k < suc n → P k)
decides_through P n s u f r ran z e w each = each_below P (suc n) r (decides_each P u f r ran (YieldsList-from_through 0 (suc n) s (rw (z, e, w) (omega arith)) z) each)

-- ---- the place of the first thing of which the closure says that P fails
module _ {X Y : Type 0} (g : X → Y) where
  stands : (xs : List X) (k : ℕ) (d : X) → k < length xs → Has (map g xs) k (g (get_or xs k d))
  stands [] k d l = absurd (omega arith)
  stands (x ∷ xs) zero d l = refl
  stands (x ∷ xs) (suc k) d l = stands xs k d (omega arith)

  beside : (xs : List X) (k : ℕ) (e : ℕ × X) → k < length xs → get_or (enumerate_from 0 xs) k e ≡ (k, get_or xs k e.1)
  beside xs k e l = get_or-enumerate_from 0 xs k e l ∙ ap {B = ℕ × X} (λ n. (n, get_or xs k e.1)) (zero-add k)

  pub placed_stands : (xs : List X) (e : ℕ × X) (k : ℕ) → k < length (enumerate_from 0 xs) → e ≡ get_or (enumerate_from 0 xs) k e → Has (map g xs) e.0 (g e.1)
  placed_stands xs e k l h =
      let n = length-enumerate_from 0 xs in
      let below : k < length xs = omega (arith, l, n) in
      subst (λ (p : ℕ × X). Has (map g xs) p.0 (g p.1)) (sym (h ∙ beside xs k e below)) (stands xs k e.1 below)

  at_number : (Q : ℕ → Type 0) (xs : List X) (k : ℕ) → k < length xs → HoldsAt (λ e. Has (map g xs) e.0 (g e.1) → Q e.0) (enumerate_from 0 xs) k → Q k
  at_number Q xs k l h =
      let x = (there (λ _. ⊤) xs k l).0 in
      subst (λ (p : ℕ × X). Has (map g xs) p.0 (g p.1) → Q p.0) (beside xs k (k, x) l) (h (k, x)) (stands xs k x l)

  pub first_placed : (P : ℕ → Type 0) (xs : List X) (r : Option ℕ) → MatchOption r (AllWithin (λ e. Has (map g xs) e.0 (g e.1) → P e.0) (enumerate_from 0 xs) 0 (length (enumerate_from 0 xs))) (λ i. (i < length (enumerate_from 0 xs)) × HoldsAt (λ e. Has (map g xs) e.0 (g e.1) → P e.0 → ⊥) (enumerate_from 0 xs) i × AllWithin (λ e. Has (map g xs) e.0 (g e.1) → P e.0) (enumerate_from 0 xs) 0 i) → ((k : ℕ) → length xs ≤ k → P k) → FirstFailing P r
  first_placed P xs None m past = λ k. elim (cases_lt k (length xs)) [ inl l ↦ at_number P xs k l (λ d. let n = length-enumerate_from 0 xs in m k d (omega arith) (omega (arith, l, n))) | inr l ↦ past k (omega arith) ]
  first_placed P xs (Some i) m past =
      let n = length-enumerate_from 0 xs in
      (at_number (λ k. P k → ⊥) xs i (omega (arith, m.0, n)) m.1, λ k l. at_number P xs k (omega (arith, m.0, l, n)) (λ d. m.2 k d (omega arith) l))
