-- Marks on symbols: how they grow, and what they come to. Assumes nothing.
use Rattle.std.proofs.Common.{◌≡◌, ℕ, zero, suc, ◌+◌, ◌<◌, ◌≤◌, Bool, true, false, cond, not, ◌||◌, ◌⊎◌, List, [], ◌∷◌, ◌++◌, take, drop, length, get_or, set, replicate, Some, None, Option, sym, refl, ap, ◌∙◌, subst, inl, inr, arith}
use Rattle.std.proofs.lemmas.List.{get_or-set_same, get_or-set_other, get_or-replicate, get_or_past, length-replicate, length-set, set-get_or}
use Rattle.std.proofs.Math.Seq.{take-append_seam}
use Rattle.std.specs.List.{AllWithin, HoldsAt}
use Rattle.std.specs.Option.{MatchOption}
use Rattle.std.proofs.lemmas.List.Sums.{sum_by-set}
use Rattle.std.proofs.lemmas.Bool.{cases_eq, cases_lt, cases_Bool, or_parts, or_cases, not-true, not-false, both_ways}
use Rattle.model.specs.Lists.{Has}
use Rattle.model.specs.Scheme.{Production, Scheme}
use Rattle.model.specs.Lawful.{Finite, by, Reached, root, under}
use Rattle.model.specs.Checking.{Keeps}
use Rattle.model.specs.Formed.{Formed}
use Rattle.model.proofs.Common.ListFacts.{has-below, has_at, has_one}
use mathlib.Core.Logic.{∥∥₁_map}
use Rattle.model.proofs.Stands.Derived.{finite_stands, reached_stands}
use Rattle.model.proofs.Common.Form.{left-symbol, child_symbol}
use Rattle.scheme.specs.Checked.{FirstFailing}
use Rattle.scheme.specs.Marks.{marked, missing, AllMarked, Placed, Only, Grown, Settled, Carried, Followed, Meant, asked, Begun, Round, Closed, Full}
use Rattle.scheme.specs.declared.checks.spread.Spread.{Spread}
use Rattle.scheme.specs.declared.checks.spread.Spread.TheVariants.{Up, Down}

-- what the code reads at a place of a list
at_place : (xs : List ℕ) (k : ℕ) → k < length xs → Has xs k (get_or xs k 0)
at_place [] k l = absurd (omega arith)
at_place (x ∷ xs) zero l = refl
at_place (x ∷ xs) (suc k) l = at_place xs k (omega arith)

pub placed_at : (ms : List Bool) (xs : List ℕ) (k : ℕ) → Placed ms xs → k < length xs → get_or xs k 0 < length ms
placed_at ms xs k placed l = placed k (get_or xs k 0) (at_place xs k l)

-- what the code reads, by its place
pub placed_here : (ms : List Bool) (xs : List ℕ) (k x : ℕ) → Placed ms xs → k < length xs → x ≡ get_or xs k x → x < length ms
placed_here ms xs k x placed l e = subst (λ (y : ℕ). y < length ms) (sym (e ∙ same xs k l)) (placed_at ms xs k placed l)
  where
    same : (ys : List ℕ) (i : ℕ) → i < length ys → get_or ys i x ≡ get_or ys i 0
    same [] i h = absurd (omega arith)
    same (y ∷ ys) zero h = refl
    same (y ∷ ys) (suc i) h = same ys i (omega arith)

pub placed_same : (ms : List Bool) (xs ys : List ℕ) → ys ≡ xs → Placed ms xs → Placed ms ys
placed_same ms xs ys e placed = subst (λ (zs : List ℕ). Placed ms zs) (sym e) placed

-- the symbols of a production have places for their marks
pub left_placed : (s : Scheme) (ms : List Bool) (n : ℕ) (p : Production) → Formed s → length ms ≡ length s.visits → Has s.productions n p → p.left < length ms
left_placed s ms n p formed size h = let l = left-symbol formed n p h in omega arith

pub children_placed : (s : Scheme) (ms : List Bool) (n : ℕ) (p : Production) → Formed s → length ms ≡ length s.visits → Has s.productions n p → Placed ms p.children
children_placed s ms n p formed size h k x hc = let l = child_symbol formed n k x p h hc in omega arith

-- one mark

mark-fewer : (ms : List Bool) (x : ℕ) → x < length ms → marked ms x ≡ false → missing (set ms x true) + 1 ≡ missing ms
mark-fewer ms x l e =
    let s = sum_by-set (λ (b : Bool). cond (not b) 1 0) ms x true false l in
    let f = ap (λ (b : Bool). cond {A = ℕ} (not b) 1 0) e in
    omega (arith, s, f)

mark_still : (ms : List Bool) (x : ℕ) → marked ms x ≡ true → set ms x true ≡ ms
mark_still ms x e = ap (λ (b : Bool). set ms x b) (sym e) ∙ set-get_or ms x false

mark_cases : (ms : List Bool) (x y : ℕ) → marked (set ms x true) y ≡ true → (y ≡ x) ⊎ (marked ms y ≡ true)
mark_cases ms x y m = go (cases_eq y x)
  where
    go : (y ≡ x) ⊎ (y ≡ x → ⊥) → (y ≡ x) ⊎ (marked ms y ≡ true)
    go (inl e) = inl e
    go (inr ne) = inr (sym (get_or-set_other ms x y true false ne) ∙ m)

mark_keeps : (ms : List Bool) (x y : ℕ) → x < length ms → marked ms y ≡ true → marked (set ms x true) y ≡ true
mark_keeps ms x y l m = go (cases_eq y x)
  where
    go : (y ≡ x) ⊎ (y ≡ x → ⊥) → marked (set ms x true) y ≡ true
    go (inl e) = rw e (get_or-set_same ms x true false l)
    go (inr ne) = get_or-set_other ms x y true false ne ∙ m

pub mark_grown : (ms : List Bool) (x : ℕ) → x < length ms → Grown (λ y. y ≡ x) ms (set ms x true) (not (marked ms x))
mark_grown ms x l = record {
  size = length-set ms x true;
  kept = λ y m. mark_keeps ms x y l m;
  new = λ y was m. elim (mark_cases ms x y m) [ inl e ↦ e | inr h ↦ absurd (both_ways (marked ms y) was h) ];
  level = level_by (cases_Bool (marked ms x));
  fewer = λ e. less (not-true (marked ms x) e);
  still = λ e. mark_still ms x (not-false (marked ms x) e);
}
  where
    less : marked ms x ≡ false → missing (set ms x true) < missing ms
    less e = let f = mark-fewer ms x l e in omega arith

    level_by : (marked ms x ≡ true) ⊎ (marked ms x ≡ false) → missing (set ms x true) ≤ missing ms
    level_by (inl e) = let f = ap missing (mark_still ms x e) in omega arith
    level_by (inr e) = let f = less e in omega arith

pub mark_here : (ms : List Bool) (x : ℕ) → x < length ms → marked (set ms x true) x ≡ true
mark_here ms x l = get_or-set_same ms x true false l

-- marks that grow, step by step

grown_none : {P : ℕ → Type 0} (ms : List Bool) → Grown P ms ms false
grown_none ms = record {
  size = refl;
  kept = λ x m. m;
  new = λ x was m. absurd (both_ways (marked ms x) was m);
  level = omega arith;
  fewer = λ e. let z : ◌≡◌ {A = ℕ} 0 1 = cc in absurd (omega arith);
  still = λ e. refl;
}

grown_so : {P Q : ℕ → Type 0} (a b : List Bool) (r : Bool) → ((x : ℕ) → Q x → P x) → Grown Q a b r → Grown P a b r
grown_so a b r f g = record {
  size = g.size;
  kept = g.kept;
  new = λ x was m. f x (g.new x was m);
  level = g.level;
  fewer = g.fewer;
  still = g.still;
}

grown_then : {P : ℕ → Type 0} (a b c : List Bool) (r q : Bool) → Grown P a b r → Grown P b c q → Grown P a c (r || q)
grown_then {P} a b c r q f g = record {
  size = g.size ∙ f.size;
  kept = λ x m. g.kept x (f.kept x m);
  new = λ x was m. by_mark x was m (cases_Bool (marked b x));
  level = omega (arith, f.level, g.level);
  fewer = λ e. fewer_by (or_cases r q e);
  still = λ e. let p = or_parts r q e in g.still p.1 ∙ f.still p.0;
}
  where
    by_mark : (x : ℕ) → marked a x ≡ false → marked c x ≡ true → (marked b x ≡ true) ⊎ (marked b x ≡ false) → P x
    by_mark x was m (inl e) = f.new x was e
    by_mark x was m (inr e) = g.new x e m

    fewer_by : (r ≡ true) ⊎ (q ≡ true) → missing c < missing a
    fewer_by (inl e) = omega (arith, f.fewer e, g.level)
    fewer_by (inr e) = omega (arith, f.level, g.fewer e)

grown_only : {P : ℕ → Type 0} (a b : List Bool) (r : Bool) → Only P a → Grown P a b r → Only P b
grown_only {P} a b r only g x m = go (cases_Bool (marked a x))
  where
    go : (marked a x ≡ true) ⊎ (marked a x ≡ false) → P x
    go (inl e) = only x e
    go (inr e) = g.new x e m

-- the symbols of a list, one after the other

abbrev pub MarkedBelow : List Bool → List ℕ → ℕ → Type 0
MarkedBelow ms xs i = (k x : ℕ) → k < i → Has xs k x → marked ms x ≡ true

below_none : (ms : List Bool) (xs : List ℕ) → MarkedBelow ms xs 0
below_none ms xs k x l h = absurd (omega arith)

pub below_all : (ms : List Bool) (xs : List ℕ) (i : ℕ) → length xs ≤ i → MarkedBelow ms xs i → AllMarked ms xs
below_all ms xs i l below k x h = let b = has-below xs k x h in below k x (omega arith) h

below_more : (ms : List Bool) (xs : List ℕ) (i : ℕ) → i < length xs → MarkedBelow ms xs i → marked ms (get_or xs i 0) ≡ true → MarkedBelow ms xs (i + 1)
below_more ms xs i l below m k x lt h = go (cases_eq k i)
  where
    go : (k ≡ i) ⊎ (k ≡ i → ⊥) → marked ms x ≡ true
    go (inl e) =
        let h' : Has xs i x = subst (λ (j : ℕ). Has xs j x) e h in
        subst (λ (y : ℕ). marked ms y ≡ true) (has_one xs i (get_or xs i 0) x (at_place xs i l) h') m
    go (inr ne) = below k x (omega arith) h

-- marks on the first i symbols of a list
pub record Marking (xs : List ℕ) (before ms : List Bool) (added : Bool) (i : ℕ) : Type 0 where
  pub grown : Grown (λ x. (k : ℕ) × Has xs k x) before ms added
  pub here : MarkedBelow ms xs i

pub marking_none : (xs : List ℕ) (ms : List Bool) → Marking xs ms ms false 0
marking_none xs ms = record { grown = grown_none ms; here = below_none ms xs }

pub marking_more : (xs : List ℕ) (before ms after : List Bool) (added r : Bool) (i : ℕ) → i < length xs → Marking xs before ms added i → Grown (λ x. x ≡ get_or xs i 0) ms after r → marked after (get_or xs i 0) ≡ true → Marking xs before after (added || r) (i + 1)
marking_more xs before ms after added r i l so g m = record {
  grown = grown_then before ms after added r so.grown (grown_so ms after r (λ x e. (i, subst (λ (y : ℕ). Has xs i y) (sym e) (at_place xs i l))) g);
  here = below_more after xs i l (λ k x lt h. g.kept x (so.here k x lt h)) m;
}

-- a mark that may stand where it does, and does so for sure
meant_stands : (way : Spread) (s : Scheme) (x : ℕ) → ∥ Meant way s x ∥₁ → Meant way s x
meant_stands Up s x t = finite_stands s x t
meant_stands Down s x t = reached_stands s x t

pub only_stands : (way : Spread) (s : Scheme) (ms : List Bool) → ∥ Only (Meant way s) ms ∥₁ → Only (Meant way s) ms
only_stands way s ms t x m = meant_stands way s x (∥∥₁_map t (λ o. o x m))

-- what the code writes back over a whole list
pub written : (n : ℕ) (ms before : List Bool) → length ms ≡ n → take n (ms ++ drop (length ms) before) ≡ ms
written n ms before e = rw (← e) (take-append_seam ms (drop (length ms) before))

-- a round

carried_meant : (way : Spread) (s : Scheme) (ms : List Bool) (n : ℕ) (p : Production) → Has s.productions n p → Only (Meant way s) ms → (x : ℕ) → Carried way ms p x → Meant way s x
carried_meant Up s ms n p h only x c = subst (λ (y : ℕ). Finite s y) (sym c.0) (by n p h (λ k y hc. only y (c.1 k y hc)))
carried_meant Down s ms n p h only x c = under n c.1.0 x p h (only p.left c.0) c.1.1

pub followed_only : (way : Spread) (s : Scheme) (ms after : List Bool) (r : Bool) (n : ℕ) (p : Production) → Has s.productions n p → Only (Meant way s) ms → Followed way p ms after r → Only (Meant way s) after
followed_only way s ms after r n p h only f = grown_only ms after r only (grown_so ms after r (carried_meant way s ms n p h only) f.grown)

pub round_more : (way : Spread) (s : Scheme) (before ms after : List Bool) (added r : Bool) (i : ℕ) (p : Production) → Has s.productions i p → Only (Meant way s) ms → Round way s before ms added i → Followed way p ms after r → Round way s before after (added || r) (i + 1)
round_more way s before ms after added r i p h only so f = record {
  grown = grown_then before ms after added r so.grown (grown_so ms after r (carried_meant way s ms i p h only) f.grown);
  settled = λ e n q l hq. let parts = or_parts added r e in go parts.0 parts.1 n q l hq (cases_eq n i);
}
  where
    go : added ≡ false → r ≡ false → (n : ℕ) (q : Production) → n < i + 1 → Has s.productions n q → (n ≡ i) ⊎ (n ≡ i → ⊥) → Settled way before q
    go ea er n q l hq (inl e) =
        let hi : Has s.productions i q = subst (λ (j : ℕ). Has s.productions j q) e hq in
        let same = has_one s.productions i p q h hi in
        let here = subst (λ (m : List Bool). Settled way m p) (so.grown.still ea) (f.settled er) in
        subst (λ (z : Production). Settled way before z) same here
    go ea er n q l hq (inr ne) = so.settled ea n q (omega arith) hq

-- the rounds, of which the code's marks name their own way and scheme

abbrev pub Rounds : Spread → Scheme → List Bool → List Bool → Type 0
Rounds way s before ms = (b : Bool) × Grown (Meant way s) before ms b

round_on : (way w : Spread) (s t : Scheme) (ms after : List Bool) (r : Bool) → w ≡ way → t ≡ s → Round w t ms after r (length t.productions) → Round way s ms after r (length s.productions)
round_on way w s t ms after r e f g = subst (λ (v : Spread). Round v s ms after r (length s.productions)) e (subst (λ (u : Scheme). Round w u ms after r (length u.productions)) f g)

rounds_more : (way w : Spread) (s t : Scheme) (before ms after : List Bool) (r : Bool) → w ≡ way → t ≡ s → Rounds way s before ms → Round w t ms after r (length t.productions) → Rounds way s before after
rounds_more way w s t before ms after r e f so g = (so.0 || r, grown_then before ms after so.0 r so.1 (round_on way w s t ms after r e f g).grown)

pub rounds_full : (way w : Spread) (s t : Scheme) (before ms after : List Bool) (r : Bool) → w ≡ way → t ≡ s → Only (Meant way s) before → r ≡ false → Rounds way s before ms → Round w t ms after r (length t.productions) → Full way s before after
rounds_full way w s t before ms after r e f only stop so g =
    let h = round_on way w s t ms after r e f g in
    let all = rounds_more way w s t before ms after r e f so g in
    record {
      size = all.1.size;
      kept = all.1.kept;
      only = grown_only before after all.0 only all.1;
      closed = λ n p there. subst (λ (m : List Bool). Settled way m p) (sym (h.grown.still stop)) (h.settled stop n p (has-below s.productions n p there) there);
    }

-- what the marks come to

all_finite : (s : Scheme) (ms : List Bool) → Closed Up s ms → (x : ℕ) → Finite s x → marked ms x ≡ true
all_finite s ms closed x (by n p h each) = closed n p h (λ k y hc. all_finite s ms closed y (each k y hc))

all_reached : (s : Scheme) (ms : List Bool) → Closed Down s ms → marked ms 0 ≡ true → (x : ℕ) → Reached s x → marked ms x ≡ true
all_reached s ms closed begun x root = begun
all_reached s ms closed begun x (under n k y p h above hc) = closed n p h (all_reached s ms closed begun p.left above) k y hc

failing_so : {P Q : ℕ → Type 0} → ((x : ℕ) → P x → Q x) → ((x : ℕ) → Q x → P x) → (o : Option ℕ) → FirstFailing P o → FirstFailing Q o
failing_so f g None h = λ n. f n (h n)
failing_so f g (Some n) h = ((λ q. h.0 (g n q)), λ m l. f m (h.1 m l))

pub left_out : (way : Spread) (s : Scheme) (before ms : List Bool) (o : Option ℕ) → length before ≡ length s.visits → Begun way before → Full way s before ms → FirstFailing (λ x. x < length ms → marked ms x ≡ true) o → FirstFailing (λ x. Keeps s (asked way x)) o
left_out Up s before ms o size begun full h =
    failing_so
    (λ x m v hv. full.only x (m (let b = has-below s.visits x v hv in omega (arith, full.size))))
    (λ x keeps l. let hv = has_at s.visits x (omega (arith, full.size)) in all_finite s ms full.closed x (keeps hv.0 hv.1))
    o h
left_out Down s before ms o size begun full h =
    failing_so
    (λ x m v hv. full.only x (m (let b = has-below s.visits x v hv in omega (arith, full.size))))
    (λ x keeps l. let hv = has_at s.visits x (omega (arith, full.size)) in all_reached s ms full.closed (full.kept 0 begun) x (keeps hv.0 hv.1))
    o h

-- the first place with no mark
pub first_lacking : (ms : List Bool) (o : Option ℕ) → MatchOption o (AllWithin (λ b. b ≡ true) ms 0 (length ms)) (λ i. (i < length ms) × HoldsAt (λ b. b ≡ false) ms i × AllWithin (λ b. b ≡ true) ms 0 i) → FirstFailing (λ x. x < length ms → marked ms x ≡ true) o
first_lacking ms None h = λ x l. h x false (omega arith) l
first_lacking ms (Some i) h = ((λ m. both_ways (marked ms i) (h.1 false) (m h.0)), λ k l _. h.2 k false (omega arith) l)

-- the first marks

pub none_asked : (way : Spread) (s : Scheme) → length s.visits ≡ 0 → FirstFailing (λ x. Keeps s (asked way x)) None
none_asked Up s e = λ x v h. let b = has-below s.visits x v h in absurd (omega arith)
none_asked Down s e = λ x v h. let b = has-below s.visits x v h in absurd (omega arith)

unmarked : (n x : ℕ) → marked (replicate n false) x ≡ false
unmarked n x = go (cases_lt x n)
  where
    go : (x < n) ⊎ (n ≤ x) → marked (replicate n false) x ≡ false
    go (inl l) = get_or-replicate n x false false l
    go (inr h) = get_or_past (replicate n false) x false (simp length-replicate h)

abbrev pub goes_down : Spread → Bool
goes_down Up = false
goes_down Down = true

-- no symbol is marked, or the root alone
pub first_marks : (way : Spread) (s : Scheme) (n : ℕ) (b : Bool) (ms : List Bool) → 0 < n → b ≡ goes_down way → ms ≡ replicate n false → Only (Meant way s) (set ms 0 b) × Begun way (set ms 0 b)
first_marks Up s n b ms l e f = (only, tt)
  where
    blank : set ms 0 b ≡ replicate n false
    blank = rw (e, f) (ap (λ (c : Bool). set (replicate n false) 0 c) (sym (unmarked n 0)) ∙ set-get_or (replicate n false) 0 false)

    only : Only (Meant Up s) (set ms 0 b)
    only x m = absurd (both_ways (marked (replicate n false) x) (unmarked n x) (subst (λ (l : List Bool). marked l x ≡ true) blank m))
first_marks Down s n b ms l e f = (only, rw (e, f) (mark_here (replicate n false) 0 (simp length-replicate l)))
  where
    only : Only (Meant Down s) (set ms 0 b)
    only x m = elim (mark_cases (replicate n false) 0 x (rw (e, f) at m)) [ inl at-root ↦ subst (λ (y : ℕ). Reached s y) (sym at-root) root | inr h ↦ absurd (both_ways (marked (replicate n false) x) (unmarked n x) h) ]
