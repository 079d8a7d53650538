-- Sets of cells under marks and walks, and places of lists. Assumes nothing.
use Rattle.std.proofs.Common.{◌≡◌, ℕ, zero, suc, true, ◌&&◌, ◌||◌, ◌⊎◌, List, [], ◌∷◌, ◌++◌, drop, refl, ap, ◌∙◌, inl, inr, arith}
use Rattle.std.proofs.lemmas.Bool.{or_cases, and_parts, and_from, or_left, or_right}
use Rattle.model.specs.Lists.{Has}
use Rattle.model.specs.Loose.{Mark, begin, end, Cell, empty, held, broken, meet, meets}
use Rattle.model.specs.Outcomes.{Cells, has, only, nowhere, mark, marks, Outcomes, reach, over}

pub meets-++ : (c : Cell) (ms ns : List Mark) → meets c (ms ++ ns) ≡ meets (meets c ms) ns
meets-++ c [] ns = refl
meets-++ c (m ∷ ms) ns = meets-++ (meet c m) ms ns

pub has_only : (c : Cell) → has (only c) c ≡ true
has_only empty = refl
has_only held = refl
has_only broken = refl

pub only_has : (c d : Cell) → has (only c) d ≡ true → c ≡ d
only_has empty empty e = refl
only_has empty held e = cc
only_has empty broken e = cc
only_has held empty e = cc
only_has held held e = refl
only_has held broken e = cc
only_has broken empty e = cc
only_has broken held e = cc
only_has broken broken e = refl

pub has-mark : (f : Cells) (c : Cell) (m : Mark) → has f c ≡ true → has (mark f m) (meet c m) ≡ true
has-mark f empty begin e = e
has-mark f empty end e = or_left f.e f.b e
has-mark f held begin e = or_left f.h f.b e
has-mark f held end e = e
has-mark f broken begin e = or_right f.h f.b e
has-mark f broken end e = or_right f.e f.b e

pub has-marks : (f : Cells) (c : Cell) (ms : List Mark) → has f c ≡ true → has (marks f ms) (meets c ms) ≡ true
has-marks f c [] e = e
has-marks f c (m ∷ ms) e = has-marks (mark f m) (meet c m) ms (has-mark f c m e)

-- a cell that marks lead to comes from a cell before them
pub mark-has : (f : Cells) (m : Mark) (d : Cell) → has (mark f m) d ≡ true → (c : Cell) × (has f c ≡ true) × (meet c m ≡ d)
mark-has f begin empty e = (empty, cc, cc)
mark-has f begin held e = (empty, e, refl)
mark-has f begin broken e = elim (or_cases f.h f.b e) [ inl a ↦ (held, a, refl) | inr a ↦ (broken, a, refl) ]
mark-has f end empty e = (held, e, refl)
mark-has f end held e = (empty, cc, cc)
mark-has f end broken e = elim (or_cases f.e f.b e) [ inl a ↦ (empty, a, refl) | inr a ↦ (broken, a, refl) ]

pub marks-has : (f : Cells) (ms : List Mark) (d : Cell) → has (marks f ms) d ≡ true → (c : Cell) × (has f c ≡ true) × (meets c ms ≡ d)
marks-has f [] d e = (d, e, refl)
marks-has f (m ∷ ms) d e =
    let later = marks-has (mark f m) ms d e in
    let first = mark-has f m later.0 later.1 in
    (first.0, first.1, ap (λ (c : Cell). meets c ms) first.2 ∙ later.2)

pub has_over : (out : Outcomes) (x i : ℕ) (f : Cells) (c d : Cell) → has f c ≡ true → out x i c d ≡ true → has (over out x i f) d ≡ true
has_over out x i f c d a b = at_end d (reached c a b)
  where
    reached : (c : Cell) → has f c ≡ true → out x i c d ≡ true → reach out x i f d ≡ true
    reached empty a b = or_left _ _ (and_from f.e (out x i empty d) a b)
    reached held a b = or_right (f.e && out x i empty d) _ (or_left _ _ (and_from f.h (out x i held d) a b))
    reached broken a b = or_right (f.e && out x i empty d) _ (or_right (f.h && out x i held d) _ (and_from f.b (out x i broken d) a b))

    at_end : (d : Cell) → reach out x i f d ≡ true → has (over out x i f) d ≡ true
    at_end empty e = e
    at_end held e = e
    at_end broken e = e

pub over_has : (out : Outcomes) (x i : ℕ) (f : Cells) (d : Cell) → has (over out x i f) d ≡ true → (c : Cell) × (has f c ≡ true) × (out x i c d ≡ true)
over_has out x i f d e = from (or_cases (f.e && out x i empty d) _ (at_end d e))
  where
    at_end : (d : Cell) → has (over out x i f) d ≡ true → reach out x i f d ≡ true
    at_end empty e = e
    at_end held e = e
    at_end broken e = e

    Found : Type 0
    Found = (c : Cell) × (has f c ≡ true) × (out x i c d ≡ true)

    last : ((f.h && out x i held d) ≡ true) ⊎ ((f.b && out x i broken d) ≡ true) → Found
    last (inl a) = let both = and_parts f.h (out x i held d) a in (held, both.0, both.1)
    last (inr a) = let both = and_parts f.b (out x i broken d) a in (broken, both.0, both.1)

    from : ((f.e && out x i empty d) ≡ true) ⊎ (((f.h && out x i held d) || (f.b && out x i broken d)) ≡ true) → Found
    from (inl a) = let both = and_parts f.e (out x i empty d) a in (empty, both.0, both.1)
    from (inr a) = last (or_cases (f.h && out x i held d) _ a)

pub drop-has {ℓ} : {A : Type ℓ} (xs : List A) (t : ℕ) (x : A) → Has xs t x → drop t xs ≡ x ∷ drop (suc t) xs
drop-has [] t x e = cc
drop-has (y ∷ ys) zero x e = cc
drop-has (y ∷ ys) (suc t) x e = drop-has ys t x e

pub has-drop {ℓ} : {A : Type ℓ} (xs : List A) (t : ℕ) (x : A) (ys : List A) → drop t xs ≡ x ∷ ys → Has xs t x
has-drop [] zero x ys e = cc
has-drop [] (suc t) x ys e = cc
has-drop (y ∷ xs) zero x ys e = cc
has-drop (y ∷ xs) (suc t) x ys e = has-drop xs t x ys e

pub drop-next {ℓ} : {A : Type ℓ} (xs : List A) (t : ℕ) (x : A) (ys : List A) → drop t xs ≡ x ∷ ys → drop (suc t) xs ≡ ys
drop-next [] zero x ys e = cc
drop-next [] (suc t) x ys e = cc
drop-next (y ∷ xs) zero x ys e = cc
drop-next (y ∷ xs) (suc t) x ys e = drop-next xs t x ys e

pub nowhere-has : (c : Cell) → has nowhere c ≡ true → ⊥
nowhere-has empty e = let z : ◌≡◌ {A = ℕ} 0 1 = cc in omega arith
nowhere-has held e = let z : ◌≡◌ {A = ℕ} 0 1 = cc in omega arith
nowhere-has broken e = let z : ◌≡◌ {A = ℕ} 0 1 = cc in omega arith
