-- The spec's marks and passes as loops go through them: over the attributes, over a rule's arguments, over the steps. Assumes nothing.
use Rattle.std.proofs.Common.{◌≡◌, ℕ, zero, suc, ◌+◌, ◌*◌, ◌<◌, ◌≤◌, Bool, true, false, cond, not, ◌&&◌, ◌||◌, eqb, List, [], ◌∷◌, ◌++◌, length, get_or, drop, refl, ap, ◌∙◌, arith}
use mathlib.Core.Option.{Option, some}
use Rattle.model.specs.Lists.{Has, any, keep, places}
use Rattle.model.specs.Scheme.{Side, inherited, synthesized, Attribute, Occurrence, Rule, Step, eval, visit, leave, Production, Scheme, same_occurrence, symbol_at}
use Rattle.model.specs.Sequences.{unused, last_use}
use Rattle.model.specs.Loose.{Mark, begin, end, Cell, empty, held, broken, is_side, distinct, unused_ends, at_eval, ends}
use Rattle.model.specs.Outcomes.{Cells, only, mark, marks, over, by_eval, by_visit, opening, place, at, Filling, put_all, through}
use Rattle.model.proofs.Plan.Flags.{drop-has}
use Rattle.model.proofs.Plan.Table.{at_in}

pub marks-++ : (f : Cells) (ms ns : List Mark) → marks f (ms ++ ns) ≡ marks (marks f ms) ns
marks-++ f [] ns = refl
marks-++ f (m ∷ ms) ns = marks-++ (mark f m) ms ns

abbrev pub end_if : Bool → Cells → Cells
end_if b f = cond b (mark f end) f

abbrev pub begin_if : Bool → Cells → Cells
begin_if b f = cond b (mark f begin) f

marks_cond : (b : Bool) (f : Cells) (ms : List Mark) → marks f (cond b (end ∷ ms) ms) ≡ marks (end_if b f) ms
marks_cond true f ms = refl
marks_cond false f ms = refl

pub marks_begin : (b : Bool) (f : Cells) → marks f (cond b (begin ∷ []) []) ≡ begin_if b f
marks_begin true f = refl
marks_begin false f = refl

abbrev pub fits : ℕ → Side → ℕ → Attribute → Bool
fits x d j b = eqb b.symbol x && (is_side b.side d && eqb b.visit j)

-- a read of the table
pub at_is : (t : List Bool) (x i : ℕ) (c d : Cell) (n : ℕ) → i < 6 → place x i c d ≡ n → at t x i c d ≡ get_or t n false
at_is t x i c d n h e = at_in t x i c d h ∙ ap (λ (k : ℕ). get_or t k false) e

-- the nine reads of a visit
pub over_is : (t : List Bool) (x j k : ℕ) (f : Cells) → j < 6 → k ≡ (x * 6 + j) * 9 → over (at t) x j f ≡ record {
  e = (f.e && get_or t k false) || ((f.h && get_or t (k + 3) false) || (f.b && get_or t (k + 6) false));
  h = (f.e && get_or t (k + 1) false) || ((f.h && get_or t (k + 4) false) || (f.b && get_or t (k + 7) false));
  b = (f.e && get_or t (k + 2) false) || ((f.h && get_or t (k + 5) false) || (f.b && get_or t (k + 8) false));
}
over_is t x j k f h e =
    let ee = at_is t x j empty empty k h (omega arith) in
    let eh = at_is t x j empty held (k + 1) h (omega arith) in
    let eb = at_is t x j empty broken (k + 2) h (omega arith) in
    let he = at_is t x j held empty (k + 3) h (omega arith) in
    let hh = at_is t x j held held (k + 4) h (omega arith) in
    let hb = at_is t x j held broken (k + 5) h (omega arith) in
    let be = at_is t x j broken empty (k + 6) h (omega arith) in
    let bh = at_is t x j broken held (k + 7) h (omega arith) in
    let bb = at_is t x j broken broken (k + 8) h (omega arith) in
    cc

module _ (members : ℕ → Bool) (p : Production) where
  -- over the attributes, the first of which is number n: the unused lives of symbol x at position k, on side d for visit j, end
  abbrev pub end-unused : ℕ → ℕ → Side → ℕ → ℕ → List Attribute → Cells → Cells
  end-unused k x d j n [] f = f
  end-unused k x d j n (b ∷ bs) f = end-unused k x d j (suc n) bs (end_if (fits x d j b && (members n && unused p (record { position = k; attribute = n }))) f)

  -- over the arguments of the rule of step t: the lives that have their last use there end
  abbrev pub end_last : ℕ → List Occurrence → Cells → Cells
  end_last t [] f = f
  end_last t (o ∷ os) f = end_last t os (end_if (not (any (same_occurrence o) os) && (members o.attribute && last_use p t o)) f)

  abbrev pub by_rule : ℕ → Rule → Cells → Cells
  by_rule t r f = begin_if (members r.target.attribute) (end_last t r.arguments f)

  pub end-unused_is : (s : Scheme) (k x : ℕ) (d : Side) (j n : ℕ) (bs : List Attribute) (f : Cells) → marks f (unused_ends s members p k (places (fits x d j) n bs)) ≡ end-unused k x d j n bs f
  end-unused_is s k x d j n [] f = refl
  end-unused_is s k x d j n (b ∷ bs) f = go (fits x d j b) (λ g. end-unused_is s k x d j (suc n) bs g)
    where
      ending : Bool
      ending = members n && unused p (record { position = k; attribute = n })

      later : List ℕ
      later = places (fits x d j) (suc n) bs

      go : (fit : Bool) → ((g : Cells) → marks g (unused_ends s members p k later) ≡ end-unused k x d j (suc n) bs g) → marks f (unused_ends s members p k (cond fit (n ∷ later) later)) ≡ end-unused k x d j (suc n) bs (end_if (fit && ending) f)
      go true more = marks_cond ending f (unused_ends s members p k later) ∙ more (end_if ending f)
      go false more = more f

  end_last_marks : (t : ℕ) (os : List Occurrence) (f : Cells) → marks f (ends (keep (λ o. members o.attribute && last_use p t o) (distinct os))) ≡ end_last t os f
  end_last_marks t [] f = refl
  end_last_marks t (o ∷ os) f = go (any (same_occurrence o) os) (λ g. end_last_marks t os g)
    where
      P : Occurrence → Bool
      P o = members o.attribute && last_use p t o

      kept : (b : Bool) → marks f (ends (cond b (o ∷ keep P (distinct os)) (keep P (distinct os)))) ≡ marks (end_if b f) (ends (keep P (distinct os)))
      kept true = refl
      kept false = refl

      go : (again : Bool) → ((g : Cells) → marks g (ends (keep P (distinct os))) ≡ end_last t os g) → marks f (ends (keep P (cond again (distinct os) (o ∷ distinct os)))) ≡ end_last t os (end_if (not again && P o) f)
      go true more = more f
      go false more = kept (P o) ∙ more (end_if (P o) f)

  pub end_last_is : (s : Scheme) (t : ℕ) (r : Rule) (f : Cells) → marks f (at_eval s members p t r) ≡ by_rule t r f
  end_last_is s t r f =
      marks-++ f (ends (keep (λ o. members o.attribute && last_use p t o) (distinct r.arguments))) (cond (members r.target.attribute) (begin ∷ []) [])
      ∙ ap (λ (g : Cells). marks g (cond (members r.target.attribute) (begin ∷ []) [])) (end_last_marks t r.arguments f)
      ∙ marks_begin (members r.target.attribute) (end_last t r.arguments f)

module _ (s : Scheme) (members : ℕ → Bool) (p : Production) (c : Cell) where
  -- a loop over the steps keeps `through` of what is left; these are its turns and its end
  pub through_end : (i t : ℕ) (f : Cells) (w : Filling) → length p.steps ≤ t → through s members p c i t (drop t p.steps) f w ≡ w
  through_end i t f w h = ap (λ (ts : List Step). through s members p c i t ts f w) (drop-end p.steps t h)
    where
      drop-end : (ts : List Step) (t : ℕ) → length ts ≤ t → drop t ts ≡ []
      drop-end [] zero h = refl
      drop-end [] (suc t) h = refl
      drop-end (x ∷ ts) zero h = absurd (omega arith)
      drop-end (x ∷ ts) (suc t) h = drop-end ts t (omega arith)

  pub through_leave : (i t l : ℕ) (f : Cells) (w : Filling) → Has p.steps t (leave l) → through s members p c i t (drop t p.steps) f w ≡ through s members p c (suc l) (suc t) (drop (suc t) p.steps) (opening s members p (suc l) c) (put_all p.left i c f w)
  through_leave i t l f w h = ap (λ (ts : List Step). through s members p c i t ts f w) (drop-has p.steps t (leave l) h)

  pub through_eval : (i t n : ℕ) (r : Rule) (f : Cells) (w : Filling) → Has p.steps t (eval n) → Has p.rules n r → through s members p c i t (drop t p.steps) f w ≡ through s members p c i (suc t) (drop (suc t) p.steps) (by_rule members p t r f) w
  through_eval i t n r f w h hr =
      ap (λ (ts : List Step). through s members p c i t ts f w) (drop-has p.steps t (eval n) h)
      ∙ ap (λ (o : Option Rule). through s members p c i (suc t) (drop (suc t) p.steps) (by_eval s members p t o f) w) hr
      ∙ ap (λ (g : Cells). through s members p c i (suc t) (drop (suc t) p.steps) g w) (end_last_is members p s t r f)

  pub through_visit : (i t k j x : ℕ) (f : Cells) (w : Filling) → Has p.steps t (visit k j) → symbol_at p k ≡ some x → through s members p c i t (drop t p.steps) f w ≡ through s members p c i (suc t) (drop (suc t) p.steps) (end-unused members p k x synthesized j 0 s.attributes (over (at w.table) x j f)) w
  through_visit i t k j x f w h hx =
      ap (λ (ts : List Step). through s members p c i t ts f w) (drop-has p.steps t (visit k j) h)
      ∙ ap (λ (o : Option ℕ). through s members p c i (suc t) (drop (suc t) p.steps) (by_visit s members (at w.table) p k j o f) w) hx
      ∙ ap (λ (g : Cells). through s members p c i (suc t) (drop (suc t) p.steps) g w) (end-unused_is members p s k x synthesized j 0 s.attributes (over (at w.table) x j f))

  pub opening_is : (i : ℕ) → opening s members p i c ≡ end-unused members p 0 p.left inherited i 0 s.attributes (only c)
  opening_is i = end-unused_is members p s 0 p.left inherited i 0 s.attributes (only c)
