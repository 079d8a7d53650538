-- The table of flags: its places are apart, and an entry keeps it sound and brings it nearer its end. Assumes nothing.
use Rattle.std.proofs.Common.{◌≡◌, ℕ, zero, suc, ◌+◌, ◌*◌, ◌<◌, ◌≤◌, Bool, true, false, cond, not, ◌&&◌, ltb, ◌⊎◌, List, [], ◌∷◌, length, get_or, set, sym, refl, ap, ◌∙◌, inl, inr, arith, length-set}
use Rattle.std.proofs.lemmas.Bool.{and_parts, and_from, not-true, ltb-true, lt-ltb, cases_eq}
use Rattle.std.proofs.lemmas.List.{get_or-set_same, get_or-set_other}
use Rattle.model.specs.Lists.{count}
use Rattle.model.specs.Scheme.{Scheme}
use Rattle.model.specs.Loose.{Cell, empty, held, broken}
use Rattle.model.specs.Outcomes.{Sound, code, place, at, Filling, enter, put}
use Rattle.model.proofs.Plan.Witness.{Ends}

pub code_below : (c : Cell) → code c < 3
code_below empty = omega arith
code_below held = omega arith
code_below broken = omega arith

pub code_apart : (c d : Cell) → code c ≡ code d → c ≡ d
code_apart empty empty e = refl
code_apart empty held e = absurd (omega arith)
code_apart empty broken e = absurd (omega arith)
code_apart held empty e = absurd (omega arith)
code_apart held held e = refl
code_apart held broken e = absurd (omega arith)
code_apart broken empty e = absurd (omega arith)
code_apart broken held e = absurd (omega arith)
code_apart broken broken e = refl

digits : (a b c d : ℕ) → b < 3 → d < 3 → a * 3 + b ≡ c * 3 + d → (a ≡ c) × (b ≡ d)
digits a b c d hb hd e = omega arith

six : (a b c d : ℕ) → b < 6 → d < 6 → a * 6 + b ≡ c * 6 + d → (a ≡ c) × (b ≡ d)
six a b c d hb hd e = omega arith

pub place_apart : (x i x' i' : ℕ) (c d c' d' : Cell) → i < 6 → i' < 6 → place x i c d ≡ place x' i' c' d' → (x ≡ x') × (i ≡ i') × (c ≡ c') × (d ≡ d')
place_apart x i x' i' c d c' d' hi hi' e =
    let last = digits ((x * 6 + i) * 3 + code c) (code d) ((x' * 6 + i') * 3 + code c') (code d') (code_below d) (code_below d') e in
    let next = digits (x * 6 + i) (code c) (x' * 6 + i') (code c') (code_below c) (code_below c') last.0 in
    let front = six x i x' i' hi hi' next.0 in
    (front.0, front.1, code_apart c c' next.1, code_apart d d' last.1)

pub place_below : (n x i : ℕ) (c d : Cell) → x < n → i < 6 → place x i c d < 54 * n
place_below n x i c d hx hi = let hc = code_below c in let hd = code_below d in omega arith

pub at_in : (t : List Bool) (x i : ℕ) (c d : Cell) → i < 6 → at t x i c d ≡ get_or t (place x i c d) false
at_in t x i c d h = rw (lt-ltb i 6 h)

abbrev pub falses : List Bool → ℕ
falses t = count not t

pub falses_set : (t : List Bool) (k : ℕ) → k < length t → get_or t k false ≡ false → suc (falses (set t k true)) ≡ falses t
falses_set [] k h e = absurd (omega arith)
falses_set (true ∷ t) zero h e = absurd (let z : ◌≡◌ {A = ℕ} 0 1 = cc in omega arith)
falses_set (false ∷ t) zero h e = refl
falses_set (true ∷ t) (suc k) h e = falses_set t k (omega arith) e
falses_set (false ∷ t) (suc k) h e = ap suc (falses_set t k (omega arith) e)

-- what filling in entries does: it only adds, and it either changes nothing at all or leaves fewer entries false
pub record Progress (w v : Filling) : Type 0 where
  pub same_length : length v.table ≡ length w.table
  pub keeps : (k : ℕ) → get_or w.table k false ≡ true → get_or v.table k false ≡ true
  pub settled : v.changed ≡ false → v ≡ w
  pub no_more : falses v.table ≤ falses w.table
  pub falls : w.changed ≡ false → v.changed ≡ true → falses v.table < falses w.table

pub progress_none : (w : Filling) → Progress w w
progress_none w = record { same_length = refl; keeps = λ k e. e; settled = λ e. refl; no_more = omega arith; falls = λ a b. absurd (let z : ◌≡◌ {A = ℕ} 0 1 = cc in omega arith) }

pub progress_both : (w v u : Filling) → Progress w v → Progress v u → Progress w u
progress_both w v u p q = record {
  same_length = q.same_length ∙ p.same_length;
  keeps = λ k e. q.keeps k (p.keeps k e);
  settled = λ e. let same = q.settled e in same ∙ p.settled (ap (λ (z : Filling). z.changed) (sym same) ∙ e);
  no_more = omega arith;
  falls = λ a b. by_middle v.changed refl a b;
}
  where
    by_middle : (m : Bool) → v.changed ≡ m → w.changed ≡ false → u.changed ≡ true → falses u.table < falses w.table
    by_middle true e a b = omega (arith, p.falls a e, q.no_more)
    by_middle false e a b = omega (arith, q.falls e b, p.no_more)

pub enter_progress : (k : ℕ) (w : Filling) → k < length w.table → get_or w.table k false ≡ false → Progress w (enter k w)
enter_progress k w h e = record {
  same_length = length-set w.table k true;
  keeps = keep;
  settled = λ z. absurd (let y : ◌≡◌ {A = ℕ} 0 1 = cc in omega arith);
  no_more = omega (arith, falses_set w.table k h e);
  falls = λ a b. omega (arith, falses_set w.table k h e);
}
  where
    keep : (j : ℕ) → get_or w.table j false ≡ true → get_or (set w.table k true) j false ≡ true
    keep j f = elim (cases_eq j k) [ inl z ↦ (rw (z) (get_or-set_same w.table k true false h)) | inr z ↦ get_or-set_other w.table k j true false z ∙ f ]

pub put_progress : (x i : ℕ) (c d : Cell) (flag : Bool) (w : Filling) → place x i c d < length w.table → i < 6 → Progress w (put x i c d flag w)
put_progress x i c d flag w h hi = go (flag && not (at w.table x i c d)) refl
  where
    go : (b : Bool) → (flag && not (at w.table x i c d)) ≡ b → Progress w (cond b (enter (place x i c d) w) w)
    go true e = enter_progress (place x i c d) w h (sym (at_in w.table x i c d hi) ∙ not-true (at w.table x i c d) (and_parts flag (not (at w.table x i c d)) e).1)
    go false e = progress_none w

-- where nothing changed, the flag was an entry already
pub put_settled : (x i : ℕ) (c d : Cell) (flag : Bool) (w : Filling) → (put x i c d flag w).changed ≡ false → flag ≡ true → at w.table x i c d ≡ true
put_settled x i c d true w e f = go (at w.table x i c d) refl e
  where
    go : (b : Bool) → at w.table x i c d ≡ b → (cond (not b) (enter (place x i c d) w) w).changed ≡ false → at w.table x i c d ≡ true
    go true a z = a
    go false a z = cc
put_settled x i c d false w e f = cc

module _ (s : Scheme) (members : ℕ → Bool) where
  pub enter_sound : (x i : ℕ) (c d : Cell) (t : List Bool) → i < 6 → Ends s members x i c d → Sound s members (at t) → Sound s members (at (set t (place x i c d) true))
  enter_sound x i c d t hi ends sound x' i' c' d' e = go (cases_eq (place x' i' c' d') (place x i c d))
    where
      parts : (ltb i' 6 ≡ true) × (get_or (set t (place x i c d) true) (place x' i' c' d') false ≡ true)
      parts = and_parts (ltb i' 6) (get_or (set t (place x i c d) true) (place x' i' c' d') false) e

      go : (place x' i' c' d' ≡ place x i c d) ⊎ (place x' i' c' d' ≡ place x i c d → ⊥) → Ends s members x' i' c' d'
      go (inl same) =
          let q = place_apart x' i' x i c' d' c d (ltb-true i' 6 parts.0) hi same in
          rw (q.0, q.1, q.2, q.3) ends
      go (inr apart) = sound x' i' c' d' (and_from (ltb i' 6) (get_or t (place x' i' c' d') false) parts.0 (sym (get_or-set_other t (place x i c d) (place x' i' c' d') true false apart) ∙ parts.1))

  pub put_sound : (x i : ℕ) (c d : Cell) (flag : Bool) (w : Filling) → i < 6 → (flag ≡ true → Ends s members x i c d) → Sound s members (at w.table) → Sound s members (at (put x i c d flag w).table)
  put_sound x i c d flag w hi ends sound = go (flag && not (at w.table x i c d)) refl
    where
      go : (b : Bool) → (flag && not (at w.table x i c d)) ≡ b → Sound s members (at (cond b (enter (place x i c d) w) w).table)
      go true e = enter_sound x i c d w.table hi (ends (and_parts flag (not (at w.table x i c d)) e).0) sound
      go false e = sound
