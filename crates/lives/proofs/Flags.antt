-- The flags of a table of outcomes: where each stands, how many they are, and what an entry changes.
use Rattle.std.proofs.Common.{◌≡◌, ℕ, zero, suc, ◌+◌, ◌*◌, ◌<◌, Bool, true, false, not, ◌&&◌, ◌||◌, List, [], ◌∷◌, ◌++◌, length, get_or, set, take, drop, replicate, sym, refl, ap, ◌∙◌, append_assoc, arith}
use Rattle.std.specs.List.{flat_map}
use Rattle.std.proofs.lemmas.List.{length-append, length-set, get_or-append-add, get_or_default, replicate-append-replicate}
use Rattle.std.proofs.Math.Bool.{beq, or-false, or-true, or_assoc}
use Rattle.std.proofs.Math.Nat.{zero-add, suc-add, mul-suc}
use Rattle.model.specs.Loose as Loose
use Rattle.model.specs.Loose.{empty, held, broken}
use Rattle.model.specs.Outcomes as Outcomes
use Rattle.model.specs.Outcomes.{code, place, at, has, over, put, put_all, Filling}
use Rattle.model.proofs.Plan.Table.{at_in, code_below}
use Rattle.lives.specs.declared.cells.Cells.{Cells}
use Rattle.lives.specs.declared.table.Section.{Section}
use Rattle.lives.specs.declared.table.Sections.{Sections}
use Rattle.lives.specs.Playing.{clear}
use Rattle.lives.specs.Views.{cells_of, cell_flags, section_flags, symbol_flags}

-- in the flags, those of one set of cells stand from place k on, and with another set there the others stay
record Parted (flags after : List Bool) (r q : Cells) (k : ℕ) : Type 0 where
  pre : List Bool
  post : List Bool
  long : length pre ≡ k
  now : flags ≡ pre ++ (cell_flags r ++ post)
  next : after ≡ pre ++ (cell_flags q ++ post)

set_past : (xs ys : List Bool) (n : ℕ) (v : Bool) → set (xs ++ ys) (length xs + n) v ≡ xs ++ set ys n v
set_past [] ys n v = rw zero-add refl
set_past (x ∷ xs) ys n v = rw suc-add (ap (λ (zs : List Bool). x ∷ zs) (set_past xs ys n v))

-- blocks that are all n long
module _ {X : Type 0} (f : X → List Bool) (n : ℕ) (even : (x : X) → length (f x) ≡ n) where
  pub length_blocks : (xs : List X) → length (flat_map f xs) ≡ n * length xs
  length_blocks [] = omega arith
  length_blocks (x ∷ xs) = length-append (f x) (flat_map f xs) ∙ omega (arith, even x, length_blocks xs, mul-suc n (length xs))

  length_before : (xs : List X) (i : ℕ) → i < length xs → length (flat_map f (take i xs)) ≡ n * i
  length_before xs zero l = omega arith
  length_before [] (suc i) l = absurd (omega arith)
  length_before (x ∷ xs) (suc i) l = length-append (f x) (flat_map f (take i xs)) ∙ omega (arith, even x, length_before xs i (omega arith), mul-suc n i)

  block_at : (xs : List X) (i : ℕ) (x : X) → i < length xs → x ≡ get_or xs i x → flat_map f xs ≡ flat_map f (take i xs) ++ (f x ++ flat_map f (drop (suc i) xs))
  block_at [] i x l e = absurd (omega arith)
  block_at (y ∷ xs) zero x l e = rw e refl
  block_at (y ∷ xs) (suc i) x l e = ap (λ (zs : List Bool). f y ++ zs) (block_at xs i x (omega arith) e) ∙ sym (append_assoc (f y) (flat_map f (take i xs)) (f x ++ flat_map f (drop (suc i) xs)))

  block_set : (xs : List X) (i : ℕ) (x : X) → i < length xs → flat_map f (set xs i x) ≡ flat_map f (take i xs) ++ (f x ++ flat_map f (drop (suc i) xs))
  block_set [] i x l = absurd (omega arith)
  block_set (y ∷ xs) zero x l = refl
  block_set (y ∷ xs) (suc i) x l = ap (λ (zs : List Bool). f y ++ zs) (block_set xs i x (omega arith)) ∙ sym (append_assoc (f y) (flat_map f (take i xs)) (f x ++ flat_map f (drop (suc i) xs)))

  parted_block : (xs : List X) (i : ℕ) (x y : X) (r q : Cells) (k : ℕ) → i < length xs → x ≡ get_or xs i x → Parted (f x) (f y) r q k → Parted (flat_map f xs) (flat_map f (set xs i y)) r q (n * i + k)
  parted_block xs i x y r q k l e p = record {
    pre = flat_map f (take i xs) ++ p.pre;
    post = p.post ++ flat_map f (drop (suc i) xs);
    long = length-append (flat_map f (take i xs)) p.pre ∙ omega (arith, length_before xs i l, p.long);
    now = block_at xs i x l e ∙ ap (λ (zs : List Bool). flat_map f (take i xs) ++ (zs ++ flat_map f (drop (suc i) xs))) p.now ∙ simp append_assoc;
    next = block_set xs i y l ∙ ap (λ (zs : List Bool). flat_map f (take i xs) ++ (zs ++ flat_map f (drop (suc i) xs))) p.next ∙ simp append_assoc;
  }

even_cells : (r : Cells) → length (cell_flags r) ≡ 3
even_cells r = refl

even_section : (q : Section) → length (section_flags q) ≡ 9
even_section q = omega (arith, length_blocks cell_flags 3 even_cells q.reached, q.three)

even_sections : (s : Sections) → length (symbol_flags s) ≡ 54
even_sections s = omega (arith, length_blocks section_flags 9 even_section s.sections, s.six)

pub length_flags : (t : List Sections) → length (flat_map symbol_flags t) ≡ 54 * length t
length_flags t = length_blocks symbol_flags 54 even_sections t

-- a table of symbols that are all blank is blank
pub blank_flags : (s : Sections) (n : ℕ) → symbol_flags s ≡ replicate 54 false → flat_map symbol_flags (replicate n s) ≡ replicate (54 * n) false
blank_flags s zero e = refl
blank_flags s (suc n) e = rw e (ap (λ (zs : List Bool). replicate 54 false ++ zs) (blank_flags s n e) ∙ replicate-append-replicate 54 (54 * n) false ∙ ap (λ (k : ℕ). replicate k false) (omega arith))

-- one entry: where it stands, the flag is v
put_slot : (x i : ℕ) (c d : Loose.Cell) (G : Bool → List Bool) (v flag changed : Bool) → ((u : Bool) → at (G u) x i c d ≡ u) → ((u : Bool) → set (G u) (place x i c d) true ≡ G true) → put x i c d flag (record { table = G v; changed = changed }) ≡ record { table = G (v || flag); changed = changed || (flag && not v) }
put_slot x i c d G v false changed er ew = rw (or-false v, or-false changed) refl
put_slot x i c d G true true changed er ew = rw (er, or-false changed) refl
put_slot x i c d G false true changed er ew = rw (er, ew, or-true changed) refl

-- the flags of a set of cells between others
between : List Bool → List Bool → Bool → Bool → Bool → List Bool
between pre post e h b = pre ++ (e ∷ h ∷ b ∷ post)

module _ (x i : ℕ) (c : Loose.Cell) (hi : i < 6) (pre post : List Bool) (here : (d : Loose.Cell) → place x i c d ≡ length pre + code d) (e h b : Bool) where
  read_flag : (d : Loose.Cell) → at (between pre post e h b) x i c d ≡ has (record { e = e; h = h; b = b }) d
  unfolding between
  read_flag d = at_in (between pre post e h b) x i c d hi ∙ ap (λ (k : ℕ). get_or (between pre post e h b) k false) (here d) ∙ get_or-append-add pre (e ∷ h ∷ b ∷ post) (code d) false ∙ go d
    where
      go : (d : Loose.Cell) → get_or (e ∷ h ∷ b ∷ post) (code d) false ≡ has (record { e = e; h = h; b = b }) d
      go empty = refl
      go held = refl
      go broken = refl

  write_flag : (d : Loose.Cell) → set (between pre post e h b) (place x i c d) true ≡ pre ++ set (e ∷ h ∷ b ∷ post) (code d) true
  unfolding between
  write_flag d = ap (λ (k : ℕ). set (between pre post e h b) k true) (here d) ∙ set_past pre (e ∷ h ∷ b ∷ post) (code d) true

-- what entering a set of cells leaves there, and whether it changes anything
module _ (x i : ℕ) (c : Loose.Cell) (hi : i < 6) (pre post : List Bool) (here : (d : Loose.Cell) → place x i c d ≡ length pre + code d) where
  put_all_between : (e h b : Bool) (to : Outcomes.Cells) (changed : Bool)
      → put_all x i c to (record { table = between pre post e h b; changed = changed }) ≡ record { table = between pre post (e || to.e) (h || to.h) (b || to.b); changed = ((changed || (to.e && not e)) || (to.h && not h)) || (to.b && not b) }
  unfolding between
  put_all_between e h b to changed =
      let T = between pre post in
      ap (λ (w : Filling). put x i c broken to.b (put x i c held to.h w)) (put_slot x i c empty (λ v. T v h b) e to.e changed (λ u. read_flag x i c hi pre post here u h b empty) (λ u. write_flag x i c hi pre post here u h b empty))
      ∙ ap (put x i c broken to.b) (put_slot x i c held (λ v. T (e || to.e) v b) h to.h (changed || (to.e && not e)) (λ u. read_flag x i c hi pre post here (e || to.e) u b held) (λ u. write_flag x i c hi pre post here (e || to.e) u b held))
      ∙ put_slot x i c broken (λ v. T (e || to.e) (h || to.h) v) b to.b ((changed || (to.e && not e)) || (to.h && not h)) (λ u. read_flag x i c hi pre post here (e || to.e) (h || to.h) u broken) (λ u. write_flag x i c hi pre post here (e || to.e) (h || to.h) u broken)

differs : (e f : Bool) → beq (e || f) e ≡ not (f && not e)
differs true true = refl
differs true false = refl
differs false true = refl
differs false false = refl

any_of : (g x y z : Bool) → (g || not (not x && (not y && not z))) ≡ (((g || x) || y) || z)
any_of true x y z = refl
any_of false true y z = refl
any_of false false true z = refl
any_of false false false true = refl
any_of false false false false = refl

entered : (pre post : List Bool) (r q : Cells) (to : Outcomes.Cells) (changed : Bool) → cells_of q ≡ record { e = r.empty || to.e; h = r.held || to.h; b = r.broken || to.b }
    → ◌≡◌ {A = Filling} (record { table = between pre post (r.empty || to.e) (r.held || to.h) (r.broken || to.b); changed = ((changed || (to.e && not r.empty)) || (to.h && not r.held)) || (to.b && not r.broken) }) (record { table = pre ++ (cell_flags q ++ post); changed = changed || not (beq q.empty r.empty && (beq q.held r.held && beq q.broken r.broken)) })
unfolding between
entered pre post r q to changed all =
    let qe : q.empty ≡ (r.empty || to.e) = ap (λ (f : Outcomes.Cells). f.e) all in
    let qh : q.held ≡ (r.held || to.h) = ap (λ (f : Outcomes.Cells). f.h) all in
    let qb : q.broken ≡ (r.broken || to.b) = ap (λ (f : Outcomes.Cells). f.b) all in
    rw (qe, qh, qb, differs r.empty to.e, differs r.held to.h, differs r.broken to.b, any_of changed (to.e && not r.empty) (to.h && not r.held) (to.b && not r.broken)) refl

-- two reads of one place
pub same_read : {X : Type 0} (xs ys : List X) (i : ℕ) (x y : X) → xs ≡ ys → i < length ys → x ≡ get_or xs i x → y ≡ get_or ys i y → x ≡ y
same_read xs ys i x y e l ex ey = ex ∙ ap (λ zs. get_or zs i x) e ∙ get_or_default ys i x y l ∙ sym ey

pub read_same : (w : Section) (c : Loose.Cell) (d : Cells) → get_or w.reached (code c) d ≡ get_or w.reached (code c) (get_or w.reached (code c) d)
read_same w c d = get_or_default w.reached (code c) d (get_or w.reached (code c) d) (omega (arith, w.three, code_below c))

-- the section of a symbol, and the cells that it comes to from c
module _ (t : List Sections) (x i : ℕ) (c : Loose.Cell) (s : Sections) (w : Section) (r : Cells) (hx : x < length t) (hi : i < 6) (sx : s ≡ get_or t x s) (wi : w ≡ get_or s.sections i w) (rc : r ≡ get_or w.reached (code c) r) where
  parted : (s' : Sections) (w' : Section) (q : Cells) → s'.sections ≡ set s.sections i w' → w'.reached ≡ set w.reached (code c) q → Parted (flat_map symbol_flags t) (flat_map symbol_flags (set t x s')) r q (54 * x + (9 * i + (3 * code c + 0)))
  parted s' w' q es ew =
      let cells : Parted (cell_flags r) (cell_flags q) r q 0 = record { pre = []; post = []; long = refl; now = refl; next = refl } in
      let below : code c < length w.reached = omega (arith, w.three, code_below c) in
      let one = parted_block cell_flags 3 even_cells w.reached (code c) r q r q 0 below rc cells in
      let two = parted_block section_flags 9 even_section s.sections i w w' r q (3 * code c + 0) (omega (arith, s.six)) wi (rw ew one) in
      parted_block symbol_flags 54 even_sections t x s s' r q (9 * i + (3 * code c + 0)) hx sx (rw es two)

  place_is : (pre : List Bool) → length pre ≡ 54 * x + (9 * i + (3 * code c + 0)) → (d : Loose.Cell) → place x i c d ≡ length pre + code d
  place_is pre l d = omega (arith, l)

  pub read_at : (d : Loose.Cell) → at (flat_map symbol_flags t) x i c d ≡ has (cells_of r) d
  unfolding between
  read_at d =
      let w' : Section = record { reached = set w.reached (code c) r; three = length-set w.reached (code c) r ∙ w.three } in
      let s' : Sections = record { sections = set s.sections i w'; six = length-set s.sections i w' ∙ s.six } in
      let p = parted s' w' r refl refl in
      ap (λ (fs : List Bool). at fs x i c d) p.now ∙ read_flag x i c hi p.pre p.post (place_is p.pre p.long) r.empty r.held r.broken d

  pub put_all_at : (s' : Sections) (w' : Section) (q : Cells) (to : Outcomes.Cells) (changed : Bool) → s'.sections ≡ set s.sections i w' → w'.reached ≡ set w.reached (code c) q → cells_of q ≡ record { e = r.empty || to.e; h = r.held || to.h; b = r.broken || to.b }
      → put_all x i c to (record { table = flat_map symbol_flags t; changed = changed }) ≡ record { table = flat_map symbol_flags (set t x s'); changed = changed || not (beq q.empty r.empty && (beq q.held r.held && beq q.broken r.broken)) }
  unfolding between
  put_all_at s' w' q to changed es ew all =
      let p = parted s' w' q es ew in
      ap (λ (fs : List Bool). put_all x i c to (record { table = fs; changed = changed })) p.now
      ∙ put_all_between x i c hi p.pre p.post (place_is p.pre p.long) r.empty r.held r.broken to changed
      ∙ entered p.pre p.post r q to changed all
      ∙ ap (λ (fs : List Bool). record { table = fs; changed = changed || not (beq q.empty r.empty && (beq q.held r.held && beq q.broken r.broken)) }) (sym p.next)

-- no cell but the empty one comes from the empty cell, by the first section of symbol 0
pub clear_at : (t : List Sections) (s : Sections) (w : Section) (k : ℕ) (d : Cells) → 0 < length t → s ≡ get_or t 0 s → w ≡ get_or s.sections 1 w → k ≡ 0
    → clear (flat_map symbol_flags t) ≡ (not (get_or (get_or s.sections 1 w).reached k d).held && not (get_or (get_or s.sections 1 w).reached k d).broken)
clear_at t s w k d present sx wi first =
    let read = read_at t 0 1 empty s w (get_or w.reached 0 d) present (omega arith) sx wi (read_same w empty d) in
    rw (← wi, first, read held, read broken) refl

-- the cells that a walk comes to are those that it comes to from each cell of f
pub over_each : (out : Outcomes.Outcomes) (x i : ℕ) (f p q r : Outcomes.Cells) (one two three some all : Cells) → ((d : Loose.Cell) → out x i empty d ≡ has p d) → ((d : Loose.Cell) → out x i held d ≡ has q d) → ((d : Loose.Cell) → out x i broken d ≡ has r d)
    → cells_of one ≡ record { e = f.e && p.e; h = f.e && p.h; b = f.e && p.b } → cells_of two ≡ record { e = f.h && q.e; h = f.h && q.h; b = f.h && q.b } → cells_of three ≡ record { e = f.b && r.e; h = f.b && r.h; b = f.b && r.b }
    → cells_of some ≡ record { e = one.empty || two.empty; h = one.held || two.held; b = one.broken || two.broken } → cells_of all ≡ record { e = some.empty || three.empty; h = some.held || three.held; b = some.broken || three.broken }
    → cells_of all ≡ over out x i f
over_each out x i f p q r one two three some all from_empty from_held from_broken e1 e2 e3 es ea =
    let e = λ (z : Outcomes.Cells). z.e in
    let h = λ (z : Outcomes.Cells). z.h in
    let b = λ (z : Outcomes.Cells). z.b in
    ea ∙ rw (ap e es, ap h es, ap b es, ap e e1, ap h e1, ap b e1, ap e e2, ap h e2, ap b e2, ap e e3, ap h e3, ap b e3, from_empty empty, from_empty held, from_empty broken, from_held empty, from_held held, from_held broken, from_broken empty, from_broken held, from_broken broken) (simp or_assoc)
