-- A round keeps the table sound and adds entries until it is closed; so the rounds decide whether lives alternate. Assumes nothing.
use Rattle.std.proofs.Common.{◌≡◌, ℕ, zero, suc, ◌+◌, ◌*◌, ◌<◌, ◌≤◌, Bool, true, false, cond, not, ltb, ◌↔◌, List, [], ◌∷◌, length, get_or, drop, replicate, sym, refl, ap, ◌∙◌, subst, arith}
use mathlib.Core.Option.{some}
use lib.ListN.{get_elem?, length-replicate}
use Rattle.std.proofs.lemmas.Bool.{true≢false, and_parts, and_from, not-true, not_from_false}
use Rattle.model.specs.Lists.{Has}
use Rattle.model.specs.Scheme.{Step, eval, visit, leave, Production, Scheme, symbol_at}
use Rattle.model.specs.Loose.{Cell, empty, held, broken, Starts, first, after, Alternate}
use Rattle.model.specs.Formed.{Formed}
use Rattle.model.specs.Outcomes.{Cells, has, Outcomes, by_eval, by_visit, opening, run, Sound, Within, Closed, place, at, Filling, put, put_all, through, pass, passes, three, round, rounds, blank, outcomes, decide}
use Rattle.model.proofs.Plan.Flags.{nowhere-has, has-drop, drop-next}
use Rattle.model.proofs.Plan.Witness.{Found, found_leave, found_eval, found_visit, Ends, picked, alternate_clear, clear_alternate}
use Rattle.model.proofs.Plan.Table.{place_below, falses, Progress, progress_none, progress_both, put_progress, put_settled, put_sound}
use Rattle.model.proofs.Common.Form.{left-symbol, few_leaves}

abbrev pub Sized : Scheme → List Bool → Type 0
Sized s t = length t ≡ 54 * length s.visits

abbrev pub Few : List Step → Type 0
Few ts = (k l : ℕ) → Has ts k (leave l) → l < 5

below-sized : (n : ℕ) (t : List Bool) (k : ℕ) → k < n → length t ≡ n → k < length t
below-sized n t k h e = omega arith

-- the three entries of one section and one start
module _ (x i n : ℕ) (c : Cell) (f : Cells) (w : Filling) (sized : length w.table ≡ 54 * n) (hx : x < n) (hi : i < 6) where
  w₁ : Filling
  w₁ = put x i c empty f.e w

  w₂ : Filling
  unfolding w₁
  w₂ = put x i c held f.h w₁

  first_put : Progress w w₁
  unfolding w₁
  first_put = put_progress x i c empty f.e w (below-sized (54 * n) w.table (place x i c empty) (place_below n x i c empty hx hi) sized) hi

  second_put : Progress w₁ w₂
  unfolding w₂
  second_put = put_progress x i c held f.h w₁ (below-sized (54 * n) w₁.table (place x i c held) (place_below n x i c held hx hi) (first_put.same_length ∙ sized)) hi

  third_put : Progress w₂ (put_all x i c f w)
  unfolding w₂
  third_put = put_progress x i c broken f.b w₂ (below-sized (54 * n) w₂.table (place x i c broken) (place_below n x i c broken hx hi) (second_put.same_length ∙ first_put.same_length ∙ sized)) hi

  pub put_all_progress : Progress w (put_all x i c f w)
  put_all_progress = progress_both w w₂ (put_all x i c f w) (progress_both w w₁ w₂ first_put second_put) third_put

  pub put_all_settled : (put_all x i c f w).changed ≡ false → Within (at w.table) x i c f
  unfolding w₂
  put_all_settled e d hd = go d hd
    where
      two : put_all x i c f w ≡ w₂
      two = third_put.settled e

      e₂ : w₂.changed ≡ false
      e₂ = ap (λ (z : Filling). z.changed) (sym two) ∙ e

      one : w₂ ≡ w₁
      one = second_put.settled e₂

      e₁ : w₁.changed ≡ false
      e₁ = ap (λ (z : Filling). z.changed) (sym one) ∙ e₂

      none_yet : w₁ ≡ w
      none_yet = first_put.settled e₁

      go : (d : Cell) → has f d ≡ true → at w.table x i c d ≡ true
      go empty h = put_settled x i c empty f.e w e₁ h
      go held h = subst (λ (z : Filling). at z.table x i c held ≡ true) none_yet (put_settled x i c held f.h w₁ e₂ h)
      go broken h = subst (λ (z : Filling). at z.table x i c broken ≡ true) (one ∙ none_yet) (put_settled x i c broken f.b w₂ e h)

pub put_all_sound : (s : Scheme) (members : ℕ → Bool) (x i : ℕ) (c : Cell) (f : Cells) (w : Filling) → i < 6 → ((d : Cell) → has f d ≡ true → Ends s members x i c d) → Sound s members (at w.table) → Sound s members (at (put_all x i c f w).table)
put_all_sound s members x i c f w hi ends sound =
    put_sound s members x i c broken f.b (put x i c held f.h (put x i c empty f.e w)) hi (ends broken)
    (put_sound s members x i c held f.h (put x i c empty f.e w) hi (ends held)
    (put_sound s members x i c empty f.e w hi (ends empty) sound))

same-production : (p q : Production) → some p ≡ some q → p ≡ q
same-production p q e = cc

falses_least : (t : List Bool) → falses t ≤ length t
falses_least [] = omega arith
falses_least (true ∷ t) = omega (arith, falses_least t)
falses_least (false ∷ t) = omega (arith, falses_least t)

pub same-leave : (m l : ℕ) → some (leave m) ≡ some (leave l) → m ≡ l
same-leave m l e = cc

pub get_or_blank : (n k : ℕ) → get_or (replicate n false) k false ≡ false
get_or_blank zero k = refl
get_or_blank (suc n) zero = refl
get_or_blank (suc n) (suc k) = get_or_blank n k

pub blank_sound : (s : Scheme) (members : ℕ → Bool) (n : ℕ) → Sound s members (at (replicate n false))
blank_sound s members n x i c d e =
    let read = and_parts (ltb i 6) (get_or (replicate n false) (place x i c d) false) e in
    let unread = get_or_blank n (place x i c d) in
    absurd (true≢false (sym read.1 ∙ unread))

module _ (s : Scheme) (members : ℕ → Bool) (p : Production) (c : Cell) where
  -- what is left to show of the sections that start further on
  abbrev pub Later : Outcomes → ℕ → List Step → Type 0
  Later out t [] = Unit {0}
  Later out t (eval n ∷ ts) = Later out (suc t) ts
  Later out t (visit k j ∷ ts) = Later out (suc t) ts
  Later out t (leave l ∷ ts) = Within out p.left (suc l) c (run s members out p (suc t) ts (opening s members p (suc l) c)) × Later out (suc t) ts

  moved : (out : Outcomes) (l a b : ℕ) (ts : List Step) → a ≡ b → Within out p.left (suc l) c (run s members out p a ts (opening s members p (suc l) c)) → Within out p.left (suc l) c (run s members out p b ts (opening s members p (suc l) c))
  moved out l a b ts e h = subst (λ (m : ℕ). Within out p.left (suc l) c (run s members out p m ts (opening s members p (suc l) c))) e h

  pub later_at : (out : Outcomes) (ts : List Step) (t k l : ℕ) → Later out t ts → Has ts k (leave l) → Within out p.left (suc l) c (run s members out p (suc (t + k)) (drop (suc k) ts) (opening s members p (suc l) c))
  later_at out [] t k l later h = absurd (let z : ◌≡◌ {A = ℕ} 0 1 = cc in omega arith)
  later_at out (eval n ∷ ts) t zero l later h = absurd (let z : ◌≡◌ {A = ℕ} 0 1 = cc in omega arith)
  later_at out (eval n ∷ ts) t (suc k) l later h = moved out l (suc (suc t + k)) (suc (t + suc k)) (drop (suc k) ts) (omega arith) (later_at out ts (suc t) k l later h)
  later_at out (visit m j ∷ ts) t zero l later h = absurd (let z : ◌≡◌ {A = ℕ} 0 1 = cc in omega arith)
  later_at out (visit m j ∷ ts) t (suc k) l later h = moved out l (suc (suc t + k)) (suc (t + suc k)) (drop (suc k) ts) (omega arith) (later_at out ts (suc t) k l later h)
  later_at out (leave m ∷ ts) t zero l later h = moved out l (suc t) (suc (t + zero)) ts (omega arith) (subst (λ (q : ℕ). Within out p.left (suc q) c (run s members out p (suc t) ts (opening s members p (suc q) c))) (same-leave m l h) later.0)
  later_at out (leave m ∷ ts) t (suc k) l later h = moved out l (suc (suc t + k)) (suc (t + suc k)) (drop (suc k) ts) (omega arith) (later_at out ts (suc t) k l later.1 h)

  pub through_progress : p.left < length s.visits → (ts : List Step) (t i : ℕ) (f : Cells) (w : Filling) → Sized s w.table → i < 6 → Few ts → Progress w (through s members p c i t ts f w)
  through_progress hx [] t i f w sized hi few = progress_none w
  through_progress hx (eval n ∷ ts) t i f w sized hi few = through_progress hx ts (suc t) i (by_eval s members p t (get_elem? p.rules n) f) w sized hi (λ k l h. few (suc k) l h)
  through_progress hx (visit k j ∷ ts) t i f w sized hi few = through_progress hx ts (suc t) i (by_visit s members (at w.table) p k j (symbol_at p k) f) w sized hi (λ k l h. few (suc k) l h)
  through_progress hx (leave l ∷ ts) t i f w sized hi few =
      let here = put_all_progress p.left i (length s.visits) c f w sized hx hi in
      let v = put_all p.left i c f w in
      let hl = few 0 l refl in
      progress_both w v (through s members p c (suc l) (suc t) ts (opening s members p (suc l) c) v) here
      (through_progress hx ts (suc t) (suc l) (opening s members p (suc l) c) v (here.same_length ∙ sized) (omega arith) (λ k l h. few (suc k) l h))

  pub through_sound : (n : ℕ) → Has s.productions n p → (ts : List Step) (t i : ℕ) (f : Cells) (w : Filling) → drop t p.steps ≡ ts → i < 6 → Few ts → ((d : Cell) → Found s members p t f d → Ends s members p.left i c d) → Sound s members (at w.table) → Sound s members (at (through s members p c i t ts f w).table)
  through_sound n hp [] t i f w here hi few begun sound = sound
  through_sound n hp (eval m ∷ ts) t i f w here hi few begun sound =
      through_sound n hp ts (suc t) i (by_eval s members p t (get_elem? p.rules m) f) w (drop-next p.steps t (eval m) ts here) hi (λ k l h. few (suc k) l h)
      (λ d e. begun d (found_eval s members p t m f d (get_elem? p.rules m) (has-drop p.steps t (eval m) ts here) refl e)) sound
  through_sound n hp (visit k j ∷ ts) t i f w here hi few begun sound =
      through_sound n hp ts (suc t) i (by_visit s members (at w.table) p k j (symbol_at p k) f) w (drop-next p.steps t (visit k j) ts here) hi (λ k l h. few (suc k) l h)
      (λ d e. begun d (found_visit s members p (at w.table) sound t k j f d (symbol_at p k) (has-drop p.steps t (visit k j) ts here) refl e)) sound
  through_sound n hp (leave l ∷ ts) t i f w here hi few begun sound =
      let h = has-drop p.steps t (leave l) ts here in
      let hl = few 0 l refl in
      through_sound n hp ts (suc t) (suc l) (opening s members p (suc l) c) (put_all p.left i c f w) (drop-next p.steps t (leave l) ts here) (omega arith) (λ k l h. few (suc k) l h)
      (λ d e. picked s members n (suc l) (suc t) p c d hp (after l t h) e)
      (put_all_sound s members p.left i c f w hi (λ d e. begun d (found_leave s members p t l f d h e)) sound)

  pub through_closed : p.left < length s.visits → (ts : List Step) (t i : ℕ) (f : Cells) (w : Filling) → Sized s w.table → i < 6 → Few ts → (through s members p c i t ts f w).changed ≡ false → Within (at w.table) p.left i c (run s members (at w.table) p t ts f) × Later (at w.table) t ts
  through_closed hx [] t i f w sized hi few e = (λ d h. absurd (nowhere-has d h), tt)
  through_closed hx (eval n ∷ ts) t i f w sized hi few e = through_closed hx ts (suc t) i (by_eval s members p t (get_elem? p.rules n) f) w sized hi (λ k l h. few (suc k) l h) e
  through_closed hx (visit k j ∷ ts) t i f w sized hi few e = through_closed hx ts (suc t) i (by_visit s members (at w.table) p k j (symbol_at p k) f) w sized hi (λ k l h. few (suc k) l h) e
  through_closed hx (leave l ∷ ts) t i f w sized hi few e =
      let v = put_all p.left i c f w in
      let hl = few 0 l refl in
      let here = put_all_progress p.left i (length s.visits) c f w sized hx hi in
      let sized' = here.same_length ∙ sized in
      let few' : Few ts = λ k l h. few (suc k) l h in
      let hl' : suc l < 6 = omega arith in
      let rest = through_progress hx ts (suc t) (suc l) (opening s members p (suc l) c) v sized' hl' few' in
      let later = through_closed hx ts (suc t) (suc l) (opening s members p (suc l) c) v sized' hl' few' e in
      let quiet : v.changed ≡ false = ap (λ (z : Filling). z.changed) (sym (rest.settled e)) ∙ e in
      let same = here.settled quiet in (
        put_all_settled p.left i (length s.visits) c f w sized hx hi quiet,
        subst (λ (z : Filling). Within (at z.table) p.left (suc l) c (run s members (at z.table) p (suc t) ts (opening s members p (suc l) c)) × Later (at z.table) (suc t) ts) same later,
      )

  -- one production from one start
  module _ (hx : p.left < length s.visits) (few : Few p.steps) (w : Filling) where
    pub pass_progress : Sized s w.table → Progress w (pass s members p c w)
    pass_progress sized = through_progress hx p.steps 0 1 (opening s members p 1 c) w sized (omega arith) few

    pub pass_sound : (n : ℕ) → Has s.productions n p → Sound s members (at w.table) → Sound s members (at (pass s members p c w).table)
    pass_sound n hp sound = through_sound n hp p.steps 0 1 (opening s members p 1 c) w refl (omega arith) few (λ d e. picked s members n 1 0 p c d hp first e) sound

    pub pass_closed : Sized s w.table → (pass s members p c w).changed ≡ false → (i t : ℕ) → Starts p i t → Within (at w.table) p.left i c (run s members (at w.table) p t (drop t p.steps) (opening s members p i c))
    pass_closed sized e i t st = go st
      where
        both : Within (at w.table) p.left 1 c (run s members (at w.table) p 0 p.steps (opening s members p 1 c)) × Later (at w.table) 0 p.steps
        both = through_closed hx p.steps 0 1 (opening s members p 1 c) w sized (omega arith) few e

        go : {i t : ℕ} → Starts p i t → Within (at w.table) p.left i c (run s members (at w.table) p t (drop t p.steps) (opening s members p i c))
        go first = both.0
        go (after l u h) = moved (at w.table) l (suc (0 + u)) (suc u) (drop (suc u) p.steps) (omega arith) (later_at (at w.table) p.steps 0 u l both.1 h)

module _ (s : Scheme) (members : ℕ → Bool) where
  -- no section of p leads from c further than its entries say
  abbrev pub ClosedAt : Cell → Outcomes → Production → Type 0
  ClosedAt c out p = (i t : ℕ) → Starts p i t → Within out p.left i c (run s members out p t (drop t p.steps) (opening s members p i c))

  module _ (formed : Formed s) where
    -- productions of the scheme
    abbrev pub Among : List Production → Type 0
    Among ps = (k : ℕ) (p : Production) → Has ps k p → (n : ℕ) × Has s.productions n p

    left_of : (p : Production) (ps : List Production) → Among (p ∷ ps) → p.left < length s.visits
    left_of p ps among = let n = among 0 p refl in left-symbol formed n.0 p n.1

    few_of : (p : Production) (ps : List Production) → Among (p ∷ ps) → Few p.steps
    few_of p ps among k l h = let n = among 0 p refl in few_leaves formed n.0 k l p n.1 h

    pub passes_progress : (c : Cell) (ps : List Production) (w : Filling) → Among ps → Sized s w.table → Progress w (passes s members c ps w)
    passes_progress c [] w among sized = progress_none w
    passes_progress c (p ∷ ps) w among sized =
        let here = pass_progress s members p c (left_of p ps among) (few_of p ps among) w sized in
        let v = pass s members p c w in
        progress_both w v (passes s members c ps v) here
        (passes_progress c ps v (λ k q h. among (suc k) q h) (here.same_length ∙ sized))

    pub passes_sound : (c : Cell) (ps : List Production) (w : Filling) → Among ps → Sound s members (at w.table) → Sound s members (at (passes s members c ps w).table)
    passes_sound c [] w among sound = sound
    passes_sound c (p ∷ ps) w among sound =
        let n = among 0 p refl in
        passes_sound c ps (pass s members p c w) (λ k q h. among (suc k) q h) (pass_sound s members p c (left_of p ps among) (few_of p ps among) w n.0 n.1 sound)

    -- where the rest of the passes changed nothing, the first production's did not
    quiet_first : (c : Cell) (p : Production) (ps : List Production) (w : Filling) → Among (p ∷ ps) → Sized s w.table → (passes s members c ps (pass s members p c w)).changed ≡ false → (pass s members p c w).changed ≡ false
    quiet_first c p ps w among sized e =
        let here = pass_progress s members p c (left_of p ps among) (few_of p ps among) w sized in
        let rest = passes_progress c ps (pass s members p c w) (λ k q h. among (suc k) q h) (here.same_length ∙ sized) in
        ap (λ (z : Filling). z.changed) (sym (rest.settled e)) ∙ e

    pub passes_closed : (c : Cell) (ps : List Production) (w : Filling) → Among ps → Sized s w.table → (passes s members c ps w).changed ≡ false → (k : ℕ) (q : Production) → Has ps k q → ClosedAt c (at w.table) q
    passes_closed c [] w among sized e k q h = absurd (let z : ◌≡◌ {A = ℕ} 0 1 = cc in omega arith)
    passes_closed c (p ∷ ps) w among sized e zero q h =
        subst (ClosedAt c (at w.table)) (same-production p q h) (pass_closed s members p c (left_of p ps among) (few_of p ps among) w sized (quiet_first c p ps w among sized e))
    passes_closed c (p ∷ ps) w among sized e (suc k) q h =
        let here = pass_progress s members p c (left_of p ps among) (few_of p ps among) w sized in
        subst (λ (z : Filling). ClosedAt c (at z.table) q) (here.settled (quiet_first c p ps w among sized e))
        (passes_closed c ps (pass s members p c w) (λ k q h. among (suc k) q h) (here.same_length ∙ sized) e k q h)

    all_among : Among s.productions
    all_among k p h = (k, h)

    pub three_sound : (w : Filling) → Sound s members (at w.table) → Sound s members (at (three s members w).table)
    three_sound w sound =
        passes_sound broken s.productions (passes s members held s.productions (passes s members empty s.productions w)) all_among
        (passes_sound held s.productions (passes s members empty s.productions w) all_among
        (passes_sound empty s.productions w all_among sound))

    module _ (w : Filling) (sized : Sized s w.table) where
      v₁ : Filling
      v₁ = passes s members empty s.productions w

      v₂ : Filling
      unfolding v₁
      v₂ = passes s members held s.productions v₁

      first_pass : Progress w v₁
      unfolding v₁
      first_pass = passes_progress empty s.productions w all_among sized

      second_pass : Progress v₁ v₂
      unfolding v₂
      second_pass = passes_progress held s.productions v₁ all_among (first_pass.same_length ∙ sized)

      third_pass : Progress v₂ (three s members w)
      unfolding v₂
      third_pass = passes_progress broken s.productions v₂ all_among (second_pass.same_length ∙ first_pass.same_length ∙ sized)

      pub three_progress : Progress w (three s members w)
      three_progress = progress_both w v₂ (three s members w) (progress_both w v₁ v₂ first_pass second_pass) third_pass

      pub three_closed : (three s members w).changed ≡ false → (c : Cell) (n : ℕ) (p : Production) → Has s.productions n p → ClosedAt c (at w.table) p
      unfolding v₂
      three_closed e c n p hp = go c
        where
          two : three s members w ≡ v₂
          two = third_pass.settled e

          e₂ : v₂.changed ≡ false
          e₂ = ap (λ (z : Filling). z.changed) (sym two) ∙ e

          one : v₂ ≡ v₁
          one = second_pass.settled e₂

          e₁ : v₁.changed ≡ false
          e₁ = ap (λ (z : Filling). z.changed) (sym one) ∙ e₂

          none_yet : v₁ ≡ w
          none_yet = first_pass.settled e₁

          go : (c : Cell) → ClosedAt c (at w.table) p
          go empty = passes_closed empty s.productions w all_among sized e₁ n p hp
          go held = subst (λ (z : Filling). ClosedAt held (at z.table) p) none_yet (passes_closed held s.productions v₁ all_among (first_pass.same_length ∙ sized) e₂ n p hp)
          go broken = subst (λ (z : Filling). ClosedAt broken (at z.table) p) (one ∙ none_yet) (passes_closed broken s.productions v₂ all_among (second_pass.same_length ∙ first_pass.same_length ∙ sized) e n p hp)

    pub round_progress : (t : List Bool) → Sized s t → Progress (record { table = t; changed = false }) (round s members t)
    round_progress t sized = three_progress (record { table = t; changed = false }) sized

    pub round_sound : (t : List Bool) → Sound s members (at t) → Sound s members (at (round s members t).table)
    round_sound t sound = three_sound (record { table = t; changed = false }) sound

    pub round_closed : (t : List Bool) → Sized s t → (round s members t).changed ≡ false → Closed s members (at t)
    round_closed t sized e n i u p c hp st = three_closed (record { table = t; changed = false }) sized e c n p hp i u st

    pub round_falls : (t : List Bool) → Sized s t → (round s members t).changed ≡ true → falses (round s members t).table < falses t
    round_falls t sized e = (round_progress t sized).falls refl e

    -- a turn of the loop that repeats rounds while the last one changed something: what it keeps, what its end gives, and that its measure falls
    pub round_turn : (t u : List Bool) (b : Bool) → Sized s t → Sound s members (at t) → record { table = u; changed = b } ≡ round s members t → Sized s u × Sound s members (at u) × (b ≡ false → Closed s members (at u)) × (falses u + cond b 1 0 < falses t + 1)
    round_turn t u b sized sound e = (same ∙ (round_progress t sized).same_length ∙ sized, subst (λ (z : Filling). Sound s members (at z.table)) (sym e) (round_sound t sound), closed, less b (ap (λ (z : Filling). z.changed) (sym e)))
      where
        same : length u ≡ length (round s members t).table
        same = ap (λ (z : Filling). length z.table) e

        closed : b ≡ false → Closed s members (at u)
        closed quiet =
            let still : (round s members t).changed ≡ false = ap (λ (z : Filling). z.changed) (sym e) ∙ quiet in
            subst (λ (z : Filling). Closed s members (at z.table)) (sym (e ∙ (round_progress t sized).settled still)) (round_closed t sized still)

        less : (b : Bool) → (round s members t).changed ≡ b → falses u + cond b 1 0 < falses t + 1
        less true change = omega (arith, round_falls t sized change, ap (λ (z : Filling). falses z.table) e)
        less false still = omega (arith, (round_progress t sized).no_more, ap (λ (z : Filling). falses z.table) e)

    pub rounds-end : (n : ℕ) (t : List Bool) → Sized s t → falses t < n → Sound s members (at t) → Sound s members (at (rounds s members n t)) × Closed s members (at (rounds s members n t))
    rounds-end zero t sized h sound = absurd (omega arith)
    rounds-end (suc n) t sized h sound = go (round s members t).changed refl (λ e. rounds-end n (round s members t).table ((round_progress t sized).same_length ∙ sized) (omega (arith, round_falls t sized e)) (round_sound t sound))
      where
        Done : List Bool → Type 0
        Done t = Sound s members (at t) × Closed s members (at t)

        go : (b : Bool) → (round s members t).changed ≡ b → ((round s members t).changed ≡ true → Done (rounds s members n (round s members t).table)) → Done (cond b (rounds s members n (round s members t).table) (round s members t).table)
        go true e more = more e
        go false e more = subst Done (sym (ap (λ (z : Filling). z.table) ((round_progress t sized).settled e))) (sound, round_closed t sized e)

    pub outcomes-end : Sound s members (at (outcomes s members)) × Closed s members (at (outcomes s members))
    outcomes-end = rounds-end (suc (54 * length s.visits)) (blank s members) (length-replicate (54 * length s.visits) false) (omega (arith, falses_least (blank s members), length-replicate (54 * length s.visits) false)) (blank_sound s members (54 * length s.visits))

    pub decide_exactly : (decide s members ≡ true) ↔ Alternate s members
    decide_exactly = (there, back)
      where
        out : Outcomes
        out = at (outcomes s members)

        there : decide s members ≡ true → Alternate s members
        there e =
            let both = and_parts (not (out 0 1 empty held)) (not (out 0 1 empty broken)) e in
            clear_alternate s members out outcomes-end.1 (not-true (out 0 1 empty held) both.0, not-true (out 0 1 empty broken) both.1)

        back : Alternate s members → decide s members ≡ true
        back alternate =
            let clear = alternate_clear s members out outcomes-end.0 alternate in
            and_from (not (out 0 1 empty held)) (not (out 0 1 empty broken)) (not_from_false (out 0 1 empty held) clear.0) (not_from_false (out 0 1 empty broken) clear.1)
