-- The least and the greatest section of a symbol's productions that touch an attribute.
use Rattle.std.proofs.Common.{◌≡◌, ℕ, zero, suc, ◌+◌, ◌<◌, ◌≤◌, min, max, Bool, true, false, cond, T, eqb, List, [], ◌∷◌, length, refl, ap, subst, inl, inr, arith, eqb→eq}
use Rattle.model.specs.Lists.{Has, places}
use Rattle.model.specs.Scheme.{Step, Production}
use Rattle.model.specs.Sequences.{section, uses, defines}
use Rattle.model.specs.Spans.{last_section, first_section, latest, earliest, own}
use Rattle.model.proofs.Spans.Lists.{Mem, places_mem, mem_places}
use Rattle.model.proofs.Common.ListFacts.{true_of, of_true, has-below}
use Rattle.model.proofs.Common.Basics.{eq→eqb}

module _ (p : Production) where
  latest_start : (ts : List ℕ) (n : ℕ) → n ≤ latest p n ts
  latest_start [] n = omega arith
  latest_start (t ∷ ts) n = let r = latest_start ts (max n (section p t)) in omega arith

  latest_mem : (ts : List ℕ) (n t : ℕ) → Mem t ts → section p t ≤ latest p n ts
  latest_mem [] n t m = absurd m
  latest_mem (u ∷ ts) n t (inl e) = let r = latest_start ts (max n (section p u)) in let g : section p t ≡ section p u = ap (section p) e in omega arith
  latest_mem (u ∷ ts) n t (inr m) = latest_mem ts (max n (section p u)) t m

  latest-within : (v : ℕ) (ts : List ℕ) (n : ℕ) → n ≤ v → ((t : ℕ) → Mem t ts → section p t ≤ v) → latest p n ts ≤ v
  latest-within v [] n h g = h
  latest-within v (t ∷ ts) n h g = latest-within v ts (max n (section p t)) (let a = g t (inl refl) in omega arith) (λ u m. g u (inr m))

  earliest_start : (ts : List ℕ) (n : ℕ) → earliest p n ts ≤ n
  earliest_start [] n = omega arith
  earliest_start (t ∷ ts) n = let r = earliest_start ts (min n (section p t)) in omega arith

  earliest_mem : (ts : List ℕ) (n t : ℕ) → Mem t ts → earliest p n ts ≤ section p t
  earliest_mem [] n t m = absurd m
  earliest_mem (u ∷ ts) n t (inl e) = let r = earliest_start ts (min n (section p u)) in let g : section p t ≡ section p u = ap (section p) e in omega arith
  earliest_mem (u ∷ ts) n t (inr m) = earliest_mem ts (min n (section p u)) t m

  earliest_positive : (ts : List ℕ) (n : ℕ) → 1 ≤ n → 1 ≤ earliest p n ts
  earliest_positive [] n h = h
  earliest_positive (t ∷ ts) n h = earliest_positive ts (min n (section p t)) (omega arith)

module _ (x a : ℕ) where
  pub last_section_start : (ps : List Production) (n : ℕ) → n ≤ last_section x a n ps
  last_section_start [] n = omega arith
  last_section_start (p ∷ ps) n = go (eqb p.left x) (last_section_start ps)
    where
      m : ℕ
      m = latest p n (places (λ st. uses p st (own a)) 0 p.steps)

      go : (b : Bool) → ((i : ℕ) → i ≤ last_section x a i ps) → n ≤ last_section x a (cond b m n) ps
      go true r = let h = latest_start p (places (λ st. uses p st (own a)) 0 p.steps) n in let g = r m in omega arith
      go false r = r n

  last_here : (p : Production) (ps : List Production) (n u : ℕ) (st : Step) → p.left ≡ x → Has p.steps u st → T (uses p st (own a)) → section p u ≤ last_section x a n (p ∷ ps)
  last_here p ps n u st e k l =
      let f : Step → Bool = λ st. uses p st (own a) in
      let m : ℕ = latest p n (places f 0 p.steps) in
      let i : 0 + u ≡ u = omega arith in
      let h = latest_mem p (places f 0 p.steps) n u (subst (λ (v : ℕ). Mem v (places f 0 p.steps)) i (places_mem f p.steps 0 u st k l)) in
      let g = last_section_start ps m in
      rw (true_of (eqb p.left x) (eq→eqb p.left x e)) (omega arith)

  -- a section that uses the attribute is no greater
  pub last_section-uses : (ps : List Production) (n i u : ℕ) (p : Production) (st : Step) → Has ps i p → p.left ≡ x → Has p.steps u st → T (uses p st (own a)) → section p u ≤ last_section x a n ps
  last_section-uses [] n i u p st h e k l = let z : ◌≡◌ {A = ℕ} 0 1 = cc in absurd (omega arith)
  last_section-uses (q ∷ ps) n zero u p st h e k l = let g : p ≡ q = cc in subst (λ (z : Production). section p u ≤ last_section x a n (z ∷ ps)) g (last_here p ps n u st e k l)
  last_section-uses (q ∷ ps) n (suc i) u p st h e k l = last_section-uses ps (cond (eqb q.left x) (latest q n (places (λ st. uses q st (own a)) 0 q.steps)) n) i u p st h e k l

  pub last_section-within : (v : ℕ) (ps : List Production) (n : ℕ) → n ≤ v → ((i t : ℕ) (p : Production) → Has ps i p → p.left ≡ x → t < length p.steps → section p t ≤ v) → last_section x a n ps ≤ v
  last_section-within v [] n h g = h
  last_section-within v (p ∷ ps) n h g = last_section-within v ps _ (go (eqb p.left x) refl) (λ i t q. g (suc i) t q)
    where
      m : ℕ
      m = latest p n (places (λ st. uses p st (own a)) 0 p.steps)

      go : (b : Bool) → eqb p.left x ≡ b → cond b m n ≤ v
      go true e = latest-within p v (places (λ st. uses p st (own a)) 0 p.steps) n h (λ t k. g 0 t p refl (eqb→eq p.left x (of_true (eqb p.left x) e)) (let r = mem_places (λ st. uses p st (own a)) p.steps 0 t k in let l = has-below p.steps r.0 r.1 r.3 in omega arith))
      go false e = h

  pub first_section_start : (ps : List Production) (n : ℕ) → first_section x a n ps ≤ n
  first_section_start [] n = omega arith
  first_section_start (p ∷ ps) n = go (eqb p.left x) (first_section_start ps)
    where
      m : ℕ
      m = earliest p n (places (λ st. defines p st (own a)) 0 p.steps)

      go : (b : Bool) → ((i : ℕ) → first_section x a i ps ≤ i) → first_section x a (cond b m n) ps ≤ n
      go true r = let h = earliest_start p (places (λ st. defines p st (own a)) 0 p.steps) n in let g = r m in omega arith
      go false r = r n

  first_here : (p : Production) (ps : List Production) (n u : ℕ) (st : Step) → p.left ≡ x → Has p.steps u st → T (defines p st (own a)) → first_section x a n (p ∷ ps) ≤ section p u
  first_here p ps n u st e k l =
      let f : Step → Bool = λ st. defines p st (own a) in
      let m : ℕ = earliest p n (places f 0 p.steps) in
      let i : 0 + u ≡ u = omega arith in
      let h = earliest_mem p (places f 0 p.steps) n u (subst (λ (v : ℕ). Mem v (places f 0 p.steps)) i (places_mem f p.steps 0 u st k l)) in
      let g = first_section_start ps m in
      rw (true_of (eqb p.left x) (eq→eqb p.left x e)) (omega arith)

  -- a section that evaluates the attribute is no less
  pub first_section-defines : (ps : List Production) (n i u : ℕ) (p : Production) (st : Step) → Has ps i p → p.left ≡ x → Has p.steps u st → T (defines p st (own a)) → first_section x a n ps ≤ section p u
  first_section-defines [] n i u p st h e k l = let z : ◌≡◌ {A = ℕ} 0 1 = cc in absurd (omega arith)
  first_section-defines (q ∷ ps) n zero u p st h e k l = let g : p ≡ q = cc in subst (λ (z : Production). first_section x a n (z ∷ ps) ≤ section p u) g (first_here p ps n u st e k l)
  first_section-defines (q ∷ ps) n (suc i) u p st h e k l = first_section-defines ps (cond (eqb q.left x) (earliest q n (places (λ st. defines q st (own a)) 0 q.steps)) n) i u p st h e k l

  pub first_section_positive : (ps : List Production) (n : ℕ) → 1 ≤ n → 1 ≤ first_section x a n ps
  first_section_positive [] n h = h
  first_section_positive (p ∷ ps) n h = first_section_positive ps _ (go (eqb p.left x))
    where
      m : ℕ
      m = earliest p n (places (λ st. defines p st (own a)) 0 p.steps)

      go : (b : Bool) → 1 ≤ cond b m n
      go true = earliest_positive p (places (λ st. defines p st (own a)) 0 p.steps) n h
      go false = h
