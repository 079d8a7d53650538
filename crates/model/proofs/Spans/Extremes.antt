-- The last section that reads an attribute is the greatest of those that do, and the first that gives it its value the least.
use Rattle.std.proofs.Common.{◌≡◌, ℕ, suc, ◌<◌, ◌≤◌, min, max, Bool, true, false, cond, eqb, ◌⊎◌, List, [], ◌∷◌, sym, refl, ◌∙◌, subst, inl, inr, arith, eqb→eq}
use Rattle.model.specs.Lists.{Has, places}
use Rattle.model.specs.Scheme.{Step, Production, Scheme}
use Rattle.model.specs.Sequences.{section, uses, defines}
use Rattle.model.specs.Spans.{last_section, first_section, latest, earliest, own}
use Rattle.model.specs.Conditions.{Last, First}
use Rattle.model.proofs.Common.ListFacts.{true_of, of_true, le_or_lt}
use Rattle.model.proofs.Spans.Lists.{Mem, mem_places}
use Rattle.model.proofs.Spans.Sections.{last_section_start, last_section-uses, first_section_start, first_section-defines}

-- among the steps ts, and n

module _ (p : Production) where
  latest_met : (ts : List ℕ) (n : ℕ) → (latest p n ts ≡ n) ⊎ ((t : ℕ) × Mem t ts × (section p t ≡ latest p n ts))
  latest_met [] n = inl refl
  latest_met (t ∷ ts) n = go (latest_met ts (max n (section p t))) (le_or_lt (section p t) n)
    where
      l : ℕ
      l = latest p (max n (section p t)) ts

      go : (l ≡ max n (section p t)) ⊎ ((u : ℕ) × Mem u ts × (section p u ≡ l)) → (section p t ≤ n) ⊎ (n < section p t) → (l ≡ n) ⊎ ((u : ℕ) × Mem u (t ∷ ts) × (section p u ≡ l))
      go (inl e) (inl o) = inl (omega arith)
      go (inl e) (inr o) = inr (t, inl refl, omega arith)
      go (inr q) o = inr (q.0, inr q.1, q.2)

  earliest_met : (ts : List ℕ) (n : ℕ) → (earliest p n ts ≡ n) ⊎ ((t : ℕ) × Mem t ts × (section p t ≡ earliest p n ts))
  earliest_met [] n = inl refl
  earliest_met (t ∷ ts) n = go (earliest_met ts (min n (section p t))) (le_or_lt n (section p t))
    where
      l : ℕ
      l = earliest p (min n (section p t)) ts

      go : (l ≡ min n (section p t)) ⊎ ((u : ℕ) × Mem u ts × (section p u ≡ l)) → (n ≤ section p t) ⊎ (section p t < n) → (l ≡ n) ⊎ ((u : ℕ) × Mem u (t ∷ ts) × (section p u ≡ l))
      go (inl e) (inl o) = inl (omega arith)
      go (inl e) (inr o) = inr (t, inl refl, omega arith)
      go (inr q) o = inr (q.0, inr q.1, q.2)

-- among the steps of the productions ps of symbol x that pass a test

module _ (f : Production → Step → Bool) (x : ℕ) where
  abbrev Met : List Production → ℕ → Type 0
  Met ps l = (n t : ℕ) × (p : Production) × (st : Step) × Has ps n p × (p.left ≡ x) × Has p.steps t st × (f p st ≡ true) × (section p t ≡ l)

  met_later : (p : Production) (ps : List Production) (l : ℕ) → Met ps l → Met (p ∷ ps) l
  met_later p ps l q = (suc q.0, q.1, q.2, q.3, q.4, q.5, q.6, q.7, q.8)

  met_here : (p : Production) (ps : List Production) (l t : ℕ) → p.left ≡ x → Mem t (places (f p) 0 p.steps) → section p t ≡ l → Met (p ∷ ps) l
  met_here p ps l t e m s =
      let r = mem_places (f p) p.steps 0 t m in
      let d : r.0 ≡ t = omega arith in
      (0, t, p, r.1, refl, e, subst (λ (u : ℕ). Has p.steps u r.1) d r.3, true_of (f p r.1) r.4, s)

  -- production p comes to m from n, and the rest to l from there
  met_next : (p : Production) (ps : List Production) (n m l : ℕ) → p.left ≡ x → (m ≡ n) ⊎ ((t : ℕ) × Mem t (places (f p) 0 p.steps) × (section p t ≡ m)) → (l ≡ m) ⊎ Met ps l → (l ≡ n) ⊎ Met (p ∷ ps) l
  met_next p ps n m l e (inl d) (inl k) = inl (k ∙ d)
  met_next p ps n m l e (inr q) (inl k) = inr (met_here p ps l q.0 e q.1 (q.2 ∙ sym k))
  met_next p ps n m l e o (inr q) = inr (met_later p ps l q)

  met_other : (p : Production) (ps : List Production) (n l : ℕ) → (l ≡ n) ⊎ Met ps l → (l ≡ n) ⊎ Met (p ∷ ps) l
  met_other p ps n l (inl k) = inl k
  met_other p ps n l (inr q) = inr (met_later p ps l q)

module _ (x a : ℕ) where
  abbrev reads : Production → Step → Bool
  reads p st = uses p st (own a)

  abbrev gives : Production → Step → Bool
  gives p st = defines p st (own a)

  last_met : (ps : List Production) (n : ℕ) → (last_section x a n ps ≡ n) ⊎ Met reads x ps (last_section x a n ps)
  last_met [] n = inl refl
  last_met (p ∷ ps) n = go (eqb p.left x) refl (last_met ps)
    where
      m : ℕ
      m = latest p n (places (reads p) 0 p.steps)

      go : (b : Bool) → eqb p.left x ≡ b → ((i : ℕ) → (last_section x a i ps ≡ i) ⊎ Met reads x ps (last_section x a i ps)) → (last_section x a (cond b m n) ps ≡ n) ⊎ Met reads x (p ∷ ps) (last_section x a (cond b m n) ps)
      go true e r = met_next reads x p ps n m (last_section x a m ps) (eqb→eq p.left x (of_true (eqb p.left x) e)) (latest_met p (places (reads p) 0 p.steps) n) (r m)
      go false e r = met_other reads x p ps n (last_section x a n ps) (r n)

  first_met : (ps : List Production) (n : ℕ) → (first_section x a n ps ≡ n) ⊎ Met gives x ps (first_section x a n ps)
  first_met [] n = inl refl
  first_met (p ∷ ps) n = go (eqb p.left x) refl (first_met ps)
    where
      m : ℕ
      m = earliest p n (places (gives p) 0 p.steps)

      go : (b : Bool) → eqb p.left x ≡ b → ((i : ℕ) → (first_section x a i ps ≡ i) ⊎ Met gives x ps (first_section x a i ps)) → (first_section x a (cond b m n) ps ≡ n) ⊎ Met gives x (p ∷ ps) (first_section x a (cond b m n) ps)
      go true e r = met_next gives x p ps n m (first_section x a m ps) (eqb→eq p.left x (of_true (eqb p.left x) e)) (earliest_met p (places (gives p) 0 p.steps) n) (r m)
      go false e r = met_other gives x p ps n (first_section x a n ps) (r n)

pub last_is : (s : Scheme) (x a j : ℕ) → Last s x a j (last_section x a j s.productions)
last_is s x a j = record {
  at_least = last_section_start x a s.productions j;
  covers = λ n t p st h e k u. last_section-uses x a s.productions j n t p st h e k (of_true (uses p st (own a)) u);
  reached = last_met x a s.productions j;
}

pub first_is : (s : Scheme) (x a j : ℕ) → First s x a j (first_section x a j s.productions)
first_is s x a j = record {
  at_most = first_section_start x a s.productions j;
  covers = λ n t p st h e k u. first_section-defines x a s.productions j n t p st h e k (of_true (defines p st (own a)) u);
  reached = first_met x a s.productions j;
}
