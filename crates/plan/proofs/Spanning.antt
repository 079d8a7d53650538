-- The spans of an attribute at all the children that are its symbol. Assumes nothing.
use Rattle.std.proofs.Common.{◌≡◌, ℕ, suc, ◌+◌, Bool, true, false, cond, eqb, List, [], ◌∷◌, map, refl, ap, ◌∙◌, add-one, arith}
use Rattle.std.specs.List.{filter, enumerate_from}
use Rattle.model.specs.Scheme.{Attribute, Production, Scheme}
use Rattle.model.specs.Spans.{Sections, span_on, attribute_sections, children_of, spans_at}

-- what stands for each child that is the symbol, by its place
pub at_children : {Z : Type 0} (f : ℕ → Z) (x n : ℕ) (cs : List ℕ) → map (λ q. f (q.0 + 1)) (filter (λ q. eqb q.1 x) (enumerate_from n cs)) ≡ map f (children_of x (n + 1) cs)
at_children f x n [] = refl
at_children {Z} f x n (c ∷ cs) = go (eqb c x) (rw (add-one n) (at_children f x (suc n) cs ∙ ap (λ (m : ℕ). map f (children_of x m cs)) (omega arith)))
  where
    go : (b : Bool) → map (λ q. f (q.0 + 1)) (filter (λ q. eqb q.1 x) (enumerate_from (n + 1) cs)) ≡ map f (children_of x (suc (n + 1)) cs) → map (λ q. f (q.0 + 1)) (cond b ((n, c) ∷ filter (λ q. eqb q.1 x) (enumerate_from (n + 1) cs)) (filter (λ q. eqb q.1 x) (enumerate_from (n + 1) cs))) ≡ map f (cond b ((n + 1) ∷ children_of x (suc (n + 1)) cs) (children_of x (suc (n + 1)) cs))
    go true e = ap (λ (zs : List Z). f (n + 1) ∷ zs) e
    go false e = e

-- those are the spans of the attribute whose sections they were made from
pub spans_are : (s : Scheme) (a : ℕ) (b : Attribute) (p : Production) (w : Sections) (ks : List ℕ) → w ≡ attribute_sections s a b → map (span_on p a b.side w) ks ≡ spans_at s a b p ks
spans_are s a b p w [] e = refl
spans_are s a b p w (k ∷ ks) e = λ i. span_on p a b.side (e i) k ∷ spans_are s a b p w ks e i
