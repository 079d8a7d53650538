-- The width of a production, moment by moment, and the widest of them. Assumes nothing.
use Rattle.std.proofs.Common.{◌≡◌, ℕ, zero, suc, ◌+◌, max, List, [], ◌∷◌, length, map, refl, ap, ◌∙◌, arith}
use Rattle.std.specs.List.{fold, range_with_len}
use Rattle.model.specs.Lists.{count}
use Rattle.model.specs.Spans.{open_during}
use Rattle.model.specs.Tables.{StackSpan, ProductionTable, most_open, widest_of}

-- the greatest of the widths is that of the widest table
module _ {X : Type 0} (u : X → ProductionTable) where
  width_from : (n : ℕ) (xs : List X) → fold (λ a x. max a (u x).width) n xs ≡ max n (widest_of (map u xs))
  width_from n [] = omega arith
  width_from n (x ∷ xs) =
      let rest : ℕ = widest_of (map u xs) in
      let w : ℕ = (u x).width in
      let h : max (max n w) rest ≡ max n (max w rest) = omega arith in
      width_from (max n w) xs ∙ h

  pub widest-fold : (xs : List X) → fold (λ a x. max a (u x).width) 0 xs ≡ widest_of (map u xs)
  widest-fold xs = let h : max 0 (widest_of (map u xs)) ≡ widest_of (map u xs) = omega arith in width_from 0 xs ∙ h

-- the most that are open at one of the moments before i, and at those from there on, before m
most_from : (hs : List StackSpan) (a i n m : ℕ) → i + n ≡ m → a ≡ most_open hs i → fold (λ b k. max b (count (λ h. open_during k h.span) hs)) a (range_with_len i n) ≡ most_open hs m
most_from hs a i zero m l e = let end : i ≡ m = omega arith in e ∙ ap (most_open hs) end
most_from hs a i (suc n) m l e =
    let next : suc i ≡ i + 1 = omega arith in
    let left : i + 1 + n ≡ m = omega arith in
    most_from hs (max a (count (λ h. open_during i h.span) hs)) (i + 1) n m left (ap (λ (b : ℕ). max b (count (λ h. open_during i h.span) hs)) e ∙ ap (most_open hs) next)

pub most-fold : (hs : List StackSpan) (n : ℕ) → fold (λ b k. max b (count (λ h. open_during k h.span) hs)) 0 (range_with_len 0 n) ≡ most_open hs n
most-fold hs n = most_from hs 0 0 n n (omega arith) refl

-- where there is no span none is open
none : (n : ℕ) → most_open [] n ≡ 0
none zero = refl
none (suc n) = let e : max (most_open [] n) 0 ≡ most_open [] n = omega arith in e ∙ none n

pub none_open : {X : Type 0} (u : X → StackSpan) (xs : List X) (n : ℕ) → length xs ≡ 0 → most_open (map u xs) n ≡ 0
none_open u [] n e = none n
none_open u (x ∷ xs) n e = absurd (omega arith)
