-- The spans that a production has on stacks, attribute by attribute. Assumes nothing.
use Rattle.std.proofs.Common.{◌≡◌, ℕ, zero, suc, ◌+◌, ◌≤◌, min, cond, List, [], ◌∷◌, ◌++◌, length, drop, sym, refl, ap, ◌∙◌, arith, inl, inr}
use mathlib.Core.Option.{Option, none}
use lib.ListN.{get_elem?}
use Rattle.std.proofs.lemmas.List.{append_assoc, append-nil, drop_all}
use Rattle.model.specs.Lists.{Has}
use Rattle.model.specs.Scheme.{Attribute, Production, Scheme}
use Rattle.model.specs.Spans.{spans}
use Rattle.model.specs.Plan.{Letter, letter_or_kept, is_stacked}
use Rattle.model.specs.Tables.{StackSpan, on_stack, stack_spans_from}
use Rattle.model.proofs.Common.ListFacts.{le_or_lt, some_same, some_none}

-- what is left of a list from place i on, where x is
drop-has : {X : Type 0} (xs : List X) (i : ℕ) (x : X) → Has xs i x → drop i xs ≡ x ∷ drop (suc i) xs
drop-has [] i x h = absurd (some_none x h)
drop-has {X} (y ∷ ys) zero x h = ap (λ (z : X). z ∷ ys) (some_same y x h)
drop-has (y ∷ ys) (suc i) x h = drop-has ys i x h

none_there : {X : Type 0} (xs : List X) (i : ℕ) → length xs ≤ i → get_elem? xs i ≡ none
none_there [] i l = refl
none_there (x ∷ xs) zero l = absurd (omega arith)
none_there (x ∷ xs) (suc i) l = none_there xs i (omega arith)

module _ (s : Scheme) (p : Production) (ls : List Letter) where
  -- those of the attributes before i are there, the others are to come
  abbrev pub Holding : ℕ → List StackSpan → Type 0
  Holding i hs = hs ++ stack_spans_from s ls p i (drop i s.attributes) ≡ stack_spans_from s ls p 0 s.attributes

  -- those of attribute i, which is b, by its letter, and of the next ones
  abbrev by_letter : ℕ → Attribute → List Attribute → Option Letter → List StackSpan
  by_letter i b bs l = cond (is_stacked (letter_or_kept l)) (on_stack i (spans s i b p)) [] ++ stack_spans_from s ls p (suc i) bs

  pub holding_more : (i n : ℕ) (b c : Attribute) (l : Letter) (hs more : List StackSpan) → Has s.attributes i b → Has ls i l → n ≡ i → c ≡ b → more ≡ hs ++ cond (is_stacked l) (on_stack n (spans s n c p)) [] → Holding i hs → Holding (i + 1) more
  holding_more i n b c l hs more hb hl en ec e h =
      let on : i + 1 ≡ suc i = omega arith in
      let mine = cond (is_stacked l) (on_stack i (spans s i b p)) [] in
      let rest = stack_spans_from s ls p (suc i) (drop (suc i) s.attributes) in
      ap (λ (n : ℕ). more ++ stack_spans_from s ls p n (drop n s.attributes)) on
      ∙ ap (λ (zs : List StackSpan). zs ++ rest) (e ∙ (λ j. hs ++ cond (is_stacked l) (on_stack (en j) (spans s (en j) (ec j) p)) []))
      ∙ append_assoc hs mine rest
      ∙ sym (ap (λ (bs : List Attribute). hs ++ stack_spans_from s ls p i bs) (drop-has s.attributes i b hb) ∙ ap (λ (k : Option Letter). hs ++ by_letter i b (drop (suc i) s.attributes) k) hl)
      ∙ h

  -- an attribute past the letters has none
  none_past : (i : ℕ) (bs : List Attribute) → length ls ≤ i → stack_spans_from s ls p i bs ≡ []
  none_past i [] l = refl
  none_past i (b ∷ bs) l = ap (by_letter i b bs) (none_there ls i l) ∙ none_past (suc i) bs (omega arith)

  pub holding_all : (i : ℕ) (hs : List StackSpan) → min (length s.attributes) (length ls) ≤ i → Holding i hs → hs ≡ stack_spans_from s ls p 0 s.attributes
  holding_all i hs l h = sym (append-nil hs) ∙ sym (ap (λ (zs : List StackSpan). hs ++ zs) none_to_come) ∙ h
    where
      none_to_come : stack_spans_from s ls p i (drop i s.attributes) ≡ []
      none_to_come = elim (le_or_lt (length s.attributes) i) [
        | inl past ↦ ap (stack_spans_from s ls p i) (drop_all i s.attributes past)
        | inr below ↦ none_past i (drop i s.attributes) (omega arith)
      ]
