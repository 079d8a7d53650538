use Rattle.std.proofs.Common.{◌≡◌, ℕ, List, [], ◌++◌, codes, decimal, sym, refl, ap, append-nil}
use Rattle.std.specs.Fmt.{digits}
use Rattle.grammar.specs.declared.refusal.Refusal.{Refusal}
use Rattle.grammar.specs.declared.refusal.Refusal.TheVariants.{Memory, UnevenBytes, NoWords, TooManyWords, OutOfOrder, OverLimit, BadField, Absent, WrongSort, BadRoot, NoFiniteTree, OutOfReach, NotRuledOnce, NotEvaluatedOnce, BadSequence, TooEarly}
use Rattle.grammar.specs.Refusals.{line_of, number_of, names_of, spelt}
use Rattle.grammar.proofs.refusal.text.lines_stand.Goals as goal

-- a name at the end of a line
at_end : (front : List ℕ) (n : ℕ) → front ++ decimal n ≡ front ++ (decimal n ++ [])
at_end front n = ap (λ (ds : List ℕ). front ++ ds) (sym (append-nil (decimal n)))

spelt_so : (e : Refusal) → line_of e ≡ spelt (number_of e) (names_of e)
unfolding digits
spelt_so Memory = refl
spelt_so UnevenBytes = refl
spelt_so NoWords = refl
spelt_so TooManyWords = refl
spelt_so (OutOfOrder w) = at_end (codes "no 3 ") w
spelt_so (OverLimit w) = at_end (codes "no 4 ") w
spelt_so (BadField w) = at_end (codes "no 5 ") w
spelt_so (Absent w) = at_end (codes "no 6 ") w
spelt_so (WrongSort w) = at_end (codes "no 7 ") w
spelt_so (BadRoot x) = at_end (codes "no 10 ") x
spelt_so (NoFiniteTree x) = at_end (codes "no 11 ") x
spelt_so (OutOfReach x) = at_end (codes "no 12 ") x
spelt_so (NotRuledOnce p) = at_end (codes "no 13 ") p
spelt_so (NotEvaluatedOnce p) = at_end (codes "no 14 ") p
spelt_so (BadSequence p) = at_end (codes "no 15 ") p
spelt_so (TooEarly p t) = ap (λ (ds : List ℕ). codes "no 16 " ++ (decimal p ++ (codes " " ++ ds))) (sym (append-nil (decimal t)))

pub returns : goal.returns
returns c = spelt_so
