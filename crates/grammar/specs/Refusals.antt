-- The number of each refusal, and what it names.
use Rattle.std.specs.Prelude.{◌≡◌, ℕ, List, [], ◌∷◌, ◌++◌, Some, None, codes, decimal, Option}
use Rattle.grammar.specs.declared.refusal.Refusal.{Refusal}
use Rattle.grammar.specs.declared.refusal.Refusal.TheVariants.{Memory, UnevenBytes, NoWords, TooManyWords, OutOfOrder, OverLimit, BadField, Absent, WrongSort, BadRoot, NoFiniteTree, OutOfReach, NotRuledOnce, NotEvaluatedOnce, BadSequence, TooEarly}

-- want of memory has no number
abbrev pub number_of : Refusal → Option ℕ
number_of Memory = None
number_of UnevenBytes = Some 8
number_of NoWords = Some 1
number_of TooManyWords = Some 2
number_of (OutOfOrder w) = Some 3
number_of (OverLimit w) = Some 4
number_of (BadField w) = Some 5
number_of (Absent w) = Some 6
number_of (WrongSort w) = Some 7
number_of (BadRoot x) = Some 10
number_of (NoFiniteTree x) = Some 11
number_of (OutOfReach x) = Some 12
number_of (NotRuledOnce p) = Some 13
number_of (NotEvaluatedOnce p) = Some 14
number_of (BadSequence p) = Some 15
number_of (TooEarly p t) = Some 16

abbrev pub names_of : Refusal → List ℕ
names_of Memory = []
names_of UnevenBytes = []
names_of NoWords = []
names_of TooManyWords = []
names_of (OutOfOrder w) = w ∷ []
names_of (OverLimit w) = w ∷ []
names_of (BadField w) = w ∷ []
names_of (Absent w) = w ∷ []
names_of (WrongSort w) = w ∷ []
names_of (BadRoot x) = x ∷ []
names_of (NoFiniteTree x) = x ∷ []
names_of (OutOfReach x) = x ∷ []
names_of (NotRuledOnce p) = p ∷ []
names_of (NotEvaluatedOnce p) = p ∷ []
names_of (BadSequence p) = p ∷ []
names_of (TooEarly p t) = p ∷ t ∷ []

-- the line that says it
abbrev pub line_of : Refusal → List ℕ
line_of Memory = codes "no memory"
line_of UnevenBytes = codes "no 8"
line_of NoWords = codes "no 1"
line_of TooManyWords = codes "no 2"
line_of (OutOfOrder w) = codes "no 3 " ++ decimal w
line_of (OverLimit w) = codes "no 4 " ++ decimal w
line_of (BadField w) = codes "no 5 " ++ decimal w
line_of (Absent w) = codes "no 6 " ++ decimal w
line_of (WrongSort w) = codes "no 7 " ++ decimal w
line_of (BadRoot x) = codes "no 10 " ++ decimal x
line_of (NoFiniteTree x) = codes "no 11 " ++ decimal x
line_of (OutOfReach x) = codes "no 12 " ++ decimal x
line_of (NotRuledOnce p) = codes "no 13 " ++ decimal p
line_of (NotEvaluatedOnce p) = codes "no 14 " ++ decimal p
line_of (BadSequence p) = codes "no 15 " ++ decimal p
line_of (TooEarly p t) = codes "no 16 " ++ (decimal p ++ (codes " " ++ decimal t))

-- `no`, a number and names, a space before each
abbrev pub spaced : List ℕ → List ℕ
spaced [] = []
spaced (n ∷ ns) = codes " " ++ (decimal n ++ spaced ns)

abbrev pub spelt : Option ℕ → List ℕ → List ℕ
spelt None ns = codes "no memory"
spelt (Some n) ns = codes "no" ++ spaced (n ∷ ns)

-- each line is spelt so
abbrev pub LinesSpelt : Type 0
LinesSpelt = (e : Refusal) → line_of e ≡ spelt (number_of e) (names_of e)
